-- The addresses that are gathered of several parts, one after another, and of memory.
use Rattle.std.proofs.Common.{◌≡◌, ◌⊎◌, ℕ, ◌+◌, true, false, cond, nat_eq, List, [], ◌∷◌, ◌++◌, map, filter, Option, None, Some, refl, ap}
use Rattle.std.proofs.Common.{ap₂, sym, ◌∙◌, subst, arith, inl, inr, ⊎_elim}
use Rattle.std.specs.Prelude.{IfSome, zip}
use Rattle.std.specs.List.{AllZip, concat}
use Rattle.std.specs.Cmp.Lexicographic.{pointwise, same_text, nat_list_eq_equiv}
use Rattle.std.proofs.lemmas.Cmp.{nat_list_cmp_total}
use Rattle.std.proofs.lemmas.List.Elements.{filter-append}
use Rattle.std.proofs.lemmas.Map.Lookups.{exact_bytes}
use Rattle.wu_base.specs.declared.addresses.PartRec.{PartRec}
use Rattle.wu_base.specs.declared.addresses.Range.{Range}
use Rattle.wu_base.proofs.Members.{Has}
use Rattle.wu_base.proofs.SortedLists.{has-sorted_once}
use Rattle.wu_outside.specs.Content.{Content}
use Rattle.wu_outside.specs.declared.ranges.ReadRange.{ReadRange}
use Rattle.wu_layout.specs.Postings.{Posting, addresses_of, fetched, is_live, is_of}
use Rattle.wu_layout.specs.Layouts.{Part, list_of, lists_of, stored_in, terms_of}
use Rattle.wu_layout.proofs.ListLemmas.{all_terms}
use Rattle.wu_layout.proofs.TermLemmas.{addresses_of-append}
use Rattle.wu_part.specs.declared.entries.TermEntry.{TermEntry}
use Rattle.wu_part.specs.Directories.{PartDirectory}
use Rattle.wu_part.specs.Parts.{HoldsList, IsRecorded, SpellsPart}
use Rattle.wu_lists.specs.declared.blocks.Block.{Block}
use Rattle.wu_lists.specs.Blocks.{entry_of}
use Rattle.wu_lists.specs.Fetching.{AreGathered, HasEntry, HasTerm}
use Rattle.wu_lists.specs.Keeping.{AreHeld, Asks, Kept}
use Rattle.wu_parts.specs.Contents.{Contents}
use Rattle.wu_parts.specs.Holdings.{AreKept, HoldParts, HoldTerm}
use Rattle.wu_parts.specs.Memory.{Memory, held}
use Rattle.wu_lists.specs.Ascending.{AscendBetween}
use Rattle.wu_parts.specs.StoredParts.{AreGatheredFrom, AreGatheredIn, SpansAscend, directories_of, pairs_of, records_of}
use Rattle.wu_parts.specs.declared.writing.StoredPart.{StoredPart}
use Rattle.wu_lists.proofs.Ascending.{ascend-filter, ascend-join, ascend-lower}
use Rattle.wu_parts.proofs.Asking.{seen-parts}

-- a term stands somewhere or nowhere
in_terms : (term : List ℕ) (ps : List Posting) → Has term (all_terms ps) ⊎ (addresses_of term ps ≡ [])
in_terms term [] = inr refl
in_terms term (p ∷ ps) =
    elim (is_of term p) as
    (λ b. is_of term p ≡ b
    → Has term (all_terms (p ∷ ps))
    ⊎ (map (λ (q : Posting). q.address) (cond b (p ∷ filter (is_of term) ps) (filter (is_of term) ps)) ≡ [])) [
      | true ↦ λ t. inl (inl (same_text p.term term (sym t)))
      | false ↦ λ f.
          ⊎_elim (λ (i : Has term (all_terms ps)). inl (inr i)) (λ (e : addresses_of term ps ≡ []). inr e) (in_terms term ps)
    ] refl

module _ (low : ℕ) (bytes : List ℕ) (term : List ℕ) (ps : List Posting) where
  entry_found : (entries : List TermEntry) (terms : List (List ℕ)) → AllZip (HoldsList low bytes) entries (map (list_of ps) terms)
      → Has term terms ⊎ (addresses_of term ps ≡ []) → HasEntry low bytes term (entry_of entries term) (addresses_of term ps)
  entry_found [] [] z h = ⊎_elim (λ i. absurd i) (λ e. e) h
  entry_found [] (t ∷ terms) z h = absurd z
  entry_found (entry ∷ entries) [] z h = absurd z
  entry_found (entry ∷ entries) (t ∷ terms) z h =
      elim (pointwise nat_eq entry.term term) as
      (λ b. pointwise nat_eq entry.term term ≡ b
      → HasEntry low bytes term (cond b (Some entry) (entry_of entries term)) (addresses_of term ps)) [
        | true ↦ λ e.
            let same : t ≡ term = sym z.0.term ∙ same_text entry.term term (sym e) in
            subst (λ (x : List ℕ). HoldsList low bytes entry (list_of ps x)) same z.0
        | false ↦ λ f.
            entry_found entries terms z.1
            (⊎_elim
            (λ (i : (t ≡ term) ⊎ Has term terms).
            ⊎_elim
            (λ (e : t ≡ term).
            let same : pointwise nat_eq entry.term term ≡ true =
            ap (λ (x : List ℕ). pointwise nat_eq x term) (z.0.term ∙ e) ∙ nat_list_eq_equiv.refl term in absurd cc)
            (λ (j : Has term terms). inl j)
            i)
            (λ (e : addresses_of term ps ≡ []). inr e)
            h)
      ] refl

-- a part has each term at the addresses of its postings
pub has_term : (directory : PartDirectory) (term bytes : List ℕ) (ps : List Posting) → SpellsPart directory (lists_of ps) bytes
    → HasTerm directory term bytes (addresses_of term ps)
has_term directory term bytes ps s =
    entry_found directory.low bytes term ps directory.terms (terms_of ps) s.lists_held
    (⊎_elim
    (λ (i : Has term (all_terms ps)). inl (has-sorted_once nat_list_cmp_total exact_bytes term (all_terms ps) i))
    (λ (e : addresses_of term ps ≡ []). inr e)
    (in_terms term ps))

kept_after : (content : Content) (records : List PartRec) (old new : Kept)
    → ((blob : ℕ) (bytes : List ℕ) → content.blobs blob ≡ Some bytes → AreHeld blob bytes old → AreHeld blob bytes new)
    → AreKept content records old → AreKept content records new
kept_after content [] old new f a = tt
kept_after content (recorded ∷ records) old new f a =
    ((λ bytes e. f recorded.blob bytes e (a.0 bytes e)), kept_after content records old new f a.1)

pub gathered-none : (term : List ℕ) (frames : List Range) (holds : Option Content) (kept : Kept)
    → AreGatheredFrom [] term frames holds kept []
gathered-none term frames None kept = record { ascend = λ low high s. s; told = tt }
gathered-none term frames (Some content) kept = record { ascend = λ low high s. s; told = none }
  where
    none : (lists : List (List ℕ)) → HoldTerm content term [] lists → AreKept content [] kept → [] ≡ filter (is_live frames) (concat lists)
    none [] h k = refl
    none (addresses ∷ lists) h k = absurd h

module _ (part : StoredPart) (later : List StoredPart) (term : List ℕ) (frames : List Range) (old middle : Kept) (more rest : List ℕ)
    (told : IsRecorded part.recorded part.directory) where
  told_both : (holds : Option Content)
      → IfSome holds (λ content. (bytes addresses : List ℕ) → content.blobs part.recorded.blob ≡ Some bytes
      → AreHeld part.recorded.blob bytes old → HasTerm part.directory term bytes addresses
      → filter (is_live frames) more ≡ filter (is_live frames) addresses)
      → IfSome holds (λ content. (lists : List (List ℕ)) → HoldTerm content term (pairs_of later) lists
      → AreKept content (records_of later) middle → filter (is_live frames) rest ≡ filter (is_live frames) (concat lists))
      → IfSome holds (λ content. (blob : ℕ) (bytes : List ℕ) → content.blobs blob ≡ Some bytes → AreHeld blob bytes old
      → AreHeld blob bytes middle)
      → IfSome holds (λ content. (lists : List (List ℕ)) → HoldTerm content term (pairs_of (part ∷ later)) lists
      → AreKept content (records_of (part ∷ later)) old → filter (is_live frames) (more ++ rest) ≡ filter (is_live frames) (concat lists))
  told_both None a b h = tt
  told_both (Some content) a b h = both
    where
      both : (lists : List (List ℕ)) → HoldTerm content term (pairs_of (part ∷ later)) lists
          → AreKept content (records_of (part ∷ later)) old
          → filter (is_live frames) (more ++ rest) ≡ filter (is_live frames) (concat lists)
      both [] p k = absurd p
      both (addresses ∷ lists) p k =
          filter-append (is_live frames) more rest
          ∙ ap₂ (λ (xs ys : List ℕ). xs ++ ys) (a p.0.0 addresses p.0.1 (k.0 p.0.0 p.0.1) p.0.2)
          (b lists p.1 (kept_after content (records_of later) old middle h k.1))
          ∙ sym (filter-append (is_live frames) addresses (concat lists))

  pub gathered-first : (holds : Option Content) (blocks : List Block) (ranges ranges_now : Option (List ReadRange))
      → AreGathered (HasTerm part.directory term) frames part.recorded.blob part.directory.low (part.directory.high + 1) holds old more
      → Asks blocks holds old middle ranges ranges_now
      → AreGatheredFrom later term frames holds middle rest → AreGatheredFrom (part ∷ later) term frames holds old (more ++ rest)
  gathered-first holds blocks ranges ranges_now f a b = record {
    ascend = λ low high s.
        ascend-join low (part.recorded.high + 1) high more rest
        (ascend-lower low part.directory.low (part.recorded.high + 1) more (omega (arith, s.0, told.low))
        (subst (λ (n : ℕ). AscendBetween part.directory.low (n + 1) more) told.high f.ascend))
        (b.ascend (part.recorded.high + 1) high s.2);
    told = told_both holds f.told b.told a.held;
  }

-- what is fetched of the parts, as contracts see it
pub gathered-seen : (old fields : Contents) (parts slice : List StoredPart) → fields ≡ old → fields.parts ≡ records_of parts
    → fields.directories ≡ directories_of parts → slice ≡ parts → (term : List ℕ) (frames : List Range) (holds : Option Content)
    (found : List ℕ) → SpansAscend 0 fields.memory.low parts → AreGatheredFrom slice term frames holds fields.kept found
    → AreGatheredIn old term frames holds found
gathered-seen old fields parts slice e p d s term frames holds found spans f =
    subst (λ (seen : Contents). AreGatheredIn seen term frames holds found) e
    (record {
      ascend = f.ascend 0 fields.memory.low (subst (SpansAscend 0 fields.memory.low) (sym s) spans);
      told = of_fields holds f.told;
    })
  where
    of_fields : (told_by : Option Content)
        → IfSome told_by (λ content. (lists : List (List ℕ)) → HoldTerm content term (pairs_of slice) lists
        → AreKept content (records_of slice) fields.kept → filter (is_live frames) found ≡ filter (is_live frames) (concat lists))
        → IfSome told_by (λ content. (lists : List (List ℕ)) → HoldTerm content term (zip fields.parts fields.directories) lists
        → AreKept content fields.parts fields.kept → filter (is_live frames) found ≡ filter (is_live frames) (concat lists))
    of_fields None t = tt
    of_fields (Some content) t = λ lists h k.
        t lists (subst (λ ps. HoldTerm content term ps lists) (sym (seen-parts fields fields parts slice refl p d s)) h)
        (subst (λ (rs : List PartRec). AreKept content rs fields.kept) (p ∙ ap records_of (sym s)) k)

-- parts have each term at the addresses of their postings
hold_term : (content : Content) (term : List ℕ) (records : List PartRec) (directories : List PartDirectory) (stored : List Part)
    → HoldParts content records directories stored
    → HoldTerm content term (zip records directories) (map (λ part. addresses_of term part.postings) stored)
hold_term content term [] [] [] h = tt
hold_term content term [] [] (part ∷ stored) h = absurd h
hold_term content term [] (directory ∷ directories) stored h = absurd h
hold_term content term (recorded ∷ records) [] stored h = absurd h
hold_term content term (recorded ∷ records) (directory ∷ directories) [] h = absurd h
hold_term content term (recorded ∷ records) (directory ∷ directories) (part ∷ stored) h = (
  (
    h.0.bytes,
    ap content.blobs h.0.record_of.blob ∙ h.0.held,
    has_term directory term h.0.bytes part.postings h.0.spelled,
  ),
  hold_term content term records directories stored h.1,
)

all_stored : (term : List ℕ) (stored : List Part)
    → concat (map (λ part. addresses_of term part.postings) stored) ≡ addresses_of term (stored_in stored)
all_stored term [] = refl
all_stored term (part ∷ stored) =
    ap (λ (l : List ℕ). addresses_of term part.postings ++ l) (all_stored term stored)
    ∙ sym (addresses_of-append term part.postings (stored_in stored))

-- the addresses in parts, and then those in memory
module _ (old : Contents) (memory : Memory) (same : memory ≡ old.memory) (term : List ℕ) (frames : List Range) (holds : Option Content)
    (found : List ℕ) (f : AreGatheredIn old term frames holds found) where
  ascend-parts : AscendBetween 0 memory.low found
  ascend-parts = subst (λ (m : Memory). AscendBetween 0 m.low found) (sym same) f.ascend

  pub ascend-both : (more : List ℕ) → AscendBetween memory.low memory.end more → AscendBetween 0 memory.end (found ++ more)
  ascend-both more last = ascend-join 0 memory.low memory.end found more ascend-parts last

  pub ascend-live : (more : List ℕ) → AscendBetween memory.low memory.end more
      → AscendBetween 0 memory.end (filter (is_live frames) found ++ more)
  ascend-live more last =
      ascend-join 0 memory.low memory.end (filter (is_live frames) found) more
      (ascend-filter (is_live frames) 0 memory.low found ascend-parts) last

  -- what is made of them, by the parts' lists
  pub lists-both : {X : Type 0} (made_of : List ℕ → X) (all : X)
      → all ≡ made_of (filter (is_live frames) found ++ filter (is_live frames) (held memory term))
      → IfSome holds (λ content. (lists : List (List ℕ)) → HoldTerm content term (zip old.parts old.directories) lists
      → AreKept content old.parts old.kept → all ≡ made_of (filter (is_live frames) (concat lists ++ held old.memory term)))
  lists-both made_of all is = of_told holds f.told
    where
      of_told : (o : Option Content)
          → IfSome o (λ content. (lists : List (List ℕ)) → HoldTerm content term (zip old.parts old.directories) lists
          → AreKept content old.parts old.kept → filter (is_live frames) found ≡ filter (is_live frames) (concat lists))
          → IfSome o (λ content. (lists : List (List ℕ)) → HoldTerm content term (zip old.parts old.directories) lists
          → AreKept content old.parts old.kept → all ≡ made_of (filter (is_live frames) (concat lists ++ held old.memory term)))
      of_told None t = tt
      of_told (Some content) t = λ lists h k.
          is
          ∙ ap made_of
          (ap₂ (λ (xs : List ℕ) (m : Memory). xs ++ filter (is_live frames) (held m term)) (t lists h k) same
          ∙ sym (filter-append (is_live frames) (concat lists) (held old.memory term)))

-- and so by the parts' postings
pub told-both : (old : Contents) (term : List ℕ) (frames : List Range) (holds : Option Content) {X : Type 0} (made_of : List ℕ → X)
    (all : X)
    → IfSome holds (λ content. (lists : List (List ℕ)) → HoldTerm content term (zip old.parts old.directories) lists
    → AreKept content old.parts old.kept → all ≡ made_of (filter (is_live frames) (concat lists ++ held old.memory term)))
    → IfSome holds (λ content. (stored : List Part) → HoldParts content old.parts old.directories stored
    → AreKept content old.parts old.kept
    → all ≡ made_of (fetched frames (stored_in stored) term ++ filter (is_live frames) (held old.memory term)))
told-both old term frames None made_of all t = tt
told-both old term frames (Some content) made_of all t = λ stored h k.
    t (map (λ part. addresses_of term part.postings) stored) (hold_term content term old.parts old.directories stored h) k
    ∙ ap made_of
    (ap (λ (l : List ℕ). filter (is_live frames) (l ++ held old.memory term)) (all_stored term stored)
    ∙ filter-append (is_live frames) (addresses_of term (stored_in stored)) (held old.memory term))

-- the parts' addresses were put after none, and then those in memory
pub put_both : (none found all parts more : List ℕ) → none ≡ [] → found ≡ none ++ parts → all ≡ found ++ more → all ≡ parts ++ more
put_both none found all parts more n f a = a ∙ ap (λ (l : List ℕ). l ++ more) (f ∙ ap (λ (l : List ℕ). l ++ parts) n)

-- those of gathered addresses that lie in the frames, where in memory only those were looked for
pub live_twice : (frames : List Range) (gathered found more : List ℕ) → gathered ≡ found ++ filter (is_live frames) more
    → filter (is_live frames) gathered ≡ filter (is_live frames) found ++ filter (is_live frames) more
live_twice frames gathered found more e =
    ap (filter (is_live frames)) e
    ∙ filter-append (is_live frames) found (filter (is_live frames) more)
    ∙ ap (λ (l : List ℕ). filter (is_live frames) found ++ l) (twice more)
  where
    twice : (xs : List ℕ) → filter (is_live frames) (filter (is_live frames) xs) ≡ filter (is_live frames) xs
    twice [] = refl
    twice (x ∷ xs) =
        elim (is_live frames x) as
        (λ b. is_live frames x ≡ b
        → filter (is_live frames) (cond b (x ∷ filter (is_live frames) xs) (filter (is_live frames) xs))
        ≡ cond b (x ∷ filter (is_live frames) xs) (filter (is_live frames) xs)) [
          | true ↦ λ t. rw t (ap (λ (l : List ℕ). x ∷ l) (twice xs))
          | false ↦ λ f. twice xs
        ] refl
