-- The lists that a job makes, term by term, and what they are of postings.
use Rattle.std.proofs.Common.{◌≡◌, ℕ, nat_eq, true, false, cond, List, [], ◌∷◌, ◌++◌, length, map, filter, refl, ap, ap₂, sym, ◌∙◌, subst}
use Rattle.std.proofs.Common.{arith, ⊎_elim, inl, inr, append_assoc, append-nil}
use Rattle.std.specs.Prelude.{◌⊎◌, Some}
use Rattle.std.specs.Ordering.{nat_cmp}
use Rattle.std.specs.Cmp.Lexicographic.{pointwise, slice_cmp, same_text, nat_list_eq_equiv}
use Rattle.std.specs.List.{AllZip, flat_map}
use Rattle.std.specs.List.Sorted.{IsStrictlySortedBy}
use Rattle.std.proofs.lemmas.Bool.{lt-ltb}
use Rattle.std.proofs.lemmas.Cmp.{nat_list_cmp_total}
use Rattle.std.proofs.lemmas.Map.Lookups.{exact_bytes}
use Rattle.std.proofs.lemmas.List.{map-append}
use Rattle.std.proofs.lemmas.List.Elements.{filter-append}
use Rattle.wu_base.specs.declared.addresses.Range.{Range}
use Rattle.wu_base.specs.declared.addresses.TermList.{TermList}
use Rattle.wu_base.proofs.Members.{Has, Has-from_Contains, Contains-from_Has, map_has, Has-append_left, Has-append_right, Has-append_cases}
use Rattle.wu_base.proofs.SortedLists.{same-sorted_once, sorted-sorted_once, has-sorted_once, sorted_once_has}
use Rattle.wu_outside.specs.Content.{Content}
use Rattle.wu_layout.specs.Postings.{Posting, is_of, addresses_of, is_live, live_of}
use Rattle.wu_layout.specs.Layouts.{terms_of, list_of, lists_of}
use Rattle.wu_layout.proofs.ListLemmas.{all_terms, has_addresses, lists_of_live}
use Rattle.wu_layout.proofs.TermLemmas.{addresses_of-append, addresses_of-live_of}
use Rattle.wu_part.specs.declared.entries.TermEntry.{TermEntry}
use Rattle.wu_part.specs.Parts.{HoldsList}
use Rattle.wu_job.specs.Jobs.{JobPart, JobState, HoldsEntry, HoldsTerm, HoldTerm, AreKept, AreMade, IsRight, list_for, terms_in}
use Rattle.wu_job.specs.Jobs.{terms_of_part}
use Rattle.wu_job.specs.Postings.{HoldsPostings, HoldPostings}
use Rattle.wu_job.proofs.Spans.{entry_same}

-- ---- a term more

made_more : (content : Content) (parts : List JobPart) (live : List Range) (terms : List (List ℕ)) (lists : List TermList)
    (term kept : List ℕ) → AreMade content parts live terms lists → AreKept content parts live term kept
    → AreMade content parts live (terms ++ term ∷ []) (lists ++ list_for term kept)
made_more content parts live [] lists term kept m k =
    (kept, [], k, refl, ap (λ (ls : List TermList). ls ++ list_for term kept) m ∙ sym (append-nil (list_for term kept)))
made_more content parts live (t ∷ terms) lists term kept m k = (
  m.0,
  m.1 ++ list_for term kept,
  m.2,
  made_more content parts live terms m.1 term kept m.3 k,
  ap (λ (ls : List TermList). ls ++ list_for term kept) m.4 ∙ append_assoc (list_for t m.0) m.1 (list_for term kept),
)

-- the lists stay right
pub right_after : (content : Content) (old new : JobState) (term kept : List ℕ) → old.terms_left ≡ term ∷ new.terms_left
    → new.done ≡ old.done ++ list_for term kept → new ≡ record old { done = new.done; terms_left = new.terms_left }
    → AreKept content old.parts old.live term kept → IsRight content old → IsRight content new
right_after content old new term kept first made others held r =
    subst (IsRight content) (sym others)
    (record {
      terms_done = r.terms_done ++ term ∷ [];
      order =
          append_assoc r.terms_done (term ∷ []) new.terms_left
          ∙ ap (λ (ts : List (List ℕ)). r.terms_done ++ ts) (sym first)
          ∙ r.order;
      made =
          subst (AreMade content old.parts old.live (r.terms_done ++ term ∷ [])) (sym made)
          (made_more content old.parts old.live r.terms_done old.done term kept r.made held);
    })

-- ---- the lists of postings

-- the term has no address where it is no term of the postings
none_of_term : (term : List ℕ) (ps : List Posting) → (Has term (all_terms ps) → ⊥) → addresses_of term ps ≡ []
none_of_term term [] n = refl
none_of_term term (p ∷ ps) n =
    elim (is_of term p) as
    (λ b. is_of term p ≡ b → map (λ (q : Posting). q.address) (cond b (p ∷ filter (is_of term) ps) (filter (is_of term) ps)) ≡ []) [
      | true ↦ λ t. absurd (n (inl (same_text p.term term (sym t))))
      | false ↦ λ f. none_of_term term ps (λ h. n (inr h))
    ] refl

-- a directory has an entry of the term, or it has none
pub entry_or_none : (term : List ℕ) (entries : List TermEntry)
    → ((entry : TermEntry) × (Has entry entries × (entry.term ≡ term))) ⊎ ((entry : TermEntry) → Has entry entries → entry.term ≡ term → ⊥)
entry_or_none term [] = inr (λ entry h e. absurd h)
entry_or_none term (x ∷ xs) =
    elim (pointwise nat_eq x.term term) as
    (λ b. pointwise nat_eq x.term term ≡ b
    → ((entry : TermEntry) × (Has entry (x ∷ xs) × (entry.term ≡ term)))
    ⊎ ((entry : TermEntry) → Has entry (x ∷ xs) → entry.term ≡ term → ⊥)) [
      | true ↦ λ t. inl (x, (inl refl, same_text x.term term (sym t)))
      | false ↦ λ f.
          ⊎_elim
          (λ r. inl (r.0, (inr r.1.0, r.1.1)))
          (λ n. inr (λ entry h e. ⊎_elim (λ is. other x entry f is e) (λ i. n entry i e) h))
          (entry_or_none term xs)
    ] refl
  where
    other : (x entry : TermEntry) → pointwise nat_eq x.term term ≡ false → x ≡ entry → entry.term ≡ term → ⊥
    other x entry f is e =
        let same : x.term ≡ term = ap (λ (z : TermEntry). z.term) is ∙ e in
        let t : pointwise nat_eq x.term term ≡ true = subst (λ y. pointwise nat_eq x.term y ≡ true) same (nat_list_eq_equiv.refl x.term) in
        cc

pub list_at_entry : (low : ℕ) (blob : List ℕ) (entry : TermEntry) (entries : List TermEntry) (lists : List TermList)
    → AllZip (HoldsList low blob) entries lists → Has entry entries → (list : TermList) × (Has list lists × HoldsList low blob entry list)
list_at_entry low blob entry [] lists z h = absurd h
list_at_entry low blob entry (x ∷ xs) [] z h = absurd z
list_at_entry low blob entry (x ∷ xs) (list ∷ lists) z h =
    ⊎_elim
    (λ (e : x ≡ entry). (list, (inl refl, subst (λ y. HoldsList low blob y list) e z.0)))
    (λ (i : Has entry xs). let r = list_at_entry low blob entry xs lists z.1 i in (r.0, (inr r.1.0, r.1.1)))
    h

same_names : (low : ℕ) (blob : List ℕ) (entries : List TermEntry) (lists : List TermList) → AllZip (HoldsList low blob) entries lists
    → map (λ entry. entry.term) entries ≡ map (λ list. list.term) lists
same_names low blob [] [] z = refl
same_names low blob [] (list ∷ lists) z = absurd z
same_names low blob (x ∷ xs) [] z = absurd z
same_names low blob (x ∷ xs) (list ∷ lists) z = ap₂ (λ (t : List ℕ) (ts : List (List ℕ)). t ∷ ts) z.0.term (same_names low blob xs lists z.1)

names_of_lists : (ps : List Posting) (terms : List (List ℕ)) → map (λ list. list.term) (map (list_of ps) terms) ≡ terms
names_of_lists ps [] = refl
names_of_lists ps (t ∷ terms) = ap (λ (ts : List (List ℕ)). t ∷ ts) (names_of_lists ps terms)

part_terms : (content : Content) (part : JobPart) (ps : List Posting) → HoldsPostings content part ps → terms_of_part part ≡ terms_of ps
part_terms content part ps h =
    same_names part.directory.low h.blob part.directory.terms (lists_of ps) h.spelled.lists_held ∙ names_of_lists ps (terms_of ps)

-- what a part holds of a term are the addresses of its postings
term_held : (content : Content) (part : JobPart) (ps : List Posting) (term addresses : List ℕ) → HoldsPostings content part ps
    → HoldsTerm content term part addresses → addresses ≡ addresses_of term ps
term_held content part ps term addresses h t =
    ⊎_elim
    (λ r.
    let list = list_at_entry part.directory.low h.blob r.0 part.directory.terms (lists_of ps) h.spelled.lists_held r.1.0 in
    let from = map_has (list_of ps) list.0 (terms_of ps) list.1.0 in
    let name : from.0 ≡ term = ap (λ (l : TermList). l.term) from.1.1 ∙ sym list.1.1.term ∙ r.1.1 in
    let held : HoldsEntry (content.blobs part.recorded.blob) part.directory.low r.0 addresses =
    t.there r.0 (Contains-from_Has r.0 part.directory.terms r.1.0) r.1.1 in
    let other : HoldsEntry (Some h.blob) part.directory.low r.0 list.0.at =
    record { term = refl; count = list.1.1.count; blocks = list.1.1.blocks } in
    entry_same (Some h.blob) part.directory.low r.0 addresses list.0.at
    (subst (λ o. HoldsEntry o part.directory.low r.0 addresses) h.held held) other
    ∙ sym (ap (λ (l : TermList). l.at) from.1.1)
    ∙ ap (λ (x : List ℕ). addresses_of x ps) name)
    (λ n.
    t.absent (λ entry g e. n entry (Has-from_Contains entry part.directory.terms g) e)
    ∙ sym
    (none_of_term term ps
    (λ i.
    let there : Has term (map (λ entry. entry.term) part.directory.terms) =
    subst (Has term) (sym (part_terms content part ps h)) (has-sorted_once nat_list_cmp_total exact_bytes term (all_terms ps) i) in
    let r = map_has (λ (entry : TermEntry). entry.term) term part.directory.terms there in
    n r.0 r.1.0 r.1.1)))
    (entry_or_none term part.directory.terms)

abbrev joined : List (List Posting) → List Posting
joined postings = flat_map (λ home. home) postings

terms_held : (content : Content) (parts : List JobPart) (postings : List (List Posting)) (term addresses : List ℕ)
    → HoldPostings content parts postings → HoldTerm content term parts addresses → addresses ≡ addresses_of term (joined postings)
terms_held content [] [] term addresses h t = t
terms_held content [] (ps ∷ postings) term addresses h t = absurd h
terms_held content (part ∷ parts) [] term addresses h t = absurd h
terms_held content (part ∷ parts) (ps ∷ postings) term addresses h t =
    t.4
    ∙ ap₂ ◌++◌ (term_held content part ps term t.0 h.0 t.2) (terms_held content parts postings term t.1 h.1 t.3)
    ∙ sym (addresses_of-append term ps (joined postings))

list_for_live : (ps : List Posting) (term : List ℕ)
    → list_for term (addresses_of term ps) ≡ filter has_addresses (list_of ps term ∷ [])
list_for_live ps term = from (addresses_of term ps)
  where
    from : (at : List ℕ) → list_for term at ≡ filter has_addresses (record { term = term; at = at } ∷ [])
    from [] = refl
    from (a ∷ at) = rw (lt-ltb 0 (length (a ∷ at)) (omega arith)) refl

-- the lists of some terms
made_lists : (content : Content) (parts : List JobPart) (live : List Range) (postings : List (List Posting)) (terms : List (List ℕ))
    (lists : List TermList) → HoldPostings content parts postings → AreMade content parts live terms lists
    → lists ≡ filter has_addresses (map (list_of (live_of live (joined postings))) terms)
made_lists content parts live postings [] lists h m = m
made_lists content parts live postings (t ∷ terms) lists h m =
    let ps : List Posting = live_of live (joined postings) in
    let kept : m.0 ≡ addresses_of t ps =
    m.2.2
    ∙ ap (filter (is_live live)) (terms_held content parts postings t m.2.0 h m.2.1)
    ∙ sym (addresses_of-live_of t live (joined postings)) in
    m.4
    ∙ ap₂ ◌++◌ (ap (list_for t) kept ∙ list_for_live ps t) (made_lists content parts live postings terms m.1 h m.3)
    ∙ sym (filter-append has_addresses (list_of ps t ∷ []) (map (list_of ps) terms))

term_there : (content : Content) (parts : List JobPart) (postings : List (List Posting)) (q : List ℕ) → HoldPostings content parts postings
    → Has q (flat_map terms_of_part parts) → Has q (all_terms (joined postings))
term_there content [] [] q h i = i
term_there content [] (ps ∷ postings) q h i = absurd h
term_there content (part ∷ parts) [] q h i = absurd h
term_there content (part ∷ parts) (ps ∷ postings) q h i =
    subst (Has q) (sym (map-append (λ (p : Posting). p.term) ps (joined postings)))
    (⊎_elim
    (λ j.
    Has-append_left q (all_terms ps) (all_terms (joined postings))
    (sorted_once_has nat_list_cmp_total exact_bytes q (all_terms ps) (subst (Has q) (part_terms content part ps h.0) j)))
    (λ j. Has-append_right q (all_terms ps) (all_terms (joined postings)) (term_there content parts postings q h.1 j))
    (Has-append_cases q (terms_of_part part) (flat_map terms_of_part parts) i))

there_term : (content : Content) (parts : List JobPart) (postings : List (List Posting)) (q : List ℕ) → HoldPostings content parts postings
    → Has q (all_terms (joined postings)) → Has q (flat_map terms_of_part parts)
there_term content [] [] q h i = i
there_term content [] (ps ∷ postings) q h i = absurd h
there_term content (part ∷ parts) [] q h i = absurd h
there_term content (part ∷ parts) (ps ∷ postings) q h i =
    ⊎_elim
    (λ j.
    Has-append_left q (terms_of_part part) (flat_map terms_of_part parts)
    (subst (Has q) (sym (part_terms content part ps h.0)) (has-sorted_once nat_list_cmp_total exact_bytes q (all_terms ps) j)))
    (λ j. Has-append_right q (terms_of_part part) (flat_map terms_of_part parts) (there_term content parts postings q h.1 j))
    (Has-append_cases q (all_terms ps) (all_terms (joined postings))
    (subst (Has q) (map-append (λ (p : Posting). p.term) ps (joined postings)) i))

-- the terms of the parts are those of their postings
pub terms_of_parts : (content : Content) (parts : List JobPart) (postings : List (List Posting)) → HoldPostings content parts postings
    → terms_in parts ≡ terms_of (joined postings)
terms_of_parts content parts postings h =
    same-sorted_once nat_list_cmp_total exact_bytes (flat_map terms_of_part parts) (all_terms (joined postings))
    (λ q i. term_there content parts postings q h i)
    (λ q i. there_term content parts postings q h i)

pub terms_in_up : (parts : List JobPart) → IsStrictlySortedBy (slice_cmp nat_cmp) (terms_in parts)
terms_in_up parts = sorted-sorted_once nat_list_cmp_total exact_bytes (flat_map terms_of_part parts)

-- with no term left, the lists are those of the live postings
pub all_made : (content : Content) (job : JobState) (postings : List (List Posting)) → HoldPostings content job.parts postings
    → IsRight content job → job.terms_left ≡ [] → job.done ≡ lists_of (live_of job.live (joined postings))
all_made content job postings h r none =
    let all : r.terms_done ≡ terms_of (joined postings) =
    sym (append-nil r.terms_done)
    ∙ ap (λ (ts : List (List ℕ)). r.terms_done ++ ts) (sym none)
    ∙ r.order
    ∙ terms_of_parts content job.parts postings h in
    made_lists content job.parts job.live postings r.terms_done job.done h r.made
    ∙ ap (λ (ts : List (List ℕ)). filter has_addresses (map (list_of (live_of job.live (joined postings))) ts)) all
    ∙ lists_of_live job.live (joined postings)
