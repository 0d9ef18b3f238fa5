-- An address of a term that stands in a list that was made of another: its part has it in two lists.
use Rattle.std.proofs.Common.{◌≡◌, ℕ, ◌≤◌, eqb, Bool, true, false, List, [], ◌∷◌, ◌++◌, filter, refl, ap, sym, ◌∙◌, subst, arith, ⊎_elim}
use Rattle.std.proofs.Common.{inl, inr, append-nil}
use Rattle.std.specs.Prelude.{◌⊎◌, Option, None, Some}
use Rattle.std.specs.declared.cmp.Ordering.TheVariants.{Less}
use Rattle.std.specs.List.{AllByRecursion, IsDistinct}
use Rattle.std.specs.List.Sorted.{IsStrictlySortedBy}
use Rattle.std.proofs.lemmas.Bool.{eq-eqb}
use Rattle.std.proofs.lemmas.Grind.{flat_map-append}
use Rattle.wu_base.specs.declared.addresses.Range.{Range}
use Rattle.wu_base.specs.declared.addresses.TermList.{TermList}
use Rattle.wu_base.proofs.Members.{Has, Has-from_Contains, Contains-from_Has, Has-append_cases, Has-flat_map, filter_has, all_has}
use Rattle.wu_outside.specs.Content.{Content}
use Rattle.wu_layout.specs.Invariants.{SomeOf}
use Rattle.wu_layout.specs.Postings.{is_live}
use Rattle.wu_layout.proofs.EntryLemmas.{IfSome-map}
use Rattle.wu_part.specs.declared.entries.TermEntry.{TermEntry}
use Rattle.wu_part.specs.Directories.{PartDirectory}
use Rattle.wu_job.specs.declared.sources.Source.{Source}
use Rattle.wu_job.specs.Jobs.{JobPart, JobState, HoldsEntry, HoldsTerm, HoldTerm, AreMade, IsRight, list_for}
use Rattle.wu_job.specs.Keeping.{AreMarks, addresses_in}
use Rattle.wu_job.specs.Reading.{IsNoPartOf, IsRefused, IsSomeMarked}
use Rattle.wu_job.specs.Sources.{AreSources, HasEntries, part_of, parts_of}
use Rattle.wu_job.specs.Steps.{HasNoFirst, IsBrokenPart, SharesAddress, IsDamagedPart}
use Rattle.wu_part.specs.Parts.{IsNoPart}
use Rattle.wu_job.proofs.Made.{entry_or_none, list_at_entry, terms_in_up}
use Rattle.wu_job.proofs.Marking.{marked_twice}
use Rattle.wu_job.proofs.Merging.{text_cmp, IsUp, less_itself}
use Rattle.wu_job.proofs.Spans.{entry_same, entry_spans}

-- ---- where an address of a list that was made comes from

of_list : (term kept : List ℕ) (a : ℕ) → Has a (addresses_in (list_for term kept)) → Has a kept
of_list term [] a h = absurd h
of_list term (x ∷ kept) a h = subst (Has a) (append-nil (x ∷ kept)) h

made_of : (content : Content) (parts : List JobPart) (live : List Range) (terms : List (List ℕ)) (lists : List TermList) (a : ℕ)
    → AreMade content parts live terms lists → Has a (addresses_in lists)
    → (u : List ℕ) × (Has u terms × ((all : List ℕ) × (HoldTerm content u parts all × Has a all)))
made_of content parts live [] lists a m h = absurd (subst (λ ls. Has a (addresses_in ls)) m h)
made_of content parts live (t ∷ terms) lists a m h =
    ⊎_elim
    (λ i.
    let kept : Has a (filter (is_live live) m.2.0) = subst (Has a) m.2.2 (of_list t m.0 a i) in
    (t, (inl refl, (m.2.0, (m.2.1, (filter_has (is_live live) a m.2.0 kept).0)))))
    (λ i. let r = made_of content parts live terms m.1 a m.3 i in (r.0, (inr r.1.0, r.1.1)))
    (Has-append_cases a (addresses_in (list_for t m.0)) (addresses_in m.1)
    (subst (Has a) (flat_map-append (λ (l : TermList). l.at) (list_for t m.0) m.1) (subst (λ ls. Has a (addresses_in ls)) m.4 h)))

held_part : (content : Content) (u : List ℕ) (parts : List JobPart) (all : List ℕ) (a : ℕ) → HoldTerm content u parts all → Has a all
    → (part : JobPart) × (Has part parts × ((addresses : List ℕ) × (HoldsTerm content u part addresses × Has a addresses)))
held_part content u [] all a t h = absurd (subst (Has a) t h)
held_part content u (part ∷ parts) all a t h =
    ⊎_elim
    (λ i. (part, (inl refl, (t.0, (t.2, i)))))
    (λ i. let r = held_part content u parts t.1 a t.3 i in (r.0, (inr r.1.0, r.1.1)))
    (Has-append_cases a t.0 t.1 (subst (Has a) t.4 h))

-- what is held of a term is held of its entry
entry_held : (content : Content) (u : List ℕ) (part : JobPart) (addresses : List ℕ) (a : ℕ) → HoldsTerm content u part addresses
    → Has a addresses
    → (entry : TermEntry) × (Has entry part.directory.terms × (entry.term ≡ u)
    × HoldsEntry (content.blobs part.recorded.blob) part.directory.low entry addresses)
entry_held content u part addresses a t h =
    ⊎_elim
    (λ r. (r.0, (r.1.0, r.1.1, t.there r.0 (Contains-from_Has r.0 part.directory.terms r.1.0) r.1.1)))
    (λ n. absurd (subst (Has a) (t.absent (λ entry g e. n entry (Has-from_Contains entry part.directory.terms g) e)) h))
    (entry_or_none u part.directory.terms)

part_spans : (content : Content) (u : List ℕ) (part : JobPart) (addresses : List ℕ) (a : ℕ) → HasEntries part
    → HoldsTerm content u part addresses → Has a addresses → (part.directory.low ≤ a) × (a ≤ part.directory.high)
part_spans content u part addresses a es t h =
    let e = entry_held content u part addresses a t h in
    entry_spans (content.blobs part.recorded.blob) part.directory.low part.directory.high e.0 addresses a
    (all_has _ e.0 part.directory.terms es.entries e.1.0) e.1.2 h

abbrev HasAddress : ℕ → JobPart → Type 0
HasAddress a part = (part.directory.low ≤ a) × (a ≤ part.directory.high)

-- the parts' spans are apart
pub same_part : (left : Source) (right : Option Source) (p q : JobPart) (a : ℕ) → AreSources left right → Has p (parts_of left right)
    → Has q (parts_of left right) → HasAddress a p → HasAddress a q → p ≡ q
same_part left None p q a s h g x y =
    ⊎_elim (λ e. ⊎_elim (λ f. sym e ∙ f) (λ n. absurd n) g) (λ n. absurd n) h
same_part left (Some right) p q a s h g x y =
    ⊎_elim
    (λ (e : part_of left ≡ p).
    let x1 : HasAddress a (part_of left) = subst (HasAddress a) (sym e) x in
    ⊎_elim
    (λ (f : part_of left ≡ q). sym e ∙ f)
    (λ i. ⊎_elim
    (λ (f : part_of right ≡ q).
    let y1 : HasAddress a (part_of right) = subst (HasAddress a) (sym f) y in absurd (omega (arith, s.2, x1.1, y1.0)))
    (λ n. absurd n) i)
    g)
    (λ j. ⊎_elim
    (λ (e : part_of right ≡ p).
    let x1 : HasAddress a (part_of right) = subst (HasAddress a) (sym e) x in
    ⊎_elim
    (λ (f : part_of left ≡ q).
    let y1 : HasAddress a (part_of left) = subst (HasAddress a) (sym f) y in absurd (omega (arith, s.2, x1.0, y1.1)))
    (λ i. ⊎_elim (λ (f : part_of right ≡ q). sym e ∙ f) (λ n. absurd n) i)
    g)
    (λ n. absurd n) j)
    h

-- ---- two lists with an address

distinct_right : (xs ys : List ℕ) → IsDistinct eqb (xs ++ ys) → IsDistinct eqb ys
unfolding IsDistinct
distinct_right [] ys d = d
distinct_right (x ∷ xs) ys d = distinct_right xs ys d.1

distinct_apart : (a : ℕ) (xs ys : List ℕ) → IsDistinct eqb (xs ++ ys) → Has a xs → Has a ys → ⊥
unfolding IsDistinct
distinct_apart a [] ys d h g = absurd h
distinct_apart a (x ∷ xs) ys d h g =
    ⊎_elim
    (λ (e : x ≡ a).
    let differ : eqb x a ≡ false = all_has (λ y. eqb x y ≡ false) a (xs ++ ys) d.0 (later a xs ys g) in
    let same : eqb x a ≡ true = eq-eqb x a e in absurd cc)
    (λ i. distinct_apart a xs ys d.1 i g)
    h
  where
    later : (a : ℕ) (xs ys : List ℕ) → Has a ys → Has a (xs ++ ys)
    later a [] ys g = g
    later a (x ∷ xs) ys g = inr (later a xs ys g)

two_lists : (lists : List TermList) (l m : TermList) (a : ℕ) → IsDistinct eqb (addresses_in lists) → Has l lists → Has m lists
    → (l.term ≡ m.term → ⊥) → Has a l.at → Has a m.at → ⊥
two_lists [] l m a d h g n x y = absurd h
two_lists (z ∷ lists) l m a d h g n x y =
    ⊎_elim
    (λ (e : z ≡ l).
    ⊎_elim
    (λ (f : z ≡ m). n (ap (λ (t : TermList). t.term) (sym e ∙ f)))
    (λ (j : Has m lists).
    distinct_apart a z.at (addresses_in lists) d (subst (λ (t : TermList). Has a t.at) (sym e) x)
    (Has-flat_map (λ (t : TermList). t.at) a m lists j y))
    g)
    (λ (i : Has l lists).
    ⊎_elim
    (λ (f : z ≡ m).
    distinct_apart a z.at (addresses_in lists) d (subst (λ (t : TermList). Has a t.at) (sym f) y)
    (Has-flat_map (λ (t : TermList). t.at) a l lists i x))
    (λ (j : Has m lists). two_lists lists l m a (distinct_right z.at (addresses_in lists) d) i j n x y)
    g)
    h

no_part_with : (o : Option (List ℕ)) (directory : PartDirectory) (e f : TermEntry) (xs ys : List ℕ) (a : ℕ) → Has e directory.terms
    → Has f directory.terms → (e.term ≡ f.term → ⊥) → HoldsEntry o directory.low e xs → HoldsEntry o directory.low f ys
    → Has a xs → Has a ys → IsNoPart directory o
no_part_with None directory e f xs ys a h g n p q x y = tt
no_part_with (Some blob) directory e f xs ys a h g n p q x y = λ lists is.
    let l = list_at_entry directory.low blob e directory.terms lists is.lists_held h in
    let m = list_at_entry directory.low blob f directory.terms lists is.lists_held g in
    let first : HoldsEntry (Some blob) directory.low e l.0.at = record { term = refl; count = l.1.1.count; blocks = l.1.1.blocks } in
    let second : HoldsEntry (Some blob) directory.low f m.0.at = record { term = refl; count = m.1.1.count; blocks = m.1.1.blocks } in
    two_lists lists l.0 m.0 a is.distinct l.1.0 m.1.0 (λ same. n (l.1.1.term ∙ same ∙ sym m.1.1.term))
    (subst (Has a) (entry_same (Some blob) directory.low e xs l.0.at p first) x)
    (subst (Has a) (entry_same (Some blob) directory.low f ys m.0.at q second) y)

-- ---- the part is none

done_before : (xs : List (List ℕ)) (t : List ℕ) (ys : List (List ℕ)) (u : List ℕ) → IsUp (xs ++ (t ∷ ys)) → Has u xs → text_cmp u t ≡ Less
unfolding IsStrictlySortedBy
done_before [] t ys u s h = absurd h
done_before (x ∷ xs) t ys u s h =
    ⊎_elim
    (λ (e : x ≡ u). subst (λ z. text_cmp z t ≡ Less) e (all_has (λ z. text_cmp x z ≡ Less) t (xs ++ (t ∷ ys)) s.0 (there t xs ys)))
    (λ i. done_before xs t ys u s.1 i)
    h
  where
    there : (t : List ℕ) (xs ys : List (List ℕ)) → Has t (xs ++ (t ∷ ys))
    there t [] ys = inl refl
    there t (x ∷ xs) ys = inr (there t xs ys)

double : (content : Content) (job : JobState) (part : JobPart) (term : List ℕ) (later : List (List ℕ)) (all : List ℕ) (a : ℕ)
    → ((p q : JobPart) → Has p job.parts → Has q job.parts → HasAddress a p → HasAddress a q → p ≡ q)
    → AllByRecursion HasEntries job.parts → Has part job.parts → job.terms_left ≡ term ∷ later → HoldsTerm content term part all → Has a all
    → Has a (addresses_in job.done) → IsRight content job → IsNoPart part.directory (content.blobs part.recorded.blob)
double content job part term later all a apart es there first t h made r =
    let u = made_of content job.parts job.live r.terms_done job.done a r.made made in
    let p = held_part content u.0 job.parts u.1.1.0 a u.1.1.1.0 u.1.1.1.1 in
    let ours : HasAddress a part = part_spans content term part all a (all_has HasEntries part job.parts es there) t h in
    let its : HasAddress a p.0 =
    part_spans content u.0 p.0 p.1.1.0 a (all_has HasEntries p.0 job.parts es p.1.0) p.1.1.1.0 p.1.1.1.1 in
    let same : p.0 ≡ part = apart p.0 part p.1.0 there its ours in
    let held : HoldsTerm content u.0 part p.1.1.0 = subst (λ q. HoldsTerm content u.0 q p.1.1.0) same p.1.1.1.0 in
    let e = entry_held content u.0 part p.1.1.0 a held p.1.1.1.1 in
    let f = entry_held content term part all a t h in
    let up : IsUp (r.terms_done ++ (term ∷ later)) =
    subst IsUp (sym r.order ∙ ap (λ (ts : List (List ℕ)). r.terms_done ++ ts) first) (terms_in_up job.parts) in
    let less : text_cmp u.0 term ≡ Less = done_before r.terms_done term later u.0 up u.1.0 in
    no_part_with (content.blobs part.recorded.blob) part.directory e.0 f.0 p.1.1.0 all a e.1.0 f.1.0
    (λ is. less_itself u.0 term less (sym e.1.1 ∙ is ∙ f.1.1)) e.1.2 f.1.2 p.1.1.1.1 h

pub refused : (holds : Option Content) (job : JobState) (left : Source) (right : Option Source) (marks : List Bool) (part : JobPart)
    (term : List ℕ) (later : List (List ℕ)) → job.parts ≡ parts_of left right → AreSources left right
    → AllByRecursion HasEntries (parts_of left right) → AreMarks job.live marks job.done → Has part (parts_of left right)
    → job.terms_left ≡ term ∷ later → (blob : ℕ) → IsRefused holds job.live marks term part blob
    → IsDamagedPart holds job blob part × IsBrokenPart holds job blob part
refused holds job left right marks part term later is s es m there first blob b = (
  (
    b.0,
    IfSome-map (λ content. IsNoPartOf content term part blob ⊎ IsSomeMarked content job.live marks term part)
        (λ content. IsNoPart part.directory (content.blobs blob) ⊎ SharesAddress content job part) holds
        (λ content c. ⊎_elim (λ n. inl n.0) (λ d. inr (shared content d)) c) b.1,
  ),
  (
    b.0,
    IfSome-map (λ content. IsNoPartOf content term part blob ⊎ IsSomeMarked content job.live marks term part)
        (λ content. HasNoFirst content job.terms_left part ⊎ SharesAddress content job part) holds
        (λ content c.
        ⊎_elim
        (λ n. inl (subst (λ (ts : List (List ℕ)). HasNoFirst content ts part) (sym first) n.1))
        (λ d. inr (shared content d)) c) b.1,
  ),
)
  where
    shared : (content : Content) → IsSomeMarked content job.live marks term part → SharesAddress content job part
    shared content d =
        let twice = marked_twice job.live marks job.done d.0 m d.2 in
        record {
          term = term;
          later = later;
          first = first;
          addresses = d.0;
          held = d.1;
          address = twice.0;
          has = Contains-from_Has twice.0 d.0 twice.1.0;
          made = Contains-from_Has twice.0 (addresses_in job.done) twice.1.1;
          broken = λ r.
              double content job part term later d.0 twice.0
              (λ p q h g x y.
              same_part left right p q twice.0 s (subst (Has p) is h) (subst (Has q) is g) x y)
              (subst (AllByRecursion HasEntries) (sym is) es) (subst (Has part) (sym is) there) first d.1 twice.1.0 twice.1.1 r;
        }

-- the left one of the parts
pub left_of : (P : JobPart → Type 0) (left : Source) (right : Option Source) → P (part_of left) → SomeOf P (parts_of left right)
left_of P left None p = inl p
left_of P left (Some right) p = inl p

pub has_left : (left : Source) (right : Option Source) → Has (part_of left) (parts_of left right)
has_left left None = inl refl
has_left left (Some right) = inl refl
