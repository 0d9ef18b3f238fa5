-- The postings of a sound part.
use Rattle.std.proofs.Common.{◌≡◌, ◌≢◌, ℕ, ◌+◌, ◌-◌, ◌<◌, ◌≤◌, ◌==◌, nat_le, nat_lt, true, List, [], ◌∷◌, ◌++◌, length, take, drop}
use Rattle.std.proofs.Common.{refl, ap, sym, ◌∙◌, subst, inl, inr, ⊎_elim, arith, eqb, sum_by, length-drop}
use Rattle.std.specs.Prelude.{Some, None, slice_get}
use Rattle.std.specs.Ordering.{nat_cmp}
use Rattle.std.specs.Cmp.Lexicographic.{slice_cmp}
use Rattle.std.specs.List.Sorted.{IsStrictlySortedBy}
use Rattle.std.specs.List.{AllByRecursion, AllZip, IsDistinct, last_or}
use Rattle.std.proofs.lemmas.Bool.{and_parts, cases_eq, eqb-true, le-leb, leb-true, lt-ltb, ltb-true}
use Rattle.std.proofs.lemmas.List.{take-append-drop}
use Rattle.std.proofs.lemmas.Option.{same_Some}
use Rattle.wu_base.specs.declared.addresses.PartRec.{PartRec}
use Rattle.wu_base.specs.declared.addresses.Range.{Range}
use Rattle.wu_base.specs.declared.addresses.TermList.{TermList}
use Rattle.wu_base.specs.Ranges.{is_in}
use Rattle.wu_base.proofs.Members.{Has, Has-append_cases, Has-append_left, Has-append_right, Has-filter, any_has, filter_has}
use Rattle.wu_outside.specs.Content.{Content}
use Rattle.wu_vbyte.specs.declared.blocks.TheConstants.{BLOCK_LEN}
use Rattle.wu_part.specs.declared.entries.BlockEntry.{BlockEntry}
use Rattle.wu_part.specs.declared.entries.TermEntry.{TermEntry}
use Rattle.wu_part.specs.Directories.{AreBlocks, IsDirectory, IsEntry, PartDirectory, all_blocks}
use Rattle.wu_part.specs.Parts.{HoldBlocks, HoldsList, SpellsPart}
use Rattle.wu_part.proofs.PartLemmas.{held_sum, held_terms}
use Rattle.wu_layout.specs.Ascending.{AscendBetween}
use Rattle.wu_layout.specs.Layouts.{Part, first_address, last_address}
use Rattle.wu_layout.specs.Postings.{Ascend, Posting, cut, placed_from}
use Rattle.wu_layout.proofs.Ascending.{ascend-join, ascend-lower}
use Rattle.wu_layout.proofs.ListTotals.{has_above, lists_total}
use Rattle.wu_layout.proofs.PostingLemmas.{Ascend-bounds, Ascend-filter, Ascend-placed}
use Rattle.wu_token.specs.Tokens.{tokens_of}
use Rattle.wu_image.specs.declared.records.FileRec.{FileRec}
use Rattle.wu_image.specs.LayoutRules.{lies_in}
use Rattle.wu_image.specs.Images.{text_held}
use Rattle.wu_check.specs.Imaged.{HasPostings}
use Rattle.wu_check.specs.Numbered.{addresses_in}
use Rattle.wu_check.specs.Terms.{HaveTermAt, HaveTermsFrom}
use Rattle.wu_check.specs.Wrong.{HasTokens, IsSoundPart}
use Rattle.wu_check.proofs.ListPostings.{AreLists, has_spread, its_posting, list_has, spread, spread_ascends, spread_has, spread_lists}
use Rattle.wu_check.proofs.ReadLists.{block_ascends}

-- ---- the addresses of a list

module _ (low : ℕ) (blob : List ℕ) where
  list_ascends : (from high count : ℕ) (blocks : List BlockEntry) (addresses : List ℕ) → AreBlocks from high count blocks
      → HoldBlocks low blob blocks addresses → count ≡ length addresses → from ≤ high + 1 → AscendBetween from (high + 1) addresses
  list_ascends from high count [] addresses are held long l = subst (AscendBetween from (high + 1)) (sym held) l
  list_ascends from high count (block ∷ later) addresses are held long l =
      let front = block_ascends low blob block (take BLOCK_LEN addresses) held.0 in
      let rest =
      list_ascends (block.last + 1) high (count - BLOCK_LEN) later (drop BLOCK_LEN addresses) are.2 held.1
      (omega (arith, long, length-drop BLOCK_LEN addresses)) (omega (arith, are.1.end)) in
      subst (AscendBetween from (high + 1)) (take-append-drop BLOCK_LEN addresses)
      (ascend-lower from block.first (high + 1) (take BLOCK_LEN addresses ++ drop BLOCK_LEN addresses) are.1.begin
      (ascend-join block.first (block.last + 1) (high + 1) (take BLOCK_LEN addresses) (drop BLOCK_LEN addresses) front rest))

  lists_ascend : (high : ℕ) (terms : List TermEntry) (lists : List TermList) → low ≤ high → AllZip (HoldsList low blob) terms lists
      → AllByRecursion (IsEntry low high) terms → AllByRecursion (λ list. AscendBetween low (high + 1) list.at) lists
  lists_ascend high [] [] l held are = tt
  lists_ascend high [] (list ∷ lists) l held are = absurd held
  lists_ascend high (entry ∷ terms) [] l held are = absurd held
  lists_ascend high (entry ∷ terms) (list ∷ lists) l held are = (
    list_ascends low high entry.count entry.blocks list.at are.0.cut held.0.blocks held.0.count (omega (arith, l)),
    lists_ascend high terms lists l held.1 are.1,
  )

  lists_filled : (high : ℕ) (terms : List TermEntry) (lists : List TermList) → AllZip (HoldsList low blob) terms lists
      → AllByRecursion (IsEntry low high) terms → AllByRecursion (λ list. 0 < length list.at) lists
  lists_filled high [] [] held are = tt
  lists_filled high [] (list ∷ lists) held are = absurd held
  lists_filled high (entry ∷ terms) [] held are = absurd held
  lists_filled high (entry ∷ terms) (list ∷ lists) held are =
      (omega (arith, are.0.count, held.0.count), lists_filled high terms lists held.1 are.1)

  -- ---- the first and the last address of a block

  first_in : (v : ℕ) (xs : List ℕ) → slice_get xs 0 ≡ Some v → Has v xs
  first_in v [] e = absurd cc
  first_in v (x ∷ xs) e = inl (same_Some x v e)

  last_behind : (v x : ℕ) (xs : List ℕ) → last_or (Some x) xs ≡ Some v → Has v (x ∷ xs)
  last_behind v x [] e = inl (same_Some x v e)
  last_behind v x (y ∷ xs) e = inr (last_behind v y xs e)

  last_in : (v : ℕ) (xs : List ℕ) → last_or None xs ≡ Some v → Has v xs
  last_in v [] e = absurd cc
  last_in v (x ∷ xs) e = last_behind v x xs e

  in_front : (v : ℕ) (xs : List ℕ) → Has v (take BLOCK_LEN xs) → Has v xs
  in_front v xs h =
      subst (Has v) (take-append-drop BLOCK_LEN xs) (Has-append_left v (take BLOCK_LEN xs) (drop BLOCK_LEN xs) h)

  in_rest : (v : ℕ) (xs : List ℕ) → Has v (drop BLOCK_LEN xs) → Has v xs
  in_rest v xs h =
      subst (Has v) (take-append-drop BLOCK_LEN xs) (Has-append_right v (take BLOCK_LEN xs) (drop BLOCK_LEN xs) h)

  bounds_in : (blocks : List BlockEntry) (addresses : List ℕ) (block : BlockEntry) → HoldBlocks low blob blocks addresses
      → Has block blocks → Has block.first addresses × Has block.last addresses
  bounds_in [] addresses block held h = absurd h
  bounds_in (first ∷ later) addresses block held h =
      ⊎_elim
      (λ (e : first ≡ block).
      subst (λ (b : BlockEntry). Has b.first addresses × Has b.last addresses) e (
        in_front first.first addresses (first_in first.first (take BLOCK_LEN addresses) held.0.span.begin),
        in_front first.last addresses (last_in first.last (take BLOCK_LEN addresses) held.0.span.end),
      ))
      (λ i.
      let r = bounds_in later (drop BLOCK_LEN addresses) block held.1 i in
      (in_rest block.first addresses r.0, in_rest block.last addresses r.1))
      h

  list_with : (terms : List TermEntry) (lists : List TermList) (block : BlockEntry) → AllZip (HoldsList low blob) terms lists
      → Has block (all_blocks terms) → (list : TermList) × (Has list lists × (Has block.first list.at × Has block.last list.at))
  list_with [] [] block held h = absurd h
  list_with [] (list ∷ lists) block held h = absurd h
  list_with (entry ∷ terms) [] block held h = absurd held
  list_with (entry ∷ terms) (list ∷ lists) block held h =
      ⊎_elim
      (λ i. (list, (inl refl, bounds_in entry.blocks list.at block held.0.blocks i)))
      (λ i. let r = list_with terms lists block held.1 i in (r.0, (inr r.1.0, r.1.1)))
      (Has-append_cases block entry.blocks (all_blocks terms) h)

-- ---- the first and the last of ascending postings

first_is_low : (low high : ℕ) (ps : List Posting) (p : Posting) → Ascend low high ps → Has p ps → p.address ≡ low → first_address ps ≡ low
first_is_low low high [] p a h e = absurd h
first_is_low low high (q ∷ ps) p a h e =
    ⊎_elim
    (λ (s : q ≡ p). ap (λ (r : Posting). r.address) s ∙ e)
    (λ i. absurd (omega (arith, a.0, e, has_above (q.address + 1) high ps p a.1 i)))
    h

last_is_high : (low high : ℕ) (ps : List Posting) (p : Posting) → Ascend low (high + 1) ps → Has p ps → p.address ≡ high
    → last_address ps ≡ high
last_is_high low high [] p a h e = absurd h
last_is_high low high (q ∷ []) p a h e =
    ⊎_elim (λ (s : q ≡ p). ap (λ (r : Posting). r.address) s ∙ e) (λ (none : ⊥). absurd none) h
last_is_high low high (q ∷ r ∷ ps) p a h e =
    ⊎_elim
    (λ (s : q ≡ p).
    absurd (omega (arith, ap (λ (t : Posting). t.address) s, e, a.1.0, Ascend-bounds (r.address + 1) (high + 1) ps a.1.1)))
    (λ i. last_is_high (q.address + 1) high (r ∷ ps) p a.1 i e)
    h

-- ---- ascending postings that are the same

same_head : (p q : Posting) (ps qs : List Posting) (high end : ℕ) → Ascend (p.address + 1) high ps → Ascend (q.address + 1) end qs
    → Has p (q ∷ qs) → Has q (p ∷ ps) → p ≡ q
same_head p q ps qs high end a b h g =
    ⊎_elim
    (λ (e : q ≡ p). sym e)
    (λ i.
    ⊎_elim
    (λ (e : p ≡ q). e)
    (λ j. absurd (omega (arith, has_above (q.address + 1) end qs p b i, has_above (p.address + 1) high ps q a j)))
    g)
    h

past_head : (r p q : Posting) (ps qs : List Posting) (high : ℕ) → Ascend (p.address + 1) high ps → p ≡ q → Has r ps → Has r (q ∷ qs)
    → Has r qs
past_head r p q ps qs high a e i g =
    ⊎_elim
    (λ (f : q ≡ r).
    let same : p.address ≡ r.address = ap (λ (t : Posting). t.address) (e ∙ f) in
    absurd (omega (arith, same, has_above (p.address + 1) high ps r a i)))
    (λ j. j)
    g

pub same_postings : (low high from end : ℕ) (ps qs : List Posting) → Ascend low high ps → Ascend from end qs
    → ((p : Posting) → Has p ps → Has p qs) → ((p : Posting) → Has p qs → Has p ps) → ps ≡ qs
same_postings low high from end [] [] a b f g = refl
same_postings low high from end [] (q ∷ qs) a b f g = absurd (g q (inl refl))
same_postings low high from end (p ∷ ps) [] a b f g = absurd (f p (inl refl))
same_postings low high from end (p ∷ ps) (q ∷ qs) a b f g =
    let e : p ≡ q = same_head p q ps qs high end a.1 b.1 (f p (inl refl)) (g q (inl refl)) in
    let rest : ps ≡ qs =
    same_postings (p.address + 1) high (q.address + 1) end ps qs a.1 b.1
    (λ r i. past_head r p q ps qs high a.1 e i (f r (inr i)))
    (λ r i. past_head r q p qs ps end b.1 (sym e) i (g r (inr i))) in
    cc

-- ---- the tokens of a text among them

abbrev term_in : List Posting → List ℕ
term_in [] = []
term_in (p ∷ ps) = p.term

one_term : (lists : List TermList) (address : ℕ) (term other : List ℕ) → IsDistinct eqb (addresses_in lists)
    → HaveTermAt lists address term → HaveTermAt lists address other → term ≡ other
one_term lists address term other d h g = ap term_in (sym (its_posting lists address term d h) ∙ its_posting lists address other d g)

in_placed : (lists : List TermList) (start address : ℕ) (term : List ℕ) (terms : List (List ℕ)) → IsDistinct eqb (addresses_in lists)
    → HaveTermsFrom lists start terms → HaveTermAt lists address term → start ≤ address → address < start + length terms
    → Has (record { address = address; term = term }) (placed_from start terms)
in_placed lists start address term [] d all h from to = absurd (omega (arith, from, to))
in_placed lists start address term (first ∷ terms) d all h from to =
    ⊎_elim
    (λ (e : start ≡ address).
    let same : first ≡ term =
    one_term lists address first term d (subst (λ (a : ℕ). HaveTermAt lists a first) e all.0) h in
    inl (ap (λ (a : ℕ). record { address = a; term = first }) e
    ∙ ap (λ (t : List ℕ). record { address = address; term = t }) same))
    (λ (other : start ≢ address).
    inr (in_placed lists (start + 1) address term terms d all.1 h (omega (arith, from, other)) (omega (arith, to))))
    (cases_eq start address)

placed_in : (lists : List TermList) (start : ℕ) (terms : List (List ℕ)) (p : Posting) → HaveTermsFrom lists start terms
    → Has p (placed_from start terms)
    → HaveTermAt lists p.address p.term × ((start ≤ p.address) × (p.address < start + length terms))
placed_in lists start [] p all h = absurd h
placed_in lists start (term ∷ terms) p all h =
    ⊎_elim
    (λ (e : record { address = start; term = term } ≡ p).
    subst (λ (q : Posting). HaveTermAt lists q.address q.term × ((start ≤ q.address) × (q.address < start + length (term ∷ terms)))) e
    (all.0, (omega arith, omega arith)))
    (λ i.
    let r = placed_in lists (start + 1) terms p all.1 i in
    (r.0, (omega (arith, r.1.0), omega (arith, r.1.1))))
    h

text_stands : (lists : List TermList) (low n : ℕ) (range : Range) (terms : List (List ℕ)) → IsDistinct eqb (addresses_in lists)
    → range.len ≡ length terms → low ≤ range.start → range.start + range.len ≤ low + n → HaveTermsFrom lists range.start terms
    → cut range (spread lists low n) ≡ placed_from range.start terms
text_stands lists low n range terms d long from to all =
    same_postings low (low + n) range.start (range.start + length terms) (cut range (spread lists low n)) (placed_from range.start terms)
    (Ascend-filter (λ (p : Posting). is_in range p.address) low (low + n) (spread lists low n)
    (spread_ascends lists n low (low + n) (omega arith)))
    (Ascend-placed range.start terms)
    (λ p h.
    let kept = filter_has (λ (q : Posting). is_in range q.address) p (spread lists low n) h in
    let both = and_parts (nat_le range.start p.address) (nat_lt p.address (range.start + range.len)) kept.1 in
    in_placed lists range.start p.address p.term terms d all (spread_has lists n low p kept.0) (leb-true range.start p.address both.0)
    (omega (arith, long, ltb-true p.address (range.start + range.len) both.1)))
    (λ p h.
    let its = placed_in lists range.start terms p all h in
    let inside : is_in range p.address ≡ true =
    rw (
      le-leb range.start p.address its.1.0,
      lt-ltb p.address (range.start + range.len) (omega (arith, long, its.1.1)),
    ) refl in
    Has-filter (λ (q : Posting). is_in range q.address) p (spread lists low n)
    (has_spread lists n low p.address p.term d (omega (arith, from, its.1.0)) (omega (arith, to, long, its.1.1)) its.0) inside)

-- ---- a sound part

module _ (content : Content) (files : List FileRec) (recorded : PartRec) (sound : IsSoundPart content files recorded) where
  abbrev directory : PartDirectory
  directory = sound.directory

  abbrev lists : List TermList
  lists = sound.lists

  abbrev rules : IsDirectory directory (length sound.spelled.own.code)
  rules = sound.spelled.own.code_spelled.holds

  abbrev n : ℕ
  n = directory.high + 1 - directory.low

  whole_span : directory.low + n ≡ directory.high + 1
  whole_span = omega (arith, rules.span)

  are_lists : AreLists directory.low n lists
  are_lists = record {
    terms = subst (λ ts. IsStrictlySortedBy (slice_cmp nat_cmp) ts)
        (held_terms directory.low sound.bytes directory.terms lists sound.spelled.lists_held) rules.ascending;
    filled = lists_filled directory.low sound.bytes directory.high directory.terms lists sound.spelled.lists_held rules.entries;
    ascend = subst (λ (end : ℕ). AllByRecursion (λ list. AscendBetween directory.low end list.at) lists) (sym whole_span)
        (lists_ascend directory.low sound.bytes directory.high directory.terms lists rules.span sound.spelled.lists_held rules.entries);
    distinct = sound.spelled.distinct;
  }

  abbrev postings : List Posting
  postings = spread lists directory.low n

  ascends : Ascend directory.low (directory.high + 1) postings
  ascends = spread_ascends lists n directory.low (directory.high + 1) (omega (arith, whole_span))

  low_is : first_address postings ≡ directory.low
  low_is =
      let found = any_has (λ (b : BlockEntry). b.first == directory.low) (all_blocks directory.terms) rules.begin in
      let its = list_with directory.low sound.bytes directory.terms lists found.0 sound.spelled.lists_held found.1.0 in
      let same : found.0.first ≡ directory.low = eqb-true found.0.first directory.low found.1.1 in
      let at : Has directory.low its.0.at = subst (λ (a : ℕ). Has a its.0.at) same its.1.1.0 in
      first_is_low directory.low (directory.high + 1) postings (record { address = directory.low; term = its.0.term }) ascends
      (has_spread lists n directory.low directory.low its.0.term sound.spelled.distinct (omega arith)
      (omega (arith, whole_span, rules.span)) (list_has lists its.0 directory.low its.1.0 at)) refl

  high_is : last_address postings ≡ directory.high
  high_is =
      let found = any_has (λ (b : BlockEntry). b.last == directory.high) (all_blocks directory.terms) rules.end in
      let its = list_with directory.low sound.bytes directory.terms lists found.0 sound.spelled.lists_held found.1.0 in
      let same : found.0.last ≡ directory.high = eqb-true found.0.last directory.high found.1.1 in
      let at : Has directory.high its.0.at = subst (λ (a : ℕ). Has a its.0.at) same its.1.1.1 in
      last_is_high directory.low directory.high postings (record { address = directory.high; term = its.0.term }) ascends
      (has_spread lists n directory.low directory.high its.0.term sound.spelled.distinct rules.span
      (omega (arith, whole_span)) (list_has lists its.0 directory.high its.1.0 at)) refl

  stored_is : length postings ≡ directory.stored
  stored_is =
      sym (lists_total postings)
      ∙ (ap (λ (ls : List TermList). sum_by (λ list. length list.at) ls) (spread_lists lists directory.low n are_lists)
      ∙ (sym (held_sum directory.low sound.bytes directory.terms lists sound.spelled.lists_held) ∙ rules.sum))

  abbrev part : Part
  part = record { blob = recorded.blob; generation = recorded.generation; postings = postings }

  texts_stand : (some : List FileRec) → AllByRecursion (λ file. lies_in file.range recorded ≡ true → HasTokens content lists file) some
      → AllByRecursion (λ file. file.range.len ≡ length (tokens_of (text_held content file))) some
      → AllByRecursion (λ file. lies_in file.range recorded ≡ true
      → cut file.range postings ≡ placed_from file.range.start (tokens_of (text_held content file))) some
  texts_stand [] tokens long = tt
  texts_stand (file ∷ some) tokens long = (
    λ lies.
        let both = and_parts (nat_le recorded.low file.range.start)
        (nat_le (file.range.start + file.range.len) (recorded.high + 1)) lies in
        text_stands lists directory.low n file.range (tokens_of (text_held content file)) sound.spelled.distinct long.0
        (omega (arith, sound.told.low, leb-true recorded.low file.range.start both.0))
        (omega (arith, whole_span, sound.told.high, leb-true (file.range.start + file.range.len) (recorded.high + 1) both.1))
        (tokens.0 lies),
    texts_stand some tokens.1 long.1,
  )

  pub part_of_postings : AllByRecursion (λ file. file.range.len ≡ length (tokens_of (text_held content file))) files
      → (part : Part) × HasPostings content files recorded part
  part_of_postings long = (
    part,
    record {
      held = record {
        recorded_of = record {
          blob = refl;
          generation = refl;
          low = sym (low_is ∙ sound.told.low);
          high = sym (high_is ∙ sound.told.high);
          stored = sym (stored_is ∙ sound.told.stored);
        };
        blob = sound.bytes;
        held = sound.held;
        directory = directory;
        spelled = subst (λ (ls : List TermList). SpellsPart directory ls sound.bytes)
            (sym (spread_lists lists directory.low n are_lists)) sound.spelled;
        told = sound.told;
      };
      ascend = subst (λ (low : ℕ). Ascend low (recorded.high + 1) postings) sound.told.low
          (subst (λ (high : ℕ). Ascend directory.low (high + 1) postings) sound.told.high ascends);
      texts = texts_stand files sound.tokens long;
    },
  )
