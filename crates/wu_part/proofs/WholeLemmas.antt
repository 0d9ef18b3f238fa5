-- Lemmas on entries that are gone through one after another and are all those of a directory.
use Rattle.std.proofs.Common.{◌≡◌, ℕ, ◌+◌, ◌-◌, ◌<◌, ◌≤◌, List, [], ◌∷◌, ◌++◌, length, map, min, refl, ap, sym, ◌∙◌, append_assoc}
use Rattle.std.proofs.Common.{append-nil, Bool, true, false, ◌||◌, ◌==◌, arith}
use Rattle.std.specs.declared.cmp.Ordering.TheVariants.{Less}
use Rattle.std.specs.Ordering.{nat_cmp}
use Rattle.std.specs.Cmp.Lexicographic.{slice_cmp, nat_list_cmp_total}
use Rattle.std.specs.List.{AllByRecursion, list_any, sum_by}
use Rattle.std.specs.List.Sorted.{IsStrictlySortedBy}
use Rattle.std.proofs.Math.Bool.{or_assoc}
use Rattle.std.proofs.lemmas.List.Folds.{list_any-append}
use Rattle.std.proofs.lemmas.List.Sums.{sum_by-cons}
use Rattle.wu_part.specs.declared.entries.BlockEntry.{BlockEntry}
use Rattle.wu_part.specs.declared.entries.TermEntry.{TermEntry}
use Rattle.wu_part.specs.declared.reading.Head.{Head}
use Rattle.wu_part.specs.Directories.{IsEntry, all_blocks}
use Rattle.wu_part.specs.Entries.{IsNextBlock, IsNextEntry, AreEntries, IsWhole}
use Rattle.wu_vbyte.specs.declared.blocks.TheConstants.{BLOCK_LEN}
use Rattle.wu_part.proofs.ReadingLemmas.{TakenBlocks, blocks_taken, stand_split, stand_within}
use Rattle.wu_part.proofs.EntryReadingLemmas.{TakenEntries, entries_none_taken, entries_taken}

-- ---- the blocks of an entry

abbrev pub begins : Head → List BlockEntry → Bool
begins head blocks = list_any (λ block. block.first == head.low) blocks

abbrev pub ends : Head → List BlockEntry → Bool
ends head blocks = list_any (λ block. block.last == head.high) blocks

-- blocks were taken, and it was noted whether one begins at the lowest address and one ends at the highest
pub record NotedBlocks (head : Head) (size count : ℕ) (bytes : List ℕ) (place from left : ℕ) (rest : List ℕ) (end : ℕ)
    (begun ended : Bool) : Type 0 where
  pub blocks : List BlockEntry
  pub taken : TakenBlocks head size count bytes place blocks from left rest end
  pub first : begun ≡ begins head blocks
  pub last : ended ≡ ends head blocks

-- a test of a list with one item more
any_more : (p : BlockEntry → Bool) (blocks : List BlockEntry) (block : BlockEntry)
    → list_any p (blocks ++ block ∷ []) ≡ (list_any p blocks || p block)
any_more p blocks block = list_any-append p blocks (block ∷ []) ∙ ap (λ b. list_any p blocks || b) (or_false (p block))
  where
    or_false : (b : Bool) → (b || false) ≡ b
    or_false true = refl
    or_false false = refl

pub block_noted : (head : Head) (size count : ℕ) (bytes : List ℕ) (place from left fewer : ℕ) (rest after : List ℕ) (end : ℕ)
    (begun ended begun_now ended_now : Bool) (block : BlockEntry)
    → NotedBlocks head size count bytes place from left rest end begun ended → 0 < left
    → IsNextBlock head size from (min left BLOCK_LEN) rest end block after → fewer ≡ left - BLOCK_LEN
    → begun_now ≡ (begun || block.first == head.low) → ended_now ≡ (ended || block.last == head.high)
    → NotedBlocks head size count bytes place (block.last + 1) fewer after (end + block.len) begun_now ended_now
block_noted head size count bytes place from left fewer rest after end begun ended begun_now ended_now block t some b f is_first is_last =
    record {
      blocks = t.blocks ++ block ∷ [];
      taken = blocks_taken head size count bytes place t.blocks (t.blocks ++ block ∷ []) from left fewer rest after end block t.taken some b
          refl f;
      first = is_first ∙ (ap (λ x. x || block.first == head.low) t.first ∙ sym (any_more (λ x. x.first == head.low) t.blocks block));
      last = is_last ∙ (ap (λ x. x || block.last == head.high) t.last ∙ sym (any_more (λ x. x.last == head.high) t.blocks block));
    }

-- ---- the entries

-- with what was read before, these entries make up those of a directory
pub record WholeLeft (head : Head) (before : List ℕ) (left : ℕ) (begun ended : Bool) (terms : List TermEntry) : Type 0 where
  pub ascending : IsStrictlySortedBy (slice_cmp nat_cmp) (before ∷ map (λ entry. entry.term) terms)
  pub sum : sum_by (λ entry. entry.count) terms ≡ left
  pub begin : (begun || list_any (λ entry. begins head entry.blocks) terms) ≡ true
  pub end : (ended || list_any (λ entry. ends head entry.blocks) terms) ≡ true

abbrev texts : List TermEntry → List (List ℕ)
texts terms = map (λ entry. entry.term) terms

abbrev BelowAll : List ℕ → List (List ℕ) → Type 0
BelowAll before terms = AllByRecursion (λ term. slice_cmp nat_cmp before term ≡ Less) terms

below_all : (a b : List ℕ) (terms : List (List ℕ)) → slice_cmp nat_cmp a b ≡ Less → BelowAll b terms → BelowAll a terms
below_all a b [] less all = tt
below_all a b (term ∷ terms) less all =
    (nat_list_cmp_total.trans a b term less all.0, below_all a b terms less all.1)

nothing_below : (low high : ℕ) (terms : List TermEntry) → AllByRecursion (IsEntry low high) terms → BelowAll [] (texts terms)
nothing_below low high [] all = tt
nothing_below low high (entry ∷ later) all = (first entry.term all.0.some, nothing_below low high later all.1)
  where
    first : (term : List ℕ) → 0 < length term → slice_cmp nat_cmp [] term ≡ Less
    first [] some = absurd (omega arith)
    first (byte ∷ term) some = refl

pub whole_is_left : (head : Head) (low high : ℕ) (terms : List TermEntry) → AllByRecursion (IsEntry low high) terms → IsWhole head terms
    → WholeLeft head [] head.stored false false terms
unfolding IsStrictlySortedBy
whole_is_left head low high terms all w = record {
  ascending = (nothing_below low high terms all, w.ascending);
  sum = w.sum;
  begin = w.begin;
  end = w.end;
}

pub left_is_whole : (head : Head) (terms : List TermEntry) → WholeLeft head [] head.stored false false terms → IsWhole head terms
unfolding IsStrictlySortedBy
left_is_whole head terms w = record { ascending = w.ascending.1; sum = w.sum; begin = w.begin; end = w.end }

whole_cons : (head : Head) (before : List ℕ) (left fewer : ℕ) (begun ended : Bool) (entry : TermEntry) (later : List TermEntry)
    → slice_cmp nat_cmp before entry.term ≡ Less → entry.count + fewer ≡ left
    → WholeLeft head entry.term fewer (begun || begins head entry.blocks) (ended || ends head entry.blocks) later
    → WholeLeft head before left begun ended (entry ∷ later)
unfolding IsStrictlySortedBy
whole_cons head before left fewer begun ended entry later less count w = record {
  ascending = ((less, below_all before entry.term (texts later) less w.ascending.0), w.ascending);
  sum = omega (arith, w.sum, sum_by-cons (λ (x : TermEntry). x.count) entry later);
  begin = sym (or_assoc begun (begins head entry.blocks) (list_any (λ x. begins head x.blocks) later)) ∙ w.begin;
  end = sym (or_assoc ended (ends head entry.blocks) (list_any (λ x. ends head x.blocks) later)) ∙ w.end;
}

pub whole_uncons : (head : Head) (before : List ℕ) (left : ℕ) (begun ended : Bool) (entry : TermEntry) (later : List TermEntry)
    → WholeLeft head before left begun ended (entry ∷ later)
    → (slice_cmp nat_cmp before entry.term ≡ Less) × (entry.count ≤ left)
    × ((fewer : ℕ) → entry.count + fewer ≡ left
    → WholeLeft head entry.term fewer (begun || begins head entry.blocks) (ended || ends head entry.blocks) later)
unfolding IsStrictlySortedBy
whole_uncons head before left begun ended entry later w = (
  w.ascending.0.0,
  omega (arith, w.sum, sum_by-cons (λ (x : TermEntry). x.count) entry later),
  λ fewer count. record {
    ascending = w.ascending.1;
    sum = omega (arith, w.sum, sum_by-cons (λ (x : TermEntry). x.count) entry later);
    begin = or_assoc begun (begins head entry.blocks) (list_any (λ x. begins head x.blocks) later) ∙ w.begin;
    end = or_assoc ended (ends head entry.blocks) (list_any (λ x. ends head x.blocks) later) ∙ w.end;
  },
)

-- entries were taken, and what is left has to make up a directory with them
pub record TakenWhole (head : Head) (size : ℕ) (bytes : List ℕ) (place : ℕ) (taken : List TermEntry) (left : ℕ) (rest : List ℕ) (end : ℕ)
    (before : List ℕ) (stored : ℕ) (begun ended : Bool) : Type 0 where
  pub entries : TakenEntries head size head.terms bytes place taken left rest end
  pub on : (later : List TermEntry) → WholeLeft head before stored begun ended later
      → WholeLeft head [] head.stored false false (taken ++ later)
  pub back : (later : List TermEntry) → WholeLeft head [] head.stored false false (taken ++ later)
      → WholeLeft head before stored begun ended later

pub nothing_taken : (head : Head) (size : ℕ) (bytes : List ℕ) (place left : ℕ) → place ≤ size → left ≡ head.terms
    → TakenWhole head size bytes place [] left bytes place [] head.stored false false
nothing_taken head size bytes place left within e = record {
  entries = entries_none_taken head size head.terms left bytes place within e;
  on = λ later w. w;
  back = λ later w. w;
}

pub one_more_taken : (head : Head) (size : ℕ) (bytes : List ℕ) (place : ℕ) (taken : List TermEntry) (left fewer : ℕ)
    (rest after : List ℕ) (end stop : ℕ) (before : List ℕ) (stored less_stored : ℕ) (begun ended begun_now ended_now : Bool)
    (entry : TermEntry) (term : List ℕ)
    → TakenWhole head size bytes place taken left rest end before stored begun ended → 0 < left
    → IsNextEntry head size rest end entry after stop → fewer ≡ left - 1
    → slice_cmp nat_cmp before entry.term ≡ Less → term ≡ entry.term → entry.count + less_stored ≡ stored
    → begun_now ≡ (begun || begins head entry.blocks) → ended_now ≡ (ended || ends head entry.blocks)
    → TakenWhole head size bytes place (taken ++ entry ∷ []) fewer after stop term less_stored begun_now ended_now
one_more_taken head size bytes place taken left fewer rest after end stop before stored less_stored begun ended begun_now ended_now entry
    term t some is f less last count first_is last_is =
    rw (last, first_is, last_is) (record {
      entries = entries_taken head size head.terms bytes place taken (taken ++ entry ∷ []) left fewer rest after end stop entry
          t.entries some is refl f;
      on = λ later w.
          rw (append_assoc taken (entry ∷ []) later)
          (t.on (entry ∷ later) (whole_cons head before stored less_stored begun ended entry later less count w));
      back = λ later w.
          let all = t.back (entry ∷ later) (rw (append_assoc taken (entry ∷ []) later) at w) in
          (whole_uncons head before stored begun ended entry later all).2 less_stored count;
    })

-- no entry comes next that may follow
pub none_may_follow : (head : Head) (size : ℕ) (bytes : List ℕ) (place : ℕ) (taken : List TermEntry) (left : ℕ)
    (rest : List ℕ) (end : ℕ) (before : List ℕ) (stored : ℕ) (begun ended : Bool)
    → TakenWhole head size bytes place taken left rest end before stored begun ended → 0 < left
    → ((entry : TermEntry) (after : List ℕ) (stop : ℕ) → IsNextEntry head size rest end entry after stop
    → slice_cmp nat_cmp before entry.term ≡ Less → entry.count ≤ stored → ⊥)
    → (all : List TermEntry) → AreEntries head size head.terms bytes place all → IsWhole head all → ⊥
none_may_follow head size bytes place taken left rest end before stored begun ended t some none all a w =
    let h = t.entries.back all a in
    let whole = whole_is_left head head.low head.high all a.hold w in
    no_next h.0 h.2 (t.back h.0 (rw h.1 at whole))
  where
    no_next : (later : List TermEntry) → AreEntries head size left rest end later → WholeLeft head before stored begun ended later → ⊥
    no_next [] l m = absurd (let number = l.number in omega arith)
    no_next (entry ∷ later) l m =
        let split = stand_split end size entry.blocks (all_blocks later) l.places in
        let may = whole_uncons head before stored begun ended entry later m in
        none entry l.spelled.0 split.0 (record {
          spelled = l.spelled.1;
          holds = l.hold.0;
          places = split.1;
          within = stand_within split.0 size (all_blocks later) split.2;
        }) may.0 may.1

-- all were taken, and they make up a directory
pub all_is_whole : (head : Head) (size : ℕ) (bytes : List ℕ) (place : ℕ) (taken : List TermEntry) (left : ℕ) (rest : List ℕ) (end : ℕ)
    (before : List ℕ) (stored : ℕ) (begun ended : Bool)
    → TakenWhole head size bytes place taken left rest end before stored begun ended → stored ≡ 0 → begun ≡ true → ended ≡ true
    → IsWhole head taken
unfolding IsStrictlySortedBy
all_is_whole head size bytes place taken left rest end before stored begun ended t none first last =
    let w = t.on [] (record { ascending = (tt, tt); sum = sym none; begin = rw first refl; end = rw last refl }) in
    left_is_whole head taken (rw (append-nil taken) at w)

-- all were taken, and they don't
pub all_not_whole : (head : Head) (size : ℕ) (bytes : List ℕ) (place : ℕ) (taken : List TermEntry) (left : ℕ) (rest : List ℕ) (end : ℕ)
    (before : List ℕ) (stored : ℕ) (begun ended : Bool)
    → TakenWhole head size bytes place taken left rest end before stored begun ended → left ≡ 0
    → (stored ≡ 0 → begun ≡ true → ended ≡ true → ⊥)
    → (all : List TermEntry) → AreEntries head size head.terms bytes place all → IsWhole head all → ⊥
all_not_whole head size bytes place taken left rest end before stored begun ended t nothing none all a w =
    let h = t.entries.back all a in
    let whole = whole_is_left head head.low head.high all a.hold w in
    no_later h.0 h.2 (t.back h.0 (rw h.1 at whole))
  where
    or_false : (b : Bool) → (b || false) ≡ true → b ≡ true
    or_false true e = refl
    or_false false e = e

    no_later : (later : List TermEntry) → AreEntries head size left rest end later → WholeLeft head before stored begun ended later → ⊥
    no_later [] l m = none (sym m.sum) (or_false begun m.begin) (or_false ended m.end)
    no_later (entry ∷ later) l m = absurd (let number = l.number in omega arith)
