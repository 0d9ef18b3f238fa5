-- Lemmas on lists that are read back.
use Rattle.std.proofs.Common.{◌≡◌, ℕ, zero, suc, ◌+◌, ◌-◌, ◌<◌, ◌≤◌, min, List, [], ◌∷◌, ◌++◌, length, take, drop, refl, ap, sym, subst}
use Rattle.std.proofs.Common.{◌∙◌, append_assoc, append-nil, length-append, arith}
use Rattle.std.specs.Prelude.{slice_range}
use Rattle.std.specs.List.{AllZip}
use Rattle.wu_base.specs.declared.addresses.TermList.{TermList}
use Rattle.wu_vbyte.proofs.BlockLemmas.{block_some}
use Rattle.wu_vbyte.specs.declared.blocks.TheConstants.{BLOCK_LEN}
use Rattle.wu_vbyte.specs.Blocks.{SpellsBlock, AreFromTo}
use Rattle.wu_part.specs.declared.entries.BlockEntry.{BlockEntry}
use Rattle.wu_part.specs.declared.entries.TermEntry.{TermEntry}
use Rattle.wu_part.specs.declared.reading.Head.{Head}
use Rattle.wu_part.specs.Entries.{AreEntries}
use Rattle.wu_part.specs.Marks.{IsMark, mark_of}
use Rattle.wu_part.specs.Parts.{HoldsBlock, HoldBlocks, HoldsList}

-- ---- the blocks of an entry

-- What was found of the first entry, where that entry is left.
abbrev pub AreReadBack : ℕ → List ℕ → TermEntry → TermEntry → List ℕ → Type 0
AreReadBack low blob first left found =
    (rest : List ℕ) → length rest ≡ left.count → HoldBlocks low blob left.blocks rest → HoldBlocks low blob first.blocks (found ++ rest)

pub none_read_back : (low : ℕ) (blob : List ℕ) (first : TermEntry) (found : List ℕ) → found ≡ [] → AreReadBack low blob first first found
none_read_back low blob first found e = λ rest n h. subst (λ xs. HoldBlocks low blob first.blocks (xs ++ rest)) (sym e) h

pub cut_at : (n : ℕ) (xs ys : List ℕ) → length xs ≤ n → (length xs < n → length ys ≡ 0)
    → (take n (xs ++ ys) ≡ xs) × (drop n (xs ++ ys) ≡ ys)
cut_at zero [] ys l h = (refl, refl)
cut_at zero (x ∷ xs) ys l h = absurd (omega arith)
cut_at (suc n) [] [] l h = (refl, refl)
cut_at (suc n) [] (y ∷ ys) l h = absurd (omega (arith, h (omega arith)))
cut_at (suc n) (x ∷ xs) ys l h =
    let r = cut_at n xs ys (omega arith) (λ m. h (omega arith)) in
    (ap (λ (zs : List ℕ). x ∷ zs) r.0, r.1)

-- the entry that is left is that of the blocks after the first one
pub record IsAfter (entry left : TermEntry) (block : BlockEntry) : Type 0 where
  pub blocks : entry.blocks ≡ block ∷ left.blocks
  pub count : left.count ≡ entry.count - BLOCK_LEN
  pub term : left.term ≡ entry.term

pub hold_cons : (low : ℕ) (blob : List ℕ) (count : ℕ) (block : BlockEntry) (later : List BlockEntry) (addresses rest : List ℕ)
    → length addresses ≡ min count BLOCK_LEN → length rest ≡ count - BLOCK_LEN
    → HoldsBlock low blob block addresses → HoldBlocks low blob later rest → HoldBlocks low blob (block ∷ later) (addresses ++ rest)
hold_cons low blob count block later addresses rest n m h g =
    let cut = cut_at BLOCK_LEN addresses rest (omega arith) (λ l. omega arith) in
    (subst (HoldsBlock low blob block) (sym cut.0) h, subst (HoldBlocks low blob later) (sym cut.1) g)

pub one_read_back : (low count : ℕ) (blob : List ℕ) (first entry left : TermEntry) (block : BlockEntry) (found addresses bytes new : List ℕ)
    → AreReadBack low blob first entry found → entry.blocks ≡ block ∷ left.blocks → count ≡ min entry.count BLOCK_LEN
    → left.count ≡ entry.count - BLOCK_LEN → bytes ≡ slice_range blob block.at (block.at + block.len)
    → SpellsBlock low addresses bytes → AreFromTo count block.first block.last addresses → new ≡ found ++ addresses
    → AreReadBack low blob first left new
one_read_back low count blob first entry left block found addresses bytes new r blocks n less is spelled span e = λ rest m h.
    let some = block_some low addresses bytes spelled in
    let long = span.number in
    let all : length addresses + length rest ≡ entry.count = omega arith in
    let block_held : HoldsBlock low blob block addresses = record {
      spelled = subst (SpellsBlock low addresses) is spelled;
      span = subst (λ k. AreFromTo k block.first block.last addresses) (sym long) span;
    } in
    let held = hold_cons low blob entry.count block left.blocks addresses rest (omega arith) (omega arith) block_held h in
    let whole : HoldBlocks low blob first.blocks (found ++ (addresses ++ rest)) =
    r (addresses ++ rest) (omega (arith, length-append addresses rest))
    (subst (λ bs. HoldBlocks low blob bs (addresses ++ rest)) (sym blocks) held) in
    subst (HoldBlocks low blob first.blocks) (sym (append_assoc found addresses rest) ∙ ap (λ xs. xs ++ rest) (sym e)) whole

pub all_read_back : (low : ℕ) (blob : List ℕ) (first left : TermEntry) (found : List ℕ) → AreReadBack low blob first left found
    → left.blocks ≡ [] → left.count ≡ 0 → HoldBlocks low blob first.blocks found
all_read_back low blob first left found r none count =
    subst (HoldBlocks low blob first.blocks) (append-nil found)
    (r [] (sym count) (subst (λ bs. HoldBlocks low blob bs []) (sym none) refl))

-- ---- the entries of a directory

-- The lists are those of the entries before the ones that are left.
abbrev pub AreListsReadBack : ℕ → List ℕ → List TermEntry → List TermEntry → List TermList → Type 0
AreListsReadBack low blob terms left lists =
    (passed : List TermEntry) × (terms ≡ passed ++ left) × AllZip (HoldsList low blob) passed lists

pub no_lists_read_back : (low : ℕ) (blob : List ℕ) (terms left : List TermEntry) (lists : List TermList) → left ≡ terms → lists ≡ []
    → AreListsReadBack low blob terms left lists
no_lists_read_back low blob terms left lists e none = ([], sym e, subst (AllZip (HoldsList low blob) []) (sym none) tt)

held_more : (low : ℕ) (blob : List ℕ) (entries : List TermEntry) (lists : List TermList) (entry : TermEntry) (list : TermList)
    → AllZip (HoldsList low blob) entries lists → HoldsList low blob entry list
    → AllZip (HoldsList low blob) (entries ++ entry ∷ []) (lists ++ list ∷ [])
held_more low blob [] [] entry list a h = (h, tt)
held_more low blob [] (other ∷ lists) entry list a h = absurd a
held_more low blob (first ∷ entries) [] entry list a h = absurd a
held_more low blob (first ∷ entries) (other ∷ lists) entry list a h = (a.0, held_more low blob entries lists entry list a.1 h)

pub one_list_read_back : (low : ℕ) (blob : List ℕ) (terms left later : List TermEntry) (entry : TermEntry)
    (lists new : List TermList) (list : TermList)
    → AreListsReadBack low blob terms left lists → left ≡ entry ∷ later → HoldsList low blob entry list → new ≡ lists ++ list ∷ []
    → AreListsReadBack low blob terms later new
one_list_read_back low blob terms left later entry lists new list r next h e = (
  r.0 ++ entry ∷ [],
  r.1 ∙ (ap (λ (es : List TermEntry). r.0 ++ es) next ∙ sym (append_assoc r.0 (entry ∷ []) later)),
  subst (AllZip (HoldsList low blob) (r.0 ++ entry ∷ [])) (sym e) (held_more low blob r.0 lists entry list r.2 h),
)

pub all_lists_read_back : (low : ℕ) (blob : List ℕ) (terms left : List TermEntry) (lists : List TermList)
    → AreListsReadBack low blob terms left lists → left ≡ [] → AllZip (HoldsList low blob) terms lists
all_lists_read_back low blob terms left lists r none =
    subst (λ es. AllZip (HoldsList low blob) es lists) (sym (r.1 ∙ (ap (λ (es : List TermEntry). r.0 ++ es) none ∙ append-nil r.0))) r.2

-- the mark of the first entry
pub start_mark : (head : Head) (size : ℕ) (bytes : List ℕ) (terms : List TermEntry) → AreEntries head size head.terms bytes 0 terms
    → IsMark head size bytes (mark_of 0 0 0) terms
start_mark head size bytes terms a =
    let all : head.terms ≡ head.terms - 0 = omega arith in
    record { inside = omega arith; number = omega arith; entries = subst (λ n. AreEntries head size n bytes 0 terms) all a }
