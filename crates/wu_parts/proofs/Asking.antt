-- What is asked of several parts, one after another, and why it fails.
use Rattle.std.proofs.Common.{◌≡◌, ℕ, ◌-◌, ◌<◌, true, false, cond, Bool, List, [], ◌∷◌, ◌++◌, length, filter, Option, None, Some, refl, ap}
use Rattle.std.proofs.Common.{ap₂, sym, ◌∙◌, subst, arith, append-nil, append_assoc, inl, inr}
use Rattle.std.specs.Prelude.{IfErr, IfSome, IsErrAnd, OnErr, Result, Ok, Err, zip}
use Rattle.std.specs.List.{AllByRecursion, list_any}
use Rattle.std.specs.Map.{keys_of}
use Rattle.wu_base.specs.declared.addresses.PartRec.{PartRec}
use Rattle.wu_base.specs.declared.addresses.Range.{Range}
use Rattle.wu_base.specs.declared.troubles.Trouble.{Trouble}
use Rattle.wu_base.specs.declared.troubles.Trouble.TheVariants.{NoMemory}
use Rattle.wu_base.proofs.EachLemmas.{each-append, each_left}
use Rattle.wu_base.proofs.Results.{on_err}
use Rattle.wu_outside.specs.Content.{Content}
use Rattle.wu_outside.specs.declared.ranges.ReadRange.{ReadRange}
use Rattle.wu_layout.specs.Invariants.{SomeOf}
use Rattle.wu_vbyte.specs.declared.blocks.TheConstants.{BLOCK_LEN}
use Rattle.wu_part.specs.declared.entries.BlockEntry.{BlockEntry}
use Rattle.wu_part.specs.declared.entries.TermEntry.{TermEntry}
use Rattle.wu_part.specs.Directories.{PartDirectory}
use Rattle.wu_lists.specs.declared.blocks.Block.{Block}
use Rattle.wu_lists.specs.Blocks.{blocks_from, blocks_in, blocks_of, entry_of, meets, needed}
use Rattle.wu_lists.specs.Causes.{IsCause}
use Rattle.wu_part.specs.Parts.{IsNoPart}
use Rattle.wu_lists.specs.Keeping.{Asks, AsksFirst, Kept, all_asked, all_missing, asked, is_same, missing}
use Rattle.wu_parts.specs.Causes.{IsAskCause, IsFetchCause}
use Rattle.wu_parts.specs.Contents.{Contents}
use Rattle.wu_parts.specs.Holdings.{AsksFirstOfParts, AsksParts, all_needed}
use Rattle.wu_parts.specs.StoredParts.{directories_of, pairs_of, records_of}
use Rattle.wu_parts.specs.declared.writing.StoredPart.{StoredPart}
use Rattle.wu_layout.proofs.KeptLemmas.{SomeOf-right}
use Rattle.wu_lists.proofs.Asking.{all_missing-append, first-all, ranges-join, with_ranges}

-- ---- blocks

-- which of the later ones are read depends on those that the earlier ones leave
missing_after : (blocks more : List Block) (holds : Option Content) (old new : Kept) (ranges ranges_now : Option (List ReadRange))
    → Asks blocks holds old new ranges ranges_now
    → all_missing new.cap (keys_of new.entries) more ≡ all_missing old.cap (all_asked old.cap (keys_of old.entries) blocks) more
missing_after blocks more holds old new ranges ranges_now a = ap₂ (λ (n : ℕ) (l : List Block). all_missing n l more) a.capacity a.kept

-- ---- the blobs of blocks

abbrev IsIn : ℕ → Block → Type 0
IsIn blob block = block.blob ≡ blob

blocks_in_blob : (blob low count : ℕ) (entries : List BlockEntry) → AllByRecursion (IsIn blob) (blocks_from blob low count entries)
blocks_in_blob blob low count [] = tt
blocks_in_blob blob low count (entry ∷ entries) = (refl, blocks_in_blob blob low (count - BLOCK_LEN) entries)

entry_in_blob : (blob low : ℕ) (entry : Option TermEntry) → AllByRecursion (IsIn blob) (blocks_in blob low entry)
entry_in_blob blob low None = tt
entry_in_blob blob low (Some entry) = blocks_in_blob blob low entry.count entry.blocks

all-filter : (P : Block → Type 0) (test : Block → Bool) (blocks : List Block) → AllByRecursion P blocks
    → AllByRecursion P (filter test blocks)
all-filter P test [] a = tt
all-filter P test (block ∷ blocks) a =
    elim (test block) as (λ b. AllByRecursion P (cond b (block ∷ filter test blocks) (filter test blocks))) [
      | true ↦ (a.0, all-filter P test blocks a.1)
      | false ↦ all-filter P test blocks a.1
    ]

needed_in : (blob : ℕ) (directory : PartDirectory) (term : List ℕ) (frames : List Range)
    → AllByRecursion (IsIn blob) (needed blob directory term frames)
needed_in blob directory term frames =
    all-filter (IsIn blob) (meets frames) (blocks_of blob directory term)
    (entry_in_blob blob directory.low (entry_of directory.terms term))

missing_in : (blob capacity : ℕ) (blocks kept : List Block) → AllByRecursion (IsIn blob) blocks
    → AllByRecursion (IsIn blob) (all_missing capacity kept blocks)
missing_in blob capacity [] kept a = tt
missing_in blob capacity (block ∷ blocks) kept a =
    each-append (IsIn blob) (missing kept block) (all_missing capacity (asked capacity kept block) blocks)
    (elim (list_any (is_same block) kept) as (λ b. AllByRecursion (IsIn blob) (cond b [] (block ∷ []))) [
      | true ↦ tt
      | false ↦ (a.0, tt)
    ])
    (missing_in blob capacity blocks (asked capacity kept block) a.1)

some-first : (P : Block → Type 0) (xs : List Block) → 0 < length xs → AllByRecursion P xs → SomeOf P xs
some-first P [] l a = absurd (omega arith)
some-first P (x ∷ xs) l a = inl a.0

-- ---- troubles

module _ (parts : List (PartRec × PartDirectory)) (part : PartRec × PartDirectory) (term : List ℕ) (frames : List Range) (old : Kept)
    (holds : Option Content) where
  abbrev mine : List Block
  mine = needed part.0.blob part.1 term frames

  abbrev others : List Block
  others = all_needed parts term frames

  -- those that are read of the later parts, after the first part's
  abbrev left_missing : List Block
  left_missing = all_missing old.cap (all_asked old.cap (keys_of old.entries) mine) others

  both_missing : all_missing old.cap (keys_of old.entries) (mine ++ others)
      ≡ all_missing old.cap (keys_of old.entries) mine ++ left_missing
  both_missing = all_missing-append old.cap (keys_of old.entries) mine others

  -- the first part's fetch failed
  pub cause-first : (before now : ℕ) (ranges ranges_now : Option (List ReadRange)) (trouble : Trouble)
      → IsCause (all_missing old.cap (keys_of old.entries) mine) part.0.blob
      (IfSome holds (λ content. IsNoPart part.1 (content.blobs part.0.blob))) before now ranges ranges_now trouble
      → IsFetchCause (part ∷ parts) (all_missing old.cap (keys_of old.entries) (mine ++ others)) holds before now ranges ranges_now trouble
  cause-first before now ranges ranges_now trouble c = record {
    counted = c.counted;
    store_fault = c.store_fault;
    calm = c.calm;
    added = c.added;
    unread = c.unread ++ left_missing;
    front = both_missing ∙ ap (λ (l : List Block). l ++ left_missing) c.front ∙ append_assoc c.added c.unread left_missing;
    read = c.read;
    damaged = λ blob e.
        let d = c.damaged blob e in
        let own : AllByRecursion (IsIn part.0.blob) (all_missing old.cap (keys_of old.entries) mine) =
        missing_in part.0.blob old.cap mine (keys_of old.entries) (needed_in part.0.blob part.1 term frames) in
        let read : AllByRecursion (IsIn part.0.blob) c.added =
        each_left (IsIn part.0.blob) c.added c.unread (subst (AllByRecursion (IsIn part.0.blob)) c.front own) in
        let same : part.0.blob ≡ blob = sym d.0 in (
          some-first (IsIn blob) c.added d.1 (subst (λ (n : ℕ). AllByRecursion (IsIn n) c.added) same read),
          inl (same, subst (λ (n : ℕ). IfSome holds (λ content. IsNoPart part.1 (content.blobs n))) same d.2),
        );
  }

  -- a later part's fetch failed
  pub cause-later : (middle : Kept) (before now : ℕ) (first next last : Option (List ReadRange)) (trouble : Trouble)
      → Asks mine holds old middle first next
      → IsFetchCause parts (all_missing middle.cap (keys_of middle.entries) others) holds before now next last trouble
      → IsFetchCause (part ∷ parts) (all_missing old.cap (keys_of old.entries) (mine ++ others)) holds before now first last trouble
  cause-later middle before now first next last trouble a c =
      let own : List Block = all_missing old.cap (keys_of old.entries) mine in
      record {
        counted = c.counted;
        store_fault = c.store_fault;
        calm = c.calm;
        added = own ++ c.added;
        unread = c.unread;
        front =
            both_missing
            ∙ ap (λ (l : List Block). own ++ l) (sym (missing_after mine others holds old middle first next a) ∙ c.front)
            ∙ sym (append_assoc own c.added c.unread);
        read = c.read ∙ ap (λ (r : Option (List ReadRange)). with_ranges r c.added) a.read ∙ ranges-join first own c.added;
        damaged = λ blob e. let d = c.damaged blob e in (SomeOf-right (IsIn blob) own c.added d.0, inr d.1);
      }

pub zipped : (parts : List StoredPart) → zip (records_of parts) (directories_of parts) ≡ pairs_of parts
zipped [] = refl
zipped (part ∷ parts) = ap (λ (l : List (PartRec × PartDirectory)). (part.recorded, part.directory) ∷ l) (zipped parts)

-- ---- what is handed on

pub answered : {T : Type 0} (P : Trouble → Type 0) (r : Result T Trouble) (trouble : Trouble) → IsErrAnd r (λ t. t ≡ trouble) → P trouble
    → IfErr r P
answered P (Ok value) trouble is p = absurd is
answered P (Err t) trouble is p = subst P (sym is) p

-- all blocks were read that were to be, and memory ran out then
pub cause-done : (parts : List (PartRec × PartDirectory)) (blocks : List Block) (holds : Option Content) (old new : Kept) (before now : ℕ)
    (ranges ranges_now : Option (List ReadRange)) → Asks blocks holds old new ranges ranges_now → now ≡ before
    → IsFetchCause parts (all_missing old.cap (keys_of old.entries) blocks) holds before now ranges ranges_now NoMemory
cause-done parts blocks holds old new before now ranges ranges_now a e = record {
  counted = omega arith;
  store_fault = λ s. absurd cc;
  calm = λ s. e;
  added = all_missing old.cap (keys_of old.entries) blocks;
  unread = [];
  front = sym (append-nil (all_missing old.cap (keys_of old.entries) blocks));
  read = a.read;
  damaged = λ blob s. absurd cc;
}

-- the same parts and kept blocks, as contracts see them
pub cause-seen : (pairs others : List (PartRec × PartDirectory)) (kept same : Kept) (term : List ℕ) (frames : List Range)
    (holds : Option Content) (before now : ℕ) (ranges ranges_now : Option (List ReadRange)) (trouble : Trouble)
    → pairs ≡ others → kept ≡ same
    → IsFetchCause pairs (all_missing kept.cap (keys_of kept.entries) (all_needed pairs term frames)) holds before now ranges ranges_now
    trouble
    → IsFetchCause others (all_missing same.cap (keys_of same.entries) (all_needed others term frames)) holds before now ranges ranges_now
    trouble
cause-seen pairs others kept same term frames holds before now ranges ranges_now trouble p k c =
    subst
    (λ (l : Kept). IsFetchCause others (all_missing l.cap (keys_of l.entries) (all_needed others term frames)) holds before now ranges
    ranges_now trouble)
    k
    (subst
    (λ (ps : List (PartRec × PartDirectory)). IsFetchCause ps (all_missing kept.cap (keys_of kept.entries) (all_needed ps term frames))
    holds before now ranges ranges_now trouble)
    p c)

pub asks-seen : (pairs others : List (PartRec × PartDirectory)) (kept same new : Kept) (term : List ℕ) (frames : List Range)
    (holds : Option Content) (ranges ranges_now : Option (List ReadRange)) → pairs ≡ others → kept ≡ same
    → Asks (all_needed pairs term frames) holds kept new ranges ranges_now
    → Asks (all_needed others term frames) holds same new ranges ranges_now
asks-seen pairs others kept same new term frames holds ranges ranges_now p k a =
    subst (λ (l : Kept). Asks (all_needed others term frames) holds l new ranges ranges_now) k
    (subst (λ (ps : List (PartRec × PartDirectory)). Asks (all_needed ps term frames) holds kept new ranges ranges_now) p a)

-- the parts, as contracts see them
pub seen-parts : (old fields : Contents) (parts slice : List StoredPart) → fields ≡ old → fields.parts ≡ records_of parts
    → fields.directories ≡ directories_of parts → slice ≡ parts → pairs_of slice ≡ zip old.parts old.directories
seen-parts old fields parts slice e p d s =
    ap pairs_of s
    ∙ sym (zipped parts)
    ∙ ap (λ ps. zip ps (directories_of parts)) (sym p)
    ∙ ap (zip fields.parts) (sym d)
    ∙ ap (λ (k : Contents). zip k.parts k.directories) e

-- what is asked for and answered of the parts, as contracts see them
module _ (old fields : Contents) (parts slice : List StoredPart) (is : fields ≡ old) (records : fields.parts ≡ records_of parts)
    (directories : fields.directories ≡ directories_of parts) (sliced : slice ≡ parts) (term : List ℕ) (frames : List Range)
    (holds : Option Content) where
  abbrev told_missing : List (PartRec × PartDirectory) → Kept → List Block
  told_missing pairs kept = all_missing kept.cap (keys_of kept.entries) (all_needed pairs term frames)

  pub asks-told : (new : Kept) (ranges ranges_now : Option (List ReadRange))
      → Asks (all_needed (pairs_of slice) term frames) holds fields.kept new ranges ranges_now
      → Asks (all_needed (zip old.parts old.directories) term frames) holds old.kept new ranges ranges_now
  asks-told new ranges ranges_now a =
      asks-seen (pairs_of slice) (zip old.parts old.directories) fields.kept old.kept new term frames holds ranges ranges_now
      (seen-parts old fields parts slice is records directories sliced) (ap (λ (k : Contents). k.kept) is) a

  pub first-told : (new : Kept) → AsksFirst (all_needed (pairs_of slice) term frames) holds fields.kept new
      → AsksFirst (all_needed (zip old.parts old.directories) term frames) holds old.kept new
  first-told new f =
      subst (λ (l : Kept). AsksFirst (all_needed (zip old.parts old.directories) term frames) holds l new)
      (ap (λ (k : Contents). k.kept) is)
      (subst (λ (ps : List (PartRec × PartDirectory)). AsksFirst (all_needed ps term frames) holds fields.kept new)
      (seen-parts old fields parts slice is records directories sliced) f)

  pub cause-told : {T : Type 0} (r : Result T Trouble) (trouble : Trouble) (before now : ℕ) (ranges ranges_now : Option (List ReadRange))
      → IsErrAnd r (λ t. t ≡ trouble)
      → IsFetchCause (pairs_of slice) (told_missing (pairs_of slice) fields.kept) holds before now ranges ranges_now trouble
      → IfErr r (IsFetchCause (zip old.parts old.directories) (told_missing (zip old.parts old.directories) old.kept) holds before now
      ranges ranges_now)
  cause-told r trouble before now ranges ranges_now e c =
      answered
      (IsFetchCause (zip old.parts old.directories) (told_missing (zip old.parts old.directories) old.kept) holds before now ranges
      ranges_now)
      r trouble e
      (cause-seen (pairs_of slice) (zip old.parts old.directories) fields.kept old.kept term frames holds before now ranges ranges_now
      trouble (seen-parts old fields parts slice is records directories sliced) (ap (λ (k : Contents). k.kept) is) c)

-- all blocks were asked for, and memory ran out then
pub cause-after : {T : Type 0} (r : Result T Trouble) (contents : Contents) (term : List ℕ) (frames : List Range) (holds : Option Content)
    (new : Kept) (before now : ℕ) (ranges ranges_now : Option (List ReadRange)) → IsErrAnd r (λ t. t ≡ NoMemory)
    → AsksParts contents term frames holds new ranges ranges_now → now ≡ before
    → IfErr r (IsAskCause contents term frames holds before now ranges ranges_now)
cause-after r contents term frames holds new before now ranges ranges_now e a calm =
    let pairs : List (PartRec × PartDirectory) = zip contents.parts contents.directories in
    answered (IsAskCause contents term frames holds before now ranges ranges_now) r NoMemory e
    (cause-done pairs (all_needed pairs term frames) holds contents.kept new before now ranges ranges_now a calm)

pub kept-after : {T : Type 0} (r : Result T Trouble) (contents : Contents) (term : List ℕ) (frames : List Range) (holds : Option Content)
    (new : Kept) (ranges ranges_now : Option (List ReadRange)) → AsksParts contents term frames holds new ranges ranges_now
    → OnErr r (AsksFirstOfParts contents term frames holds new)
kept-after r contents term frames holds new ranges ranges_now a =
    on_err r
    (first-all holds contents.kept new ranges ranges_now (all_needed (zip contents.parts contents.directories) term frames) a)
