-- The texts of a store of the first version, read one after the other and indexed anew.
use Rattle.std.proofs.Common.{◌≡◌, ℕ, ◌+◌, ◌<◌, ◌≤◌, ◌==◌, Bool, false, cond, List, [], ◌∷◌, ◌++◌, length, map, take, drop}
use Rattle.std.proofs.Common.{get_or, refl, ap, sym, ◌∙◌, subst, inl, inr, ⊎_elim, arith}
use Rattle.std.specs.Prelude.{Option, Some, None, IfSome, option_map}
use Rattle.std.specs.List.{AllByRecursion}
use Rattle.std.proofs.lemmas.Bool.{ne_eqb}
use Rattle.std.proofs.lemmas.Grind.{flat_map-append}
use Rattle.std.proofs.lemmas.List.Sorted.{IsPermutation-sym}
use Rattle.std.proofs.lemmas.List.{append-nil, drop_more, take-append-drop, take_more}
use Rattle.wu_base.specs.declared.limits.TheConstants.{SPENT_AT}
use Rattle.wu_base.specs.declared.troubles.Trouble.{Trouble}
use Rattle.wu_base.specs.declared.troubles.Trouble.TheVariants.{NoMemory}
use Rattle.wu_base.proofs.EachLemmas.{each-append, each-permuted, each-push}
use Rattle.wu_base.proofs.Members.{Has}
use Rattle.wu_outside.specs.Content.{Content}
use Rattle.wu_outside.specs.declared.ranges.ReadRange.{ReadRange}
use Rattle.wu_layout.specs.Invariants.{SomeOf}
use Rattle.wu_layout.specs.Postings.{Posting, placed_from}
use Rattle.wu_layout.proofs.KeptLemmas.{SomeOf-left}
use Rattle.wu_token.specs.Tokens.{tokens_of}
use Rattle.wu_lists.proofs.Asking.{ranges-none}
use Rattle.wu_parts.specs.Memory.{Gains, HasPostings, Memory}
use Rattle.wu_image.specs.declared.checkpoints.Checkpoint.{Checkpoint}
use Rattle.wu_image.specs.declared.records.FileRec.{FileRec}
use Rattle.wu_image.specs.Checkpoints.{IsCheckpoint}
use Rattle.wu_image.specs.Checks.{AreInOrder}
use Rattle.wu_image.specs.Images.{IsByAddress, postings_from, text_held}
use Rattle.wu_image.specs.LayoutRules.{IsText}
use Rattle.wu_image.proofs.FileOrder.{moved_has}
use Rattle.wu_image.proofs.RangesInOrder.{files_in_order}
use Rattle.wu_query.specs.Causes.{IsBrokenIn}
use Rattle.wu_query.specs.Finding.{AreFirstOf, IsCause}
use Rattle.wu_query.specs.Permitted.{ReadsOnly, ReadsSuch}
use Rattle.wu_query.specs.Reads.{IsOfText, whole_text}
use Rattle.wu_query.proofs.PermittedBlocks.{reads_joined}
use Rattle.wu_query.proofs.ReadCauses.{cause_after, cause_behind}
use Rattle.wu_engine.specs.Reindexed.{IsReindexable}
use Rattle.wu_engine.specs.Reindexing.{IsFirstBrokenText, IsFirstOfBroken, IsTextOfOne, IsThere, texts_whole}
use Rattle.wu_engine.proofs.IndexLemmas.{postings_gained}
use Rattle.wu_engine.proofs.OpenedFiles.{text_recorded}
use Rattle.wu_engine.proofs.ReindexedStates.{texts_filled}

-- ---- one text

-- each of these ranges is one of all
each_among : (all read : List ReadRange) → ((range : ReadRange) → SomeOf (λ one. one ≡ range) read → SomeOf (λ one. one ≡ range) all)
    → AllByRecursion (λ range. SomeOf (λ one. one ≡ range) all) read
each_among all [] among = tt
each_among all (range ∷ read) among = (among range (inl refl), each_among all read (λ other is. among other (inr is)))

-- the first ones that are read of a text are of it
each_first : (blob len : ℕ) (read left : List ReadRange) → read ++ left ≡ whole_text blob len
    → AllByRecursion (IsOfText blob len) read
each_first blob len read left e =
    each_among (whole_text blob len) read
    (λ range is. subst (SomeOf (λ one. one ≡ range)) e (SomeOf-left (λ (one : ReadRange). one ≡ range) read left is))

pub first_only : (blob len : ℕ) (before after : Option (List ReadRange)) → ReadsSuch (AreFirstOf (whole_text blob len)) before after
    → ReadsOnly (IsOfText blob len) before after
first_only blob len before after reads = (reads.0, each_first blob len reads.0 reads.1.0 reads.1.1, reads.2)

pub whole_only : (blob len : ℕ) (before after : Option (List ReadRange)) → after ≡ option_map (λ ranges. ranges ++ whole_text blob len) before
    → ReadsOnly (IsOfText blob len) before after
whole_only blob len before after reads =
    (whole_text blob len, each_first blob len (whole_text blob len) [] (append-nil (whole_text blob len)), reads)

-- the terms stand at the file's addresses
pub text_gained : (holds : Option Content) (file : FileRec) (text : List ℕ) (old new : Memory)
    → IfSome holds (λ content. text ≡ text_held content file) → length (tokens_of text) ≡ file.range.len
    → Gains file.range.start (tokens_of text) old new
    → IfSome holds (λ content. (length (tokens_of (text_held content file)) ≡ file.range.len)
    × Gains file.range.start (tokens_of (text_held content file)) old new)
text_gained None file text old new is long gains = tt
text_gained (Some content) file text old new is long gains =
    subst (λ (t : List ℕ). (length (tokens_of t) ≡ file.range.len) × Gains file.range.start (tokens_of t) old new) is (long, gains)

pub end_gained : (start : ℕ) (terms : List (List ℕ)) (len : ℕ) (old new : Memory) → length terms ≡ len → 0 < len
    → Gains start terms old new → new.end ≡ start + len
end_gained start terms len old new long some gains =
    let filled : (length terms == 0) ≡ false = ne_eqb (length terms) 0 (λ e. omega (arith, e, long, some)) in
    gains.end ∙ ap (λ (b : Bool). cond {A = ℕ} b old.end (start + length terms)) filled ∙ ap (λ (n : ℕ). start + n) long

-- memory ran out
pub memory_cause : (Broken : ℕ → Type 0) (before now : ℕ) (ranges ranges_now : Option (List ReadRange)) → now ≡ before
    → IsCause Broken before now ranges ranges_now NoMemory
memory_cause Broken before now ranges ranges_now same = record {
  kept = omega (arith, same);
  store_fault = λ e. absurd cc;
  calm = λ _. same;
  damaged = λ blob e. absurd cc;
  read = λ blob e. absurd cc;
}

-- ---- a turn of the loop

abbrev pub no_file : FileRec
no_file = record { ino = 0; len = 0; blob = 0; range = record { start = 0; len = 0 } }

ranges_among : (before after : List FileRec) (file : FileRec) (read : List ReadRange)
    → AllByRecursion (IsOfText file.blob file.len) read
    → AllByRecursion (IsTextOfOne (before ++ file ∷ after)) read
ranges_among before after file [] all = tt
ranges_among before after file (range ∷ read) all = (among before, ranges_among before after file read all.1)
  where
    among : (some : List FileRec) → IsTextOfOne (some ++ file ∷ after) range
    among [] = inl all.0
    among (first ∷ some) = inr (among some)

module _ (files : List FileRec) (i : ℕ) (within : i < length files) where
  abbrev pub its : FileRec
  its = get_or files i no_file

  left_now : drop i files ≡ its ∷ drop (i + 1) files
  left_now = drop_more files i no_file within

  split_now : files ≡ take i files ++ its ∷ drop (i + 1) files
  split_now = sym (take-append-drop i files) ∙ ap (λ (l : List FileRec). take i files ++ l) left_now

  pub turn-order : (end : ℕ) → AreInOrder end (map (λ file. file.range) (drop i files))
      → (end ≤ its.range.start) × AreInOrder (its.range.start + its.range.len) (map (λ file. file.range) (drop (i + 1) files))
  turn-order end order =
      subst (λ (l : List FileRec). AreInOrder end (map (λ file. file.range) l)) left_now order

  pub turn-whole : (holds told : Option Content) → told ≡ holds → AllByRecursion (IsThere holds) (take i files) → IsThere told its
      → AllByRecursion (IsThere holds) (take (i + 1) files)
  turn-whole holds told same all here =
      subst (AllByRecursion (IsThere holds)) (sym (take_more files i no_file within))
      (each-push (IsThere holds) (take i files) its all (subst (λ (h : Option Content). IsThere h its) same here))

  pub turn-reads : (first next last : Option (List ReadRange)) → next ≡ option_map (λ ranges. ranges ++ texts_whole (take i files)) first
      → last ≡ option_map (λ ranges. ranges ++ whole_text its.blob its.len) next
      → last ≡ option_map (λ ranges. ranges ++ texts_whole (take (i + 1) files)) first
  turn-reads first next last before here =
      let one_more : texts_whole (take (i + 1) files) ≡ texts_whole (take i files) ++ whole_text its.blob its.len =
      ap texts_whole (take_more files i no_file within)
      ∙ flat_map-append (λ (file : FileRec). whole_text file.blob file.len) (take i files) (its ∷ [])
      ∙ ap (λ (rs : List ReadRange). texts_whole (take i files) ++ rs) (append-nil (whole_text its.blob its.len)) in
      here ∙ ap (option_map (λ (ranges : List ReadRange). ranges ++ whole_text its.blob its.len)) before
      ∙ reads_joined first (texts_whole (take i files)) (whole_text its.blob its.len)
      ∙ ap (λ (rs : List ReadRange). option_map (λ (ranges : List ReadRange). ranges ++ rs) first) (sym one_more)

  pub turn-only : (first next last : Option (List ReadRange)) → ReadsOnly (IsTextOfOne files) first next
      → ReadsOnly (IsOfText its.blob its.len) next last → ReadsOnly (IsTextOfOne files) first last
  turn-only first next last before here = (
    before.0 ++ here.0,
    each-append (IsTextOfOne files) before.0 here.0 before.1
        (subst (λ (l : List FileRec). AllByRecursion (IsTextOfOne l) here.0) (sym split_now)
        (ranges_among (take i files) (drop (i + 1) files) its here.0 here.1)),
    here.2 ∙ ap (option_map (λ (ranges : List ReadRange). ranges ++ here.0)) before.2 ∙ reads_joined first before.0 here.0,
  )

  pub turn-memory : (holds told : Option Content) → told ≡ holds → (old new : Memory)
      → IfSome holds (λ content. HasPostings 0 old.end old (postings_from (text_held content) (take i files)))
      → old.end ≤ its.range.start
      → IfSome told (λ content. (length (tokens_of (text_held content its)) ≡ its.range.len)
      × Gains its.range.start (tokens_of (text_held content its)) old new)
      → new.end ≡ its.range.start + its.range.len
      → IfSome holds (λ content. HasPostings 0 new.end new (postings_from (text_held content) (take (i + 1) files)))
  turn-memory holds told same old new has below gains end =
      with_it holds has (subst (λ (h : Option Content). IfSome h (λ content. (length (tokens_of (text_held content its)) ≡ its.range.len)
      × Gains its.range.start (tokens_of (text_held content its)) old new)) same gains)
    where
      with_it : (held : Option Content)
          → IfSome held (λ content. HasPostings 0 old.end old (postings_from (text_held content) (take i files)))
          → IfSome held (λ content. (length (tokens_of (text_held content its)) ≡ its.range.len)
          × Gains its.range.start (tokens_of (text_held content its)) old new)
          → IfSome held (λ content. HasPostings 0 new.end new (postings_from (text_held content) (take (i + 1) files)))
      with_it None h g = tt
      with_it (Some content) h g =
          let terms : List (List ℕ) = tokens_of (text_held content its) in
          let so_far : List Posting = postings_from (text_held content) (take i files) in
          let one_more : postings_from (text_held content) (take (i + 1) files) ≡ so_far ++ placed_from its.range.start terms =
          ap (postings_from (text_held content)) (take_more files i no_file within)
          ∙ flat_map-append (λ (file : FileRec). placed_from file.range.start (tokens_of (text_held content file))) (take i files) (its ∷ [])
          ∙ ap (λ (ps : List Posting). so_far ++ ps) (append-nil (placed_from its.range.start terms)) in
          let gained : HasPostings 0 (its.range.start + length terms) new (so_far ++ placed_from its.range.start terms) =
          postings_gained 0 old.end its.range.start terms old new so_far below g.1 h in
          let ends : its.range.start + length terms ≡ new.end = ap (λ (n : ℕ). its.range.start + n) g.0 ∙ sym end in
          subst (λ (ps : List Posting). HasPostings 0 new.end new ps) (sym one_more)
          (subst (λ (n : ℕ). HasPostings 0 n new (so_far ++ placed_from its.range.start terms)) ends gained)

  pub turn-cause : (holds told : Option Content) → told ≡ holds → (start before now : ℕ) (first next last : Option (List ReadRange))
      (trouble : Trouble) → AllByRecursion (IsThere holds) (take i files) → before ≡ start
      → next ≡ option_map (λ ranges. ranges ++ texts_whole (take i files)) first
      → IsCause (IsBrokenIn told its) before now next last trouble
      → IsCause (IsFirstOfBroken holds files) start now first last trouble
  turn-cause holds told same start before now first next last trouble whole calm reads cause =
      cause_after calm
      (cause_behind (texts_whole (take i files)) reads
      (subst (λ (h : Option Content). IsCause (IsBrokenIn h its) before now next last trouble) same cause))
      (λ blob broken. record {
        before = take i files;
        file = its;
        after = drop (i + 1) files;
        split = split_now;
        whole = whole;
        its = broken.0;
        some = broken.1;
        broken = broken.2;
      })

-- ---- all texts of a checkpoint

module _ (checkpoint : Checkpoint) (rules : IsCheckpoint checkpoint) (order : List FileRec)
    (by_address : IsByAddress checkpoint.files order) where
  pub order_follows : AreInOrder 0 (map (λ file. file.range) order)
  order_follows =
      files_in_order checkpoint.files order by_address.moved by_address.ascend
      (texts_filled checkpoint.next_address checkpoint.files rules.layout.texts) rules.layout.apart

  pub order_within : AllByRecursion (λ file. file.range.start + file.range.len ≤ checkpoint.next_address) order
  order_within =
      each-permuted (λ (file : FileRec). file.range.start + file.range.len ≤ checkpoint.next_address) checkpoint.files order by_address.moved
      (ends checkpoint.files rules.layout.texts)
    where
      ends : (files : List FileRec) → AllByRecursion (IsText checkpoint.next_address) files
          → AllByRecursion (λ file. file.range.start + file.range.len ≤ checkpoint.next_address) files
      ends [] all = tt
      ends (file ∷ files) all = (all.0.within, ends files all.1)

  pub order_reindexable : checkpoint.next_address < SPENT_AT → AllByRecursion IsReindexable order
  order_reindexable room =
      each-permuted IsReindexable checkpoint.files order by_address.moved (each checkpoint.files rules.layout.texts)
    where
      each : (files : List FileRec) → AllByRecursion (IsText checkpoint.next_address) files → AllByRecursion IsReindexable files
      each [] all = tt
      each (file ∷ files) all = (
        record {
          recorded = text_recorded checkpoint.next_address file all.0;
          some = all.0.some;
          within = omega (arith, all.0.within, room);
        },
        each files all.1,
      )

  one_of_files : (range : ReadRange) (some : List FileRec) → ((file : FileRec) → Has file some → Has file checkpoint.files)
      → IsTextOfOne some range → IsTextOfOne checkpoint.files range
  one_of_files range [] among is = absurd is
  one_of_files range (file ∷ some) among is =
      ⊎_elim
      (λ (here : IsOfText file.blob file.len range). found checkpoint.files (among file (inl refl)) here)
      (λ later. one_of_files range some (λ other has. among other (inr has)) later)
      is
    where
      found : (files : List FileRec) → Has file files → IsOfText file.blob file.len range → IsTextOfOne files range
      found [] has here = has
      found (first ∷ files) has here =
          ⊎_elim
          (λ (same : first ≡ file). inl (subst (λ (f : FileRec). IsOfText f.blob f.len range) (sym same) here))
          (λ later. inr (found files later here))
          has

  pub order_reads : (before after : Option (List ReadRange)) → ReadsOnly (IsTextOfOne order) before after
      → ReadsOnly (IsTextOfOne checkpoint.files) before after
  order_reads before after reads = (reads.0, each reads.0 reads.1, reads.2)
    where
      each : (read : List ReadRange) → AllByRecursion (IsTextOfOne order) read → AllByRecursion (IsTextOfOne checkpoint.files) read
      each [] all = tt
      each (range ∷ read) all = (
        one_of_files range order
            (λ file has. moved_has order checkpoint.files file (IsPermutation-sym checkpoint.files order by_address.moved) has) all.0,
        each read all.1,
      )

  pub order_cause : {holds : Option Content} {before now : ℕ} {ranges ranges_now : Option (List ReadRange)} {trouble : Trouble}
      → IsCause (IsFirstOfBroken holds order) before now ranges ranges_now trouble
      → IsCause (IsFirstBrokenText holds checkpoint.files) before now ranges ranges_now trouble
  order_cause cause = cause_after refl cause (λ blob first. record { order = order; by_address = by_address; first = first })

-- where nothing was read, only texts were
pub reads_none : (files : List FileRec) (before after : Option (List ReadRange)) → after ≡ before → ReadsOnly (IsTextOfOne files) before after
reads_none files before after same = ([], tt, same ∙ ranges-none before)
