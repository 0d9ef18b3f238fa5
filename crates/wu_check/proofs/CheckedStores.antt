-- What is found of a whole store, put together.
use Rattle.std.proofs.Common.{◌≡◌, ℕ, ◌+◌, ◌<◌, ◌≤◌, ◌==◌, true, false, Bool, cond, List, [], ◌∷◌, length, ap, sym, ◌∙◌, subst, inl, inr}
use Rattle.std.proofs.Common.{arith, ⊎_elim}
use Rattle.std.specs.Prelude.{Option, Some, None, IfSome, IsPermutation, sum_by}
use Rattle.std.specs.List.{AllByRecursion, list_any}
use Rattle.std.proofs.lemmas.List.Sums.{sum_by-cons}
use Rattle.std.proofs.lemmas.List.Sorted.{IsPermutation-sym, length_permutation, sum_by-IsPermutation}
use Rattle.wu_base.specs.declared.addresses.PartRec.{PartRec}
use Rattle.wu_base.specs.declared.addresses.Range.{Range}
use Rattle.wu_base.specs.Ranges.{AreApart as LieApart}
use Rattle.wu_base.proofs.EachLemmas.{each-map, each-permuted}
use Rattle.wu_outside.specs.Content.{Content}
use Rattle.wu_image.specs.declared.checkpoints.Checkpoint.{Checkpoint}
use Rattle.wu_image.specs.declared.records.FileRec.{FileRec}
use Rattle.wu_image.specs.Checkpoints.{IsCheckpoint}
use Rattle.wu_image.specs.Checks.{AreInOrder}
use Rattle.wu_image.specs.Images.{IsByAddress}
use Rattle.wu_image.specs.LayoutRules.{IsPart, IsText, SpansAscend, lies_in}
use Rattle.wu_image.proofs.RangesInOrder.{files_in_order}
use Rattle.wu_image.proofs.RuleLemmas.{sum_of_map, texts_filled}
use Rattle.wu_check.specs.declared.checking.Checked.{Checked}
use Rattle.wu_check.specs.declared.checking.Checked.TheVariants.{Sound, Broken}
use Rattle.wu_check.specs.Checking.{IsIndexChecked}
use Rattle.wu_check.proofs.ToldContents.{told_more}
use Rattle.wu_check.specs.Walking.{FindsWrong, IsReadable, ranges_of}
use Rattle.wu_check.specs.Wrong.{AreSoundTexts, HasTokens, IsFirstPart, IsSoundPart, IsWrongPart}
use Rattle.wu_check.specs.Wrong.{IsWrongText, counts_of, live_of, parts_of, stored_of}

-- ---- the files of a checkpoint, in the order of their addresses

readable_text : (next : ℕ) (file : FileRec) → IsText next file → IsReadable file
readable_text next file is = record { short = is.short; empty = λ none. is.kept.0 none; some = is.some }

module _ (version : ℕ) (checkpoint : Checkpoint) (rules : IsCheckpoint checkpoint) (order : List FileRec)
    (by_address : IsByAddress checkpoint.files order) where
  in_order : AreInOrder 0 (ranges_of order)
  in_order =
      files_in_order checkpoint.files order by_address.moved by_address.ascend
      (texts_filled checkpoint.next_address checkpoint.files rules.layout.texts) rules.layout.apart

  pub order_readable : AllByRecursion IsReadable order
  order_readable =
      each-permuted IsReadable checkpoint.files order by_address.moved
      (each-map (IsText checkpoint.next_address) IsReadable checkpoint.files (readable_text checkpoint.next_address) rules.layout.texts)

  pub order_apart : LieApart (ranges_of order)
  order_apart = apart_of 0 (ranges_of order) in_order
    where
      all_from : (from : ℕ) (ranges : List Range) → AreInOrder from ranges → AllByRecursion (λ range. from ≤ range.start) ranges
      all_from from [] o = tt
      all_from from (range ∷ ranges) o = (
        o.0,
        each-map (λ r. range.start + range.len ≤ r.start) (λ r. from ≤ r.start) ranges (λ r l. omega (arith, l, o.0))
            (all_from (range.start + range.len) ranges o.1),
      )

      apart_of : (from : ℕ) (ranges : List Range) → AreInOrder from ranges → LieApart ranges
      apart_of from [] o = tt
      apart_of from (range ∷ ranges) o =
          (all_from (range.start + range.len) ranges o.1, apart_of (range.start + range.len) ranges o.1)

  pub order_homes : 0 < length (parts_of version checkpoint)
      → AllByRecursion (λ file. list_any (λ part. lies_in file.range part) (parts_of version checkpoint) ≡ true) order
  order_homes some =
      each-permuted (λ file. list_any (λ part. lies_in file.range part) (parts_of version checkpoint) ≡ true) checkpoint.files order
      by_address.moved (homes (version == 2) some)
    where
      homes : (b : Bool) → 0 < length (cond {A = List PartRec} b checkpoint.parts [])
          → AllByRecursion (λ file. list_any (λ part. lies_in file.range part) (cond {A = List PartRec} b checkpoint.parts []) ≡ true)
          checkpoint.files
      homes true h = rules.layout.homes
      homes false h = absurd (omega arith)

  -- ---- counts

  same_live : live_of order ≡ live_of checkpoint.files
  same_live = sum_by-IsPermutation (λ (file : FileRec). file.range.len) checkpoint.files order by_address.moved

  pub same_counts : counts_of version order (parts_of version checkpoint) ≡ counts_of version checkpoint.files (parts_of version checkpoint)
  same_counts =
      rw same_live
      (ap (λ (n : ℕ). Sound n (live_of checkpoint.files) (stored_of version checkpoint.files (parts_of version checkpoint))
      (length (parts_of version checkpoint))) (length_permutation checkpoint.files order by_address.moved))

  pub live_fits : live_of order ≤ checkpoint.next_address
  live_fits =
      omega (
        arith,
        sum_in_order 0 checkpoint.next_address (ranges_of order) (omega arith) in_order ends,
        sum_of_map (λ (range : Range). range.len) (λ (file : FileRec). file.range) order,
      )
    where
      ends_of : (files : List FileRec) → AllByRecursion (λ file. file.range.start + file.range.len ≤ checkpoint.next_address) files
          → AllByRecursion (λ range. range.start + range.len ≤ checkpoint.next_address) (ranges_of files)
      ends_of [] all = tt
      ends_of (file ∷ files) all = (all.0, ends_of files all.1)

      ends : AllByRecursion (λ range. range.start + range.len ≤ checkpoint.next_address) (ranges_of order)
      ends =
          ends_of order
          (each-permuted (λ file. file.range.start + file.range.len ≤ checkpoint.next_address) checkpoint.files order by_address.moved
          (each-map (IsText checkpoint.next_address) (λ file. file.range.start + file.range.len ≤ checkpoint.next_address) checkpoint.files
          (λ file is. is.within) rules.layout.texts))

      sum_in_order : (from next : ℕ) (ranges : List Range) → from ≤ next → AreInOrder from ranges
          → AllByRecursion (λ range. range.start + range.len ≤ next) ranges → from + sum_by (λ range. range.len) ranges ≤ next
      sum_in_order from next [] few o e = omega (arith, few)
      sum_in_order from next (range ∷ ranges) few o e =
          omega (
            arith,
            o.0,
            sum_by-cons (λ (r : Range). r.len) range ranges,
            sum_in_order (range.start + range.len) next ranges e.0 o.1 e.1,
          )

  pub stored_fits : sum_by (λ part. part.stored) (parts_of version checkpoint) ≤ checkpoint.next_address
  stored_fits = fits (version == 2)
    where
      sum_ascending : (from next : ℕ) (parts : List PartRec) → SpansAscend from parts next → AllByRecursion IsPart parts
          → from + sum_by (λ part. part.stored) parts ≤ next
      sum_ascending from next [] spans all = omega (arith, spans)
      sum_ascending from next (part ∷ parts) spans all =
          omega (
            arith,
            spans.0,
            spans.1,
            all.0.room,
            sum_by-cons (λ (p : PartRec). p.stored) part parts,
            sum_ascending (part.high + 1) next parts spans.2 all.1,
          )

      fits : (b : Bool) → sum_by (λ part. part.stored) (cond {A = List PartRec} b checkpoint.parts []) ≤ checkpoint.next_address
      fits true =
          omega (arith, sum_ascending 0 checkpoint.next_address checkpoint.parts rules.layout.spans rules.layout.parts_hold)
      fits false = omega arith

  -- ---- what was found

  module _ (content : Content) where
    parts_alike : (files others : List FileRec) → IsPermutation files others → (part : PartRec) → IsSoundPart content files part
        → IsSoundPart content others part
    parts_alike files others moved part sound = record {
      bytes = sound.bytes;
      held = sound.held;
      directory = sound.directory;
      lists = sound.lists;
      spelled = sound.spelled;
      told = sound.told;
      tokens = each-permuted (λ file. lies_in file.range part ≡ true → HasTokens content sound.lists file) files others moved sound.tokens;
    }

    back : IsPermutation order checkpoint.files
    back = IsPermutation-sym checkpoint.files order by_address.moved

    texts_back : AreSoundTexts content order → AreSoundTexts content checkpoint.files
    texts_back = each-permuted (λ file. IsWrongText content file → ⊥) order checkpoint.files back

    first_back : (parts : List PartRec) (blob : ℕ) → IsFirstPart content order parts blob → IsFirstPart content checkpoint.files parts blob
    first_back [] blob first = first
    first_back (part ∷ parts) blob first =
        ⊎_elim
        (λ (h : IsWrongPart content order part × (part.blob ≡ blob)).
        inl ((λ sound. h.0 (parts_alike checkpoint.files order by_address.moved part sound)), h.1))
        (λ (h : (IsWrongPart content order part → ⊥) × IsFirstPart content order parts blob).
        inr ((λ wrong. h.0 (λ sound. wrong (parts_alike order checkpoint.files back part sound))), first_back parts blob h.1))
        first

    pub index_broken : (blob : ℕ) → FindsWrong content order (parts_of version checkpoint) (Some blob)
        → IsIndexChecked content version checkpoint (Broken blob)
    index_broken blob found =
        ⊎_elim
        (λ first. inl (order, by_address, first))
        (λ (h : AreSoundTexts content order × IsFirstPart content order (parts_of version checkpoint) blob).
        inr (texts_back h.0, first_back (parts_of version checkpoint) blob h.1))
        found

    pub index_sound : (counts : Checked) → FindsWrong content order (parts_of version checkpoint) None
        → counts ≡ counts_of version order (parts_of version checkpoint) → IsIndexChecked content version checkpoint counts
    index_sound counts found is =
        rw is (record {
          texts = texts_back found.0;
          parts = each-map (IsSoundPart content order) (IsSoundPart content checkpoint.files) (parts_of version checkpoint)
              (λ part sound. parts_alike order checkpoint.files back part sound) found.1;
          counted = same_counts;
        })

  -- by a store that tells its content
  module _ (holds : Option Content) (parts : List PartRec) (counted : parts ≡ parts_of version checkpoint) (found : Option ℕ)
      (walked : IfSome holds (λ content. FindsWrong content order parts found)) where
    its_parts : IfSome holds (λ content. FindsWrong content order (parts_of version checkpoint) found)
    its_parts = subst (λ (l : List PartRec). IfSome holds (λ content. FindsWrong content order l found)) counted walked

    pub broken_told : (blob : ℕ) → found ≡ Some blob → IfSome holds (λ content. IsIndexChecked content version checkpoint (Broken blob))
    broken_told blob is =
        told_more holds
        (λ content here. index_broken content blob (subst (FindsWrong content order (parts_of version checkpoint)) is here)) its_parts

    pub sound_told : (counts : Checked) → found ≡ None → counts ≡ counts_of version order parts
        → IfSome holds (λ content. IsIndexChecked content version checkpoint counts)
    sound_told counts is same =
        told_more holds
        (λ content here. index_sound content counts (subst (FindsWrong content order (parts_of version checkpoint)) is here)
        (same ∙ ap (counts_of version order) counted)) its_parts

pub order_given : (given files items order : List FileRec) → given ≡ files → order ≡ items → IsByAddress given items
    → IsByAddress files order
order_given given files items order same is by_address =
    subst (λ (l : List FileRec). IsByAddress l order) same (subst (IsByAddress given) (sym is) by_address)
