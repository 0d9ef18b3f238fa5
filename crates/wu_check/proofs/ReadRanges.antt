-- Ranges that were read, one list of them after another.
use Rattle.std.proofs.Common.{◌≡◌, ℕ, ◌+◌, ◌<◌, ◌≤◌, List, [], ◌∷◌, ◌++◌, length, get_or, take, drop, refl, ap, sym, ◌∙◌, subst}
use Rattle.std.proofs.Common.{append_assoc, take_all}
use Rattle.std.specs.Prelude.{Option, None, Some, option_map}
use Rattle.std.proofs.lemmas.Grind.{flat_map-append}
use Rattle.std.proofs.lemmas.List.{append-nil, take-append-drop, take_more}
use Rattle.wu_outside.specs.Ranges.{asked_size}
use Rattle.wu_outside.specs.declared.ranges.ReadRange.{ReadRange}
use Rattle.wu_image.specs.declared.records.FileRec.{FileRec}
use Rattle.wu_check.specs.Reads.{ReadsAll, ReadsFront, text_ranges, texts_ranges, whole_blob}
use Rattle.wu_check.proofs.ComparedFiles.{no_file}

-- ---- one after the other

pub all_none : (before after : Option (List ReadRange)) → after ≡ before → ReadsAll [] before after
all_none None after same = same
all_none (Some earlier) after same = same ∙ ap (λ (rs : List ReadRange). Some rs) (sym (append-nil earlier))

pub all_joined : (xs ys : List ReadRange) (first next last : Option (List ReadRange)) → ReadsAll xs first next → ReadsAll ys next last
    → ReadsAll (xs ++ ys) first last
all_joined xs ys None next last a b = b ∙ ap (option_map (λ (rs : List ReadRange). rs ++ ys)) a
all_joined xs ys (Some earlier) next last a b =
    b ∙ ap (option_map (λ (rs : List ReadRange). rs ++ ys)) a ∙ ap (λ (rs : List ReadRange). Some rs) (append_assoc earlier xs ys)

pub front_all : (xs : List ReadRange) (before after : Option (List ReadRange)) → ReadsAll xs before after → ReadsFront xs before after
front_all xs before after all = (xs, [], append-nil xs, all)

pub front_none : (xs : List ReadRange) (before after : Option (List ReadRange)) → after ≡ before → ReadsFront xs before after
front_none xs before after same = ([], xs, refl, all_none before after same)

-- all of the first list, and then some of the second
pub front_joined : (xs ys : List ReadRange) (first next last : Option (List ReadRange)) → ReadsAll xs first next → ReadsFront ys next last
    → ReadsFront (xs ++ ys) first last
front_joined xs ys first next last all some = (
  xs ++ some.0,
  some.1,
  append_assoc xs some.0 some.1 ∙ ap (λ (rs : List ReadRange). xs ++ rs) some.2,
  all_joined xs some.0 first next last all some.3,
)

pub front_more : (xs ys : List ReadRange) (before after : Option (List ReadRange)) → ReadsFront xs before after
    → ReadsFront (xs ++ ys) before after
front_more xs ys before after some = (
  some.0,
  some.1 ++ ys,
  sym (append_assoc some.0 some.1 ys) ∙ ap (λ (rs : List ReadRange). rs ++ ys) some.2,
  some.3,
)

-- ---- a blob

-- its size alone was asked
pub size_asked : (blob size : ℕ) (first next last : Option (List ReadRange)) → ReadsAll (asked_size blob ∷ []) first next → last ≡ next
    → ReadsFront (whole_blob blob size) first last
size_asked blob size first next last asked same =
    front_more (asked_size blob ∷ []) (record { blob = blob; at = 0; len = size } ∷ []) first last
    (subst (λ (o : Option (List ReadRange)). ReadsFront (asked_size blob ∷ []) first o) (sym same)
    (front_all (asked_size blob ∷ []) first next asked))

-- and then it was read
pub blob_read : (blob size len : ℕ) (first next last : Option (List ReadRange)) → ReadsAll (asked_size blob ∷ []) first next
    → ReadsAll (record { blob = blob; at = 0; len = len } ∷ []) next last → len ≡ size → ReadsAll (whole_blob blob size) first last
blob_read blob size len first next last asked read long =
    subst (λ (n : ℕ). ReadsAll (whole_blob blob n) first last) long
    (all_joined (asked_size blob ∷ []) (record { blob = blob; at = 0; len = len } ∷ []) first next last asked read)

-- ---- a turn of a loop over files

module _ (files : List FileRec) (i : ℕ) (within : i < length files) where
  abbrev its : FileRec
  its = get_or files i no_file

  one_more : texts_ranges (take (i + 1) files) ≡ texts_ranges (take i files) ++ text_ranges its
  one_more =
      ap texts_ranges (take_more files i no_file within)
      ∙ flat_map-append text_ranges (take i files) (its ∷ [])
      ∙ ap (λ (rs : List ReadRange). texts_ranges (take i files) ++ rs) (append-nil (text_ranges its))

  all_of_them : texts_ranges files ≡ texts_ranges (take (i + 1) files) ++ texts_ranges (drop (i + 1) files)
  all_of_them =
      ap texts_ranges (sym (take-append-drop (i + 1) files))
      ∙ flat_map-append text_ranges (take (i + 1) files) (drop (i + 1) files)

  pub turn_all : (first next last : Option (List ReadRange)) → ReadsAll (texts_ranges (take i files)) first next
      → ReadsAll (text_ranges its) next last → ReadsAll (texts_ranges (take (i + 1) files)) first last
  turn_all first next last before here =
      subst (λ (rs : List ReadRange). ReadsAll rs first last) (sym one_more)
      (all_joined (texts_ranges (take i files)) (text_ranges its) first next last before here)

  pub turn_front : (first next last : Option (List ReadRange)) → ReadsAll (texts_ranges (take i files)) first next
      → ReadsFront (text_ranges its) next last → ReadsFront (texts_ranges files) first last
  turn_front first next last before here =
      subst (λ (rs : List ReadRange). ReadsFront rs first last) (sym all_of_them)
      (front_more (texts_ranges (take (i + 1) files)) (texts_ranges (drop (i + 1) files)) first last
      (subst (λ (rs : List ReadRange). ReadsFront rs first last) (sym one_more)
      (front_joined (texts_ranges (take i files)) (text_ranges its) first next last before here)))

pub ended_all : (files : List FileRec) (i : ℕ) (before after : Option (List ReadRange)) → length files ≤ i
    → ReadsAll (texts_ranges (take i files)) before after → ReadsAll (texts_ranges files) before after
ended_all files i before after end all =
    subst (λ (l : List FileRec). ReadsAll (texts_ranges l) before after) (take_all i files end) all
