-- The ranges that a walk over parts and texts reads.
use Rattle.std.proofs.Common.{◌≡◌, ℕ, ◌+◌, ◌<◌, ◌≤◌, Bool, true, false, List, [], ◌∷◌, ◌++◌, length, get_or, take, drop, filter}
use Rattle.std.proofs.Common.{append_assoc, inl, refl, ap, sym, ◌∙◌, subst, arith}
use Rattle.std.specs.Prelude.{Option, None, Some, IfNone, nat_le, nat_lt}
use Rattle.std.specs.List.{AllByRecursion}
use Rattle.std.proofs.lemmas.List.{append-nil, drop-drop, drop_all, drop_more, take-append-drop}
use Rattle.std.proofs.lemmas.List.Elements.{filter-append}
use Rattle.wu_base.specs.declared.addresses.PartRec.{PartRec}
use Rattle.wu_base.proofs.EachLemmas.{each-map}
use Rattle.wu_outside.specs.declared.ranges.ReadRange.{ReadRange}
use Rattle.wu_image.specs.declared.records.FileRec.{FileRec}
use Rattle.wu_check.specs.declared.walking.Verdict.{Verdict}
use Rattle.wu_check.specs.declared.walking.Verdict.TheVariants.{Sound, WrongPart, BrokenText}
use Rattle.wu_check.specs.Reads.{ReadsAll, ReadsAllOf, ReadsFront, ReadsFrontOf, TriesIndex, TriesOwn}
use Rattle.wu_check.specs.Reads.{index_ranges, part_ranges, texts_ranges}
use Rattle.wu_check.specs.Walking.{UnlessText, leftmost_of, verdict_without}
use Rattle.wu_check.proofs.ReadRanges.{all_joined, all_none, front_joined, front_more}
use Rattle.wu_check.proofs.Walks.{no_part}

-- ---- the files that are a part's

filter_all : {X : Type 0} (p : X → Bool) (xs : List X) → AllByRecursion (λ x. p x ≡ true) xs → filter p xs ≡ xs
filter_all p [] all = refl
filter_all p (x ∷ xs) all = rw (all.0, filter_all p xs all.1) refl

filter_none : {X : Type 0} (p : X → Bool) (xs : List X) → AllByRecursion (λ x. p x ≡ false) xs → filter p xs ≡ []
filter_none p [] all = refl
filter_none p (x ∷ xs) all = rw all.0 (filter_none p xs all.1)

module _ (high n : ℕ) (files : List FileRec) (started : AllByRecursion (λ file. file.range.start ≤ high) (take n files))
    (later : AllByRecursion (λ file. high < file.range.start) (drop n files)) where
  pub own_files : filter (λ file. nat_le file.range.start high) files ≡ take n files
  own_files =
      ap (filter (λ (file : FileRec). nat_le file.range.start high)) (sym (take-append-drop n files))
      ∙ filter-append (λ (file : FileRec). nat_le file.range.start high) (take n files) (drop n files)
      ∙ ap (λ (l : List FileRec). l ++ filter (λ (file : FileRec). nat_le file.range.start high) (drop n files))
      (filter_all (λ (file : FileRec). nat_le file.range.start high) (take n files)
      (each-map (λ (file : FileRec). file.range.start ≤ high) (λ (file : FileRec). nat_le file.range.start high ≡ true) (take n files)
      (λ file s. grind (arith, s)) started))
      ∙ ap (λ (l : List FileRec). take n files ++ l)
      (filter_none (λ (file : FileRec). nat_le file.range.start high) (drop n files)
      (each-map (λ (file : FileRec). high < file.range.start) (λ (file : FileRec). nat_le file.range.start high ≡ false) (drop n files)
      (λ file s. grind (arith, s)) later))
      ∙ append-nil (take n files)

  pub other_files : filter (λ file. nat_lt high file.range.start) files ≡ drop n files
  other_files =
      ap (filter (λ (file : FileRec). nat_lt high file.range.start)) (sym (take-append-drop n files))
      ∙ filter-append (λ (file : FileRec). nat_lt high file.range.start) (take n files) (drop n files)
      ∙ ap (λ (l : List FileRec). l ++ filter (λ (file : FileRec). nat_lt high file.range.start) (drop n files))
      (filter_none (λ (file : FileRec). nat_lt high file.range.start) (take n files)
      (each-map (λ (file : FileRec). file.range.start ≤ high) (λ (file : FileRec). nat_lt high file.range.start ≡ false) (take n files)
      (λ file s. grind (arith, s)) started))
      ∙ filter_all (λ (file : FileRec). nat_lt high file.range.start) (drop n files)
      (each-map (λ (file : FileRec). high < file.range.start) (λ (file : FileRec). nat_lt high file.range.start ≡ true) (drop n files)
      (λ file s. grind (arith, s)) later)

-- ---- the walk

-- So many parts and files are behind the walk. What is read of them was read, and where no part was found wrong that is all of it.
pub record IsReadTo (files : List FileRec) (parts : List PartRec) (index done : ℕ) (wrong : Option ℕ)
    (before after : Option (List ReadRange)) : Type 0 where
  pub read : List ReadRange
  pub reads : ReadsAll read before after
  pub tried : (later : List ReadRange) → TriesIndex (drop done files) (drop index parts) later → TriesIndex files parts (read ++ later)
  pub front : List ReadRange
  pub split : index_ranges files parts ≡ front ++ index_ranges (drop done files) (drop index parts)
  pub all : IfNone wrong (ReadsAll front before after)

pub read_none : (files : List FileRec) (parts : List PartRec) (reads : Option (List ReadRange))
    → IsReadTo files parts 0 0 None reads reads
read_none files parts reads = record {
  read = [];
  reads = all_none reads reads refl;
  tried = λ later tries. tries;
  front = [];
  split = refl;
  all = all_none reads reads refl;
}

-- all of it is one of the ways to read it
tried_all : (files : List FileRec) (parts : List PartRec) → TriesIndex files parts (index_ranges files parts)
tried_all files [] = refl
tried_all files (part ∷ parts) = (
  part_ranges part,
  index_ranges (filter (λ file. nat_lt part.high file.range.start) files) parts,
  inl refl,
  tried_all (filter (λ file. nat_lt part.high file.range.start) files) parts,
  refl,
)

pub if_none : {P : Type 0} (o : Option ℕ) → (o ≡ None → P) → IfNone o P
if_none None so = so refl
if_none (Some n) so = tt

pub if_none_more : {P Q : Type 0} (o : Option ℕ) → (P → Q) → IfNone o P → IfNone o Q
if_none_more None f p = f p
if_none_more (Some n) f p = tt

pub unless_given : {P : Type 0} (verdict : Verdict) → P → UnlessText verdict P
unless_given Sound p = p
unless_given WrongPart p = p
unless_given (BrokenText text) p = tt

pub unless_more : {P Q : Type 0} (verdict : Verdict) → (P → Q) → UnlessText verdict P → UnlessText verdict Q
unless_more Sound f p = f p
unless_more WrongPart f p = f p
unless_more (BrokenText text) f p = tt

-- beside a broken part
pub unless_without : (P : Type 0) (broken : Option ℕ) (verdict : Verdict) → verdict ≡ verdict_without broken → IfNone broken P
    → UnlessText verdict P
unless_without P None verdict is p = subst (λ (v : Verdict). UnlessText v P) (sym is) p
unless_without P (Some blob) verdict is p = subst (λ (v : Verdict). UnlessText v P) (sym is) tt

unless_tells : {P : Type 0} (verdict : Verdict) → ((text : ℕ) → verdict ≡ BrokenText text → ⊥) → UnlessText verdict P → P
unless_tells Sound whole p = p
unless_tells WrongPart whole p = p
unless_tells (BrokenText text) whole p = absurd (whole text refl)

-- where no part is wrong after one more, none was before, and that one isn't
sound_so_far : (wrong : Option ℕ) (verdict : Verdict) (blob : ℕ) (P : Type 0) → ((text : ℕ) → verdict ≡ BrokenText text → ⊥)
    → (wrong ≡ None → verdict ≡ Sound → P) → IfNone (leftmost_of wrong verdict blob) P
sound_so_far (Some other) verdict blob P whole so = tt
sound_so_far None Sound blob P whole so = so refl refl
sound_so_far None WrongPart blob P whole so = tt
sound_so_far None (BrokenText text) blob P whole so = absurd (whole text refl)

module _ (files : List FileRec) (parts : List PartRec) (i done n : ℕ) (within : i < length parts) (wrong : Option ℕ)
    (first next last : Option (List ReadRange)) (so_far : IsReadTo files parts i done wrong first next)
    (started : AllByRecursion (λ file. file.range.start ≤ (get_or parts i no_part).high) (take n (drop done files)))
    (later_files : AllByRecursion (λ file. (get_or parts i no_part).high < file.range.start) (drop n (drop done files)))
    (m : ℕ) (count : n ≡ m) where
  abbrev its_part : PartRec
  its_part = get_or parts i no_part

  abbrev here : List ReadRange
  here = part_ranges its_part ++ texts_ranges (take m (drop done files))

  abbrev left : List ReadRange
  left = index_ranges (drop (done + n) files) (drop (i + 1) parts)

  its_ranges : index_ranges (drop done files) (drop i parts) ≡ here ++ left
  its_ranges =
      ap (index_ranges (drop done files)) (drop_more parts i no_part within)
      ∙ ap (λ (l : List FileRec). part_ranges its_part ++ (texts_ranges l
      ++ index_ranges (filter (λ file. nat_lt its_part.high file.range.start) (drop done files)) (drop (i + 1) parts)))
      (own_files its_part.high n (drop done files) started later_files)
      ∙ ap (λ (l : List FileRec). part_ranges its_part ++ (texts_ranges (take n (drop done files)) ++ index_ranges l (drop (i + 1) parts)))
      (other_files its_part.high n (drop done files) started later_files ∙ drop-drop n done files)
      ∙ ap (λ (k : ℕ). part_ranges its_part ++ (texts_ranges (take k (drop done files)) ++ left)) count
      ∙ sym (append_assoc (part_ranges its_part) (texts_ranges (take m (drop done files))) left)

  all_ranges : index_ranges files parts ≡ (so_far.front ++ here) ++ left
  all_ranges =
      so_far.split ∙ ap (λ (rs : List ReadRange). so_far.front ++ rs) its_ranges ∙ sym (append_assoc so_far.front here left)

  its_tries : (ranges later : List ReadRange) → TriesOwn its_part (take m (drop done files)) ranges
      → TriesIndex (drop (done + n) files) (drop (i + 1) parts) later
      → TriesIndex (drop done files) (drop i parts) (ranges ++ later)
  its_tries ranges later tries others =
      subst (λ (l : List PartRec). TriesIndex (drop done files) l (ranges ++ later)) (sym (drop_more parts i no_part within)) (
        tries.0,
        later,
        tries.1,
        subst (λ (l : List FileRec). TriesIndex l (drop (i + 1) parts) later)
            (sym (other_files its_part.high n (drop done files) started later_files ∙ drop-drop n done files)) others,
        ap (λ (rs : List ReadRange). rs ++ later) tries.2
            ∙ append_assoc tries.0 (texts_ranges (take m (drop done files))) later
            ∙ ap (λ (k : ℕ). tries.0 ++ (texts_ranges (take k (drop done files)) ++ later)) (sym count)
            ∙ ap (λ (l : List FileRec). tries.0 ++ (texts_ranges l ++ later))
            (sym (own_files its_part.high n (drop done files) started later_files)),
      )

  pub walk_stopped : ReadsFrontOf (TriesOwn its_part (take m (drop done files))) next last
      → ReadsFrontOf (TriesIndex files parts) first last
  walk_stopped some = (
    so_far.read ++ (some.0 ++ left),
    so_far.tried (some.0 ++ left)
        (its_tries some.0 left some.1 (tried_all (drop (done + n) files) (drop (i + 1) parts))),
    front_joined so_far.read (some.0 ++ left) first next last so_far.reads (front_more some.0 left next last some.2),
  )

  pub walk_more : (verdict : Verdict) (blob : ℕ) → ((text : ℕ) → verdict ≡ BrokenText text → ⊥)
      → UnlessText verdict (ReadsAllOf (TriesOwn its_part (take m (drop done files))) next last)
      → (verdict ≡ Sound → ReadsAll here next last)
      → IsReadTo files parts (i + 1) (done + n) (leftmost_of wrong verdict blob) first last
  walk_more verdict blob whole unless all =
      let tries : ReadsAllOf (TriesOwn its_part (take m (drop done files))) next last = unless_tells verdict whole unless in
      record {
        read = so_far.read ++ tries.0;
        reads = all_joined so_far.read tries.0 first next last so_far.reads tries.2;
        tried = λ later others.
            subst (TriesIndex files parts) (sym (append_assoc so_far.read tries.0 later))
            (so_far.tried (tries.0 ++ later) (its_tries tries.0 later tries.1 others));
        front = so_far.front ++ here;
        split = all_ranges;
        all = sound_so_far wrong verdict blob (ReadsAll (so_far.front ++ here) first last) whole
            (λ none sound. all_joined so_far.front here first next last
            (subst (λ (o : Option ℕ). IfNone o (ReadsAll so_far.front first next)) none so_far.all) (all sound));
      }

-- the texts behind the last part
module _ (files : List FileRec) (parts : List PartRec) (i done : ℕ) (end : length parts ≤ i) (wrong : Option ℕ)
    (first next last : Option (List ReadRange)) (so_far : IsReadTo files parts i done wrong first next) where
  none_left : (ps : List PartRec) (k : ℕ) → length ps ≤ k → drop k ps ≡ []
  none_left ps k few = drop_all k ps few

  texts_last : index_ranges files parts ≡ so_far.front ++ texts_ranges (drop done files)
  texts_last =
      so_far.split
      ∙ ap (λ (ps : List PartRec). so_far.front ++ index_ranges (drop done files) ps) (none_left parts i end)

  pub walk_some : ReadsFront (texts_ranges (drop done files)) next last → ReadsFrontOf (TriesIndex files parts) first last
  walk_some some = (
    so_far.read ++ texts_ranges (drop done files),
    so_far.tried (texts_ranges (drop done files))
        (subst (λ (ps : List PartRec). TriesIndex (drop done files) ps (texts_ranges (drop done files)))
        (sym (none_left parts i end)) refl),
    front_joined so_far.read (texts_ranges (drop done files)) first next last so_far.reads some,
  )

  pub walk_all : wrong ≡ None → ReadsAll (texts_ranges (drop done files)) next last → ReadsAll (index_ranges files parts) first last
  walk_all none all =
      subst (λ (rs : List ReadRange). ReadsAll rs first last) (sym texts_last)
      (all_joined so_far.front (texts_ranges (drop done files)) first next last
      (subst (λ (o : Option ℕ). IfNone o (ReadsAll so_far.front first next)) none so_far.all) all)
