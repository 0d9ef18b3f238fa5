-- The ranges that a check reads, put together.
use Rattle.std.proofs.Common.{◌≡◌, ℕ, List, [], ◌∷◌, ◌++◌, length, refl, ap, sym, ◌∙◌, subst, inl, inr, take_all, arith}
use Rattle.std.specs.Prelude.{Option, None, Some, IfSome}
use Rattle.wu_base.specs.declared.addresses.PartRec.{PartRec}
use Rattle.wu_layout.proofs.EntryLemmas.{IfSome-all}
use Rattle.wu_outside.specs.Content.{Content, GivesRoot}
use Rattle.wu_outside.specs.Ranges.{root_range}
use Rattle.wu_outside.specs.declared.ranges.ReadRange.{ReadRange}
use Rattle.wu_image.specs.declared.checkpoints.Checkpoint.{Checkpoint}
use Rattle.wu_image.specs.declared.records.FileRec.{FileRec}
use Rattle.wu_image.specs.declared.roots.Root.{Root}
use Rattle.wu_image.specs.declared.roots.TheConstants.{ROOT_LEN}
use Rattle.wu_image.specs.Images.{IsByAddress}
use Rattle.wu_image.specs.Roots.{SpellsRoot}
use Rattle.wu_check.specs.declared.checking.Checked.{Checked}
use Rattle.wu_check.specs.declared.checking.Checked.TheVariants.{Sound, Broken}
use Rattle.wu_check.specs.Reads.{AreOfIndex, AreRead, AreUnderRoot, IfSound, MayBeOfIndex, MayBeRead, MayBeUnderRoot, ReadsAll, ReadsAllOf}
use Rattle.wu_check.specs.Reads.{ReadsFront, ReadsFrontOf, TriesIndex, index_ranges, whole_blob}
use Rattle.wu_check.specs.Wrong.{HasCheckpoint, IsRootOf, parts_of}
use Rattle.wu_check.proofs.ReadRanges.{all_joined, front_all, front_joined, front_none}
use Rattle.wu_check.proofs.ToldContents.{told_both, told_more}

pub if_sound : {P : Type 0} (checked : Checked) → P → IfSound checked P
if_sound (Sound files live stored parts) p = p
if_sound (Broken blob) p = tt

-- ---- what a checkpoint records

pub index_none : (version : ℕ) (checkpoint : Checkpoint) (before after : Option (List ReadRange)) → after ≡ before
    → ReadsFrontOf (MayBeOfIndex version checkpoint) before after
index_none version checkpoint before after same = ([], inl refl, front_none [] before after same)

module _ (version : ℕ) (checkpoint : Checkpoint) (order : List FileRec) (by_address : IsByAddress checkpoint.files order)
    (parts : List PartRec) (counted : parts ≡ parts_of version checkpoint) (before after : Option (List ReadRange)) where
  pub index_some : ReadsFrontOf (TriesIndex order parts) before after → ReadsFrontOf (MayBeOfIndex version checkpoint) before after
  index_some some = (
    some.0,
    inr (record {
      order = order;
      by_address = by_address;
      are = subst (λ (l : List PartRec). TriesIndex order l some.0) counted some.1;
    }),
    some.2,
  )

  pub index_all : ReadsAll (index_ranges order parts) before after → ReadsAllOf (AreOfIndex version checkpoint) before after
  index_all all = (
    index_ranges order parts,
    record { order = order; by_address = by_address; are = ap (index_ranges order) counted },
    all,
  )

-- ---- what is under a root

-- of the checkpoint alone
pub blob_alone : (root : Root) (holds : Option Content) (before after : Option (List ReadRange))
    → ReadsFront (whole_blob root.checkpoint root.size) before after
    → IfSome holds (λ content. ReadsFrontOf (MayBeUnderRoot content root) before after)
blob_alone root holds before after some =
    IfSome-all (λ content. ReadsFrontOf (MayBeUnderRoot content root) before after) holds
    (λ content. (whole_blob root.checkpoint root.size, inl refl, some))

module _ (root : Root) (checkpoint : Checkpoint) (first next last : Option (List ReadRange))
    (read : ReadsAll (whole_blob root.checkpoint root.size) first next) where
  abbrev its_blob : List ReadRange
  its_blob = whole_blob root.checkpoint root.size

  pub saved_some : (holds : Option Content) → IfSome holds (λ content. HasCheckpoint content root checkpoint)
      → ReadsFrontOf (MayBeOfIndex root.version checkpoint) next last
      → IfSome holds (λ content. ReadsFrontOf (MayBeUnderRoot content root) first last)
  saved_some holds saved index =
      told_more holds
      (λ content has. (
        its_blob ++ index.0,
        inr (record { checkpoint = checkpoint; saved = has; later = index.0; index = index.1; are = refl }),
        front_joined its_blob index.0 first next last read index.2,
      ))
      saved

  pub saved_all : (holds : Option Content) → IfSome holds (λ content. HasCheckpoint content root checkpoint) → (checked : Checked)
      → IfSound checked (ReadsAllOf (AreOfIndex root.version checkpoint) next last)
      → IfSound checked (IfSome holds (λ content. ReadsAllOf (AreUnderRoot content AreOfIndex root) first last))
  saved_all holds saved (Sound files live stored parts) index =
      told_more holds
      (λ content has. (
        its_blob ++ index.0,
        record { checkpoint = checkpoint; saved = has; later = index.0; index = index.1; are = refl },
        all_joined its_blob index.0 first next last read index.2,
      ))
      saved
  saved_all holds saved (Broken blob) index = tt

-- ---- the root

-- the buffer has the root's length
pub root_read : (len : ℕ) (before after : Option (List ReadRange)) → len ≡ ROOT_LEN → ReadsAll (root_range len ∷ []) before after
    → ReadsAll (root_range ROOT_LEN ∷ []) before after
root_read len before after same = subst (λ (n : ℕ). ReadsAll (root_range n ∷ []) before after) same

pub root_unread : (holds : Option Content) (before after : Option (List ReadRange)) → after ≡ before
    → IfSome holds (λ content. ReadsFrontOf (MayBeRead content) before after)
root_unread holds before after same =
    IfSome-all (λ content. ReadsFrontOf (MayBeRead content) before after) holds
    (λ content. (root_range ROOT_LEN ∷ [], inl refl, front_none (root_range ROOT_LEN ∷ []) before after same))

pub root_alone : (holds : Option Content) (before after : Option (List ReadRange)) → ReadsAll (root_range ROOT_LEN ∷ []) before after
    → IfSome holds (λ content. ReadsFrontOf (MayBeRead content) before after)
root_alone holds before after read =
    IfSome-all (λ content. ReadsFrontOf (MayBeRead content) before after) holds
    (λ content. (root_range ROOT_LEN ∷ [], inl refl, front_all (root_range ROOT_LEN ∷ []) before after read))

root_absent : (root : Option (List ℕ)) (count : Option ℕ) (bytes : List ℕ) → count ≡ None → GivesRoot root count bytes → root ≡ None
root_absent None count bytes none gives = refl
root_absent (Some code) count bytes none gives = absurd (some_none_apart count (length code) gives.0 none)
  where
    some_none_apart : (o : Option ℕ) (n : ℕ) → o ≡ Some n → o ≡ None → ⊥
    some_none_apart o n some none = cc

pub none_there : (holds : Option Content) (count : Option ℕ) (bytes : List ℕ) (before after : Option (List ReadRange)) → count ≡ None
    → ReadsAll (root_range ROOT_LEN ∷ []) before after → IfSome holds (λ content. GivesRoot content.root count bytes)
    → IfSome holds (λ content. ReadsAllOf (AreRead content) before after)
none_there holds count bytes before after none read gives =
    told_more holds
    (λ content given. (root_range ROOT_LEN ∷ [], inl (root_absent content.root count bytes none given, refl), read)) gives

-- the bytes are the whole root
root_whole : (root : Root) (there : Option (List ℕ)) (n : ℕ) (bytes : List ℕ) → n ≡ length bytes → SpellsRoot root bytes
    → GivesRoot there (Some n) bytes → (code : List ℕ) × (there ≡ Some code) × SpellsRoot root code
root_whole root None n bytes long spelled gives = absurd cc
root_whole root (Some code) n bytes long spelled gives =
    let same : length code ≡ length bytes = omega (arith, long, some_same n (length code) gives.0) in
    let whole : bytes ≡ code =
    sym (take_all (length code) bytes (omega (arith, same))) ∙ gives.1 ∙ take_all (length bytes) code (omega (arith, same)) in
    (code, refl, subst (SpellsRoot root) whole spelled)
  where
    some_same : (a b : ℕ) → Some a ≡ Some b → a ≡ b
    some_same a b e = cc

pub root_found : (holds : Option Content) (root : Root) (count : Option ℕ) (n : ℕ) (bytes : List ℕ) → count ≡ Some n → n ≡ length bytes
    → SpellsRoot root bytes → IfSome holds (λ content. GivesRoot content.root count bytes)
    → IfSome holds (λ content. IsRootOf content root)
root_found holds root count n bytes is long spelled gives =
    told_more holds
    (λ content given.
    let whole = root_whole root content.root n bytes long spelled (subst (λ (o : Option ℕ). GivesRoot content.root o bytes) is given) in
    record { code = whole.0; there = whole.1; spelled = whole.2 })
    gives

module _ (holds : Option Content) (root : Root) (its : IfSome holds (λ content. IsRootOf content root))
    (first next last : Option (List ReadRange)) (read : ReadsAll (root_range ROOT_LEN ∷ []) first next) where
  pub from_some : IfSome holds (λ content. ReadsFrontOf (MayBeUnderRoot content root) next last)
      → IfSome holds (λ content. ReadsFrontOf (MayBeRead content) first last)
  from_some under =
      told_both holds
      (λ content is some. (
        root_range ROOT_LEN ∷ some.0,
        inr (record { root = root; its = is; under = some.0; are_under = some.1; are = refl }),
        front_joined (root_range ROOT_LEN ∷ []) some.0 first next last read some.2,
      ))
      its under

  pub from_all : (checked : Checked)
      → IfSound checked (IfSome holds (λ content. ReadsAllOf (AreUnderRoot content AreOfIndex root) next last))
      → IfSound checked (IfSome holds (λ content. ReadsAllOf (AreRead content) first last))
  from_all (Sound files live stored parts) under =
      told_both holds
      (λ content is all. (
        root_range ROOT_LEN ∷ all.0,
        inr (record { root = root; its = is; under = all.0; are_under = all.1; are = refl }),
        all_joined (root_range ROOT_LEN ∷ []) all.0 first next last read all.2,
      ))
      its under
  from_all (Broken blob) under = tt
