-- Of one content one thing is found.
use Rattle.std.proofs.Common.{◌≡◌, ℕ, List, [], ◌∷◌, sym, ◌∙◌, ap, subst, ⊎_elim}
use Rattle.std.specs.Prelude.{Some, None}
use Rattle.std.specs.List.{AllByRecursion}
use Rattle.wu_base.specs.declared.addresses.PartRec.{PartRec}
use Rattle.wu_base.proofs.EachLemmas.{each-map, each-permuted}
use Rattle.wu_outside.specs.Content.{Content}
use Rattle.wu_image.specs.declared.checkpoints.Checkpoint.{Checkpoint}
use Rattle.wu_image.specs.declared.records.FileRec.{FileRec}
use Rattle.wu_image.specs.declared.roots.Root.{Root}
use Rattle.wu_image.specs.Breakage.{IsBrokenRoot}
use Rattle.wu_image.specs.Checkpoints.{IsCheckpoint, SpellsCheckpoint}
use Rattle.wu_image.specs.Images.{IsByAddress}
use Rattle.wu_image.specs.Roots.{SpellsRoot}
use Rattle.wu_image.proofs.FileOrder.{same_order}
use Rattle.wu_image.proofs.ListedLemmas.{same_checkpoint}
use Rattle.wu_image.proofs.RootLemmas.{same_root}
use Rattle.wu_image.proofs.RuleLemmas.{texts_filled}
use Rattle.wu_check.specs.declared.checking.Checked.{Checked}
use Rattle.wu_check.specs.declared.checking.Checked.TheVariants.{Sound, Broken}
use Rattle.wu_check.specs.Wrong.{AreSoundTexts, HasCheckpoint, IsChecked, IsFirst, IsFirstPart, IsFirstText, IsRootOf, IsSound}
use Rattle.wu_check.specs.Wrong.{IsSoundPart, IsSoundUnder, IsWrong, IsWrongIndex, IsWrongPart, IsWrongText, IsWrongUnder}
use Rattle.wu_check.specs.Wrong.{counts_of, parts_of}

-- ---- the first of which something holds

module _ {X : Type 0} (P : X → Type 0) (blob_of : X → ℕ) where
  one_first : (xs : List X) (a b : ℕ) → IsFirst P blob_of xs a → IsFirst P blob_of xs b → a ≡ b
  one_first [] a b f g = absurd f
  one_first (x ∷ xs) a b f g =
      ⊎_elim
      (λ (h : P x × (blob_of x ≡ a)).
      ⊎_elim
      (λ (k : P x × (blob_of x ≡ b)). sym h.1 ∙ k.1)
      (λ (k : (P x → ⊥) × IsFirst P blob_of xs b). absurd (k.0 h.0))
      g)
      (λ (h : (P x → ⊥) × IsFirst P blob_of xs a).
      ⊎_elim
      (λ (k : P x × (blob_of x ≡ b)). absurd (h.0 k.0))
      (λ (k : (P x → ⊥) × IsFirst P blob_of xs b). one_first xs a b h.1 k.1)
      g)
      f

  none_first : (xs : List X) (a : ℕ) → AllByRecursion (λ x. P x → ⊥) xs → IsFirst P blob_of xs a → ⊥
  none_first [] a none f = f
  none_first (x ∷ xs) a none f =
      ⊎_elim
      (λ (h : P x × (blob_of x ≡ a)). none.0 h.0)
      (λ (h : (P x → ⊥) × IsFirst P blob_of xs a). none_first xs a none.1 h.1)
      f

-- ---- texts and parts

module _ (content : Content) (checkpoint : Checkpoint) (rules : IsCheckpoint checkpoint) (parts : List PartRec) where
  abbrev files : List FileRec
  files = checkpoint.files

  -- a text that is wrong is also wrong in the order of the addresses
  not_first : (order : List FileRec) (blob : ℕ) → IsByAddress files order → AreSoundTexts content files
      → IsFirstText content order blob → ⊥
  not_first order blob is sound first =
      none_first (IsWrongText content) (λ file. file.blob) order blob
      (each-permuted (λ file. IsWrongText content file → ⊥) files order is.moved sound) first

  one_order : (order other : List FileRec) → IsByAddress files order → IsByAddress files other → order ≡ other
  one_order order other is its =
      same_order files order other (texts_filled checkpoint.next_address files rules.layout.texts) rules.layout.apart is its

  one_wrong : (a b : ℕ) → IsWrongIndex content files parts a → IsWrongIndex content files parts b → a ≡ b
  one_wrong a b f g =
      ⊎_elim
      (λ (h : (order : List FileRec) × IsByAddress files order × IsFirstText content order a).
      ⊎_elim
      (λ (k : (order : List FileRec) × IsByAddress files order × IsFirstText content order b).
      one_first (IsWrongText content) (λ (file : FileRec). file.blob) h.0 a b h.2
      (subst (λ (order : List FileRec). IsFirstText content order b) (one_order k.0 h.0 k.1 h.1) k.2))
      (λ (k : AreSoundTexts content files × IsFirstPart content files parts b). absurd (not_first h.0 a h.1 k.0 h.2))
      g)
      (λ (h : AreSoundTexts content files × IsFirstPart content files parts a).
      ⊎_elim
      (λ (k : (order : List FileRec) × IsByAddress files order × IsFirstText content order b).
      absurd (not_first k.0 b k.1 h.0 k.2))
      (λ (k : AreSoundTexts content files × IsFirstPart content files parts b).
      one_first (IsWrongPart content files) (λ (part : PartRec). part.blob) parts a b h.1 k.1)
      g)
      f

  none_wrong : (blob : ℕ) → AreSoundTexts content files → AllByRecursion (IsSoundPart content files) parts
      → IsWrongIndex content files parts blob → ⊥
  none_wrong blob texts sound f =
      ⊎_elim
      (λ (h : (order : List FileRec) × IsByAddress files order × IsFirstText content order blob). not_first h.0 blob h.1 texts h.2)
      (λ (h : AreSoundTexts content files × IsFirstPart content files parts blob).
      none_first (IsWrongPart content files) (λ part. part.blob) parts blob
      (each-map (IsSoundPart content files) (λ part. IsWrongPart content files part → ⊥) parts (λ part is wrong. wrong is) sound) h.1)
      f

-- ---- root and checkpoint

-- a store has one root
one_root : (content : Content) (root other : Root) → IsRootOf content root → IsRootOf content other → root ≡ other
one_root content root other is its =
    let both : Some is.code ≡ Some its.code = sym is.there ∙ its.there in
    let same : its.code ≡ is.code = cc in
    same_root root other is.code is.spelled (subst (SpellsRoot other) same its.spelled)

not_broken : (content : Content) (root : Root) → IsRootOf content root → IsBrokenRoot content.root → ⊥
not_broken content root is broken =
    let none : IsBrokenRoot (Some is.code) = subst IsBrokenRoot is.there broken in none root is.spelled

-- and the root one checkpoint
one_checkpoint : (content : Content) (root : Root) (checkpoint other : Checkpoint) → HasCheckpoint content root checkpoint
    → HasCheckpoint content root other → checkpoint ≡ other
one_checkpoint content root checkpoint other is its =
    let both : Some is.bytes ≡ Some its.bytes = sym is.held ∙ its.held in
    let same : its.bytes ≡ is.bytes = cc in
    same_checkpoint checkpoint other is.bytes is.sound.spelled.spelled
    (subst (λ (bytes : List ℕ). SpellsCheckpoint other bytes) same its.sound.spelled.spelled)

module _ (content : Content) (root : Root) where
  wrong_alike : (a b : ℕ) → IsWrongUnder content root a → IsWrongUnder content root b → a ≡ b
  wrong_alike a b f g =
      ⊎_elim
      (λ (h : (a ≡ root.checkpoint) × ((checkpoint : Checkpoint) → HasCheckpoint content root checkpoint → ⊥)).
      ⊎_elim
      (λ (k : (b ≡ root.checkpoint) × ((checkpoint : Checkpoint) → HasCheckpoint content root checkpoint → ⊥)). h.0 ∙ sym k.0)
      (λ (k : (checkpoint : Checkpoint) × HasCheckpoint content root checkpoint
      × IsWrongIndex content checkpoint.files (parts_of root.version checkpoint) b). absurd (h.1 k.0 k.1))
      g)
      (λ (h : (checkpoint : Checkpoint) × HasCheckpoint content root checkpoint
      × IsWrongIndex content checkpoint.files (parts_of root.version checkpoint) a).
      ⊎_elim
      (λ (k : (b ≡ root.checkpoint) × ((checkpoint : Checkpoint) → HasCheckpoint content root checkpoint → ⊥)). absurd (k.1 h.0 h.1))
      (λ (k : (checkpoint : Checkpoint) × HasCheckpoint content root checkpoint
      × IsWrongIndex content checkpoint.files (parts_of root.version checkpoint) b).
      one_wrong content h.0 h.1.sound.spelled.spelled.holds (parts_of root.version h.0) a b h.2
      (subst (λ (checkpoint : Checkpoint). IsWrongIndex content checkpoint.files (parts_of root.version checkpoint) b)
      (one_checkpoint content root k.0 h.0 k.1 h.1) k.2))
      g)
      f

  sound_alike : (one other : Checked) → IsSoundUnder content root one → IsSoundUnder content root other → one ≡ other
  sound_alike one other f g =
      let same : f.checkpoint ≡ g.checkpoint = one_checkpoint content root f.checkpoint g.checkpoint f.saved g.saved in
      f.counted
      ∙ (ap (λ (checkpoint : Checkpoint). counts_of root.version checkpoint.files (parts_of root.version checkpoint)) same
      ∙ sym g.counted)

  not_both : (counts : Checked) (blob : ℕ) → IsSoundUnder content root counts → IsWrongUnder content root blob → ⊥
  not_both counts blob f g =
      ⊎_elim
      (λ (k : (blob ≡ root.checkpoint) × ((checkpoint : Checkpoint) → HasCheckpoint content root checkpoint → ⊥)).
      k.1 f.checkpoint f.saved)
      (λ (k : (checkpoint : Checkpoint) × HasCheckpoint content root checkpoint
      × IsWrongIndex content checkpoint.files (parts_of root.version checkpoint) blob).
      none_wrong content f.checkpoint f.saved.sound.spelled.spelled.holds (parts_of root.version f.checkpoint) blob f.texts f.parts
      (subst (λ (checkpoint : Checkpoint). IsWrongIndex content checkpoint.files (parts_of root.version checkpoint) blob)
      (one_checkpoint content root k.0 f.checkpoint k.1 f.saved) k.2))
      g

-- ---- a store

module _ (content : Content) where
  no_root : (root : Root) → IsRootOf content root → content.root ≡ None → ⊥
  no_root root is none = let never : Some is.code ≡ None = sym is.there ∙ none in absurd cc

  one_first_wrong : (a b : ℕ) → IsWrong content a → IsWrong content b → a ≡ b
  one_first_wrong a b f g =
      ⊎_elim
      (λ (h : (a ≡ 0) × IsBrokenRoot content.root).
      ⊎_elim
      (λ (k : (b ≡ 0) × IsBrokenRoot content.root). h.0 ∙ sym k.0)
      (λ (k : (root : Root) × IsRootOf content root × IsWrongUnder content root b). absurd (not_broken content k.0 k.1 h.1))
      g)
      (λ (h : (root : Root) × IsRootOf content root × IsWrongUnder content root a).
      ⊎_elim
      (λ (k : (b ≡ 0) × IsBrokenRoot content.root). absurd (not_broken content h.0 h.1 k.1))
      (λ (k : (root : Root) × IsRootOf content root × IsWrongUnder content root b).
      wrong_alike content h.0 a b h.2
      (subst (λ (root : Root). IsWrongUnder content root b) (one_root content k.0 h.0 k.1 h.1) k.2))
      g)
      f

  one_sound : (one other : Checked) → IsSound content one → IsSound content other → one ≡ other
  one_sound one other f g =
      ⊎_elim
      (λ (h : (content.root ≡ None) × (one ≡ Sound 0 0 0 0)).
      ⊎_elim
      (λ (k : (content.root ≡ None) × (other ≡ Sound 0 0 0 0)). h.1 ∙ sym k.1)
      (λ (k : (root : Root) × IsRootOf content root × IsSoundUnder content root other). absurd (no_root k.0 k.1 h.0))
      g)
      (λ (h : (root : Root) × IsRootOf content root × IsSoundUnder content root one).
      ⊎_elim
      (λ (k : (content.root ≡ None) × (other ≡ Sound 0 0 0 0)). absurd (no_root h.0 h.1 k.0))
      (λ (k : (root : Root) × IsRootOf content root × IsSoundUnder content root other).
      sound_alike content h.0 one other h.2
      (subst (λ (root : Root). IsSoundUnder content root other) (one_root content k.0 h.0 k.1 h.1) k.2))
      g)
      f

  sound_not_wrong : (counts : Checked) (blob : ℕ) → IsSound content counts → IsWrong content blob → ⊥
  sound_not_wrong counts blob f g =
      ⊎_elim
      (λ (h : (content.root ≡ None) × (counts ≡ Sound 0 0 0 0)).
      ⊎_elim
      (λ (k : (blob ≡ 0) × IsBrokenRoot content.root). let never : IsBrokenRoot None = subst IsBrokenRoot h.0 k.1 in never)
      (λ (k : (root : Root) × IsRootOf content root × IsWrongUnder content root blob). no_root k.0 k.1 h.0)
      g)
      (λ (h : (root : Root) × IsRootOf content root × IsSoundUnder content root counts).
      ⊎_elim
      (λ (k : (blob ≡ 0) × IsBrokenRoot content.root). not_broken content h.0 h.1 k.1)
      (λ (k : (root : Root) × IsRootOf content root × IsWrongUnder content root blob).
      not_both content h.0 counts blob h.2
      (subst (λ (root : Root). IsWrongUnder content root blob) (one_root content k.0 h.0 k.1 h.1) k.2))
      g)
      f

  pub one_finding : (found other : Checked) → IsChecked content found → IsChecked content other → found ≡ other
  one_finding (Sound a b c d) (Sound e f g h) is its = one_sound (Sound a b c d) (Sound e f g h) is its
  one_finding (Sound a b c d) (Broken blob) is its = absurd (sound_not_wrong (Sound a b c d) blob is its)
  one_finding (Broken blob) (Sound a b c d) is its = absurd (sound_not_wrong (Sound a b c d) blob its is)
  one_finding (Broken blob) (Broken other) is its = ap Broken (one_first_wrong blob other is its)
