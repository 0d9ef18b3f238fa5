-- A store is an image of one state alone: tree, texts and layout are what its contents spell.
use Rattle.std.proofs.Common.{◌≡◌, ℕ, List, [], ◌∷◌, map, filter, refl, ap, sym, ◌∙◌, subst, ⊎_elim, arith}
use Rattle.std.specs.Prelude.{◌⊎◌, Option, None, Some, is_some, unwrap_or}
use Rattle.std.specs.Ordering.{nat_cmp}
use Rattle.std.specs.Cmp.{nat_cmp_total}
use Rattle.std.specs.Cmp.Lexicographic.{same_text}
use Rattle.std.specs.List.{AllByRecursion, AllZip, Contains}
use Rattle.std.specs.Map.{keys_of, lookup}
use Rattle.std.specs.BTreeMap.{is_at}
use Rattle.std.proofs.lemmas.Map.Lookups.{exact_unsigned}
use Rattle.wu_base.specs.declared.addresses.PartRec.{PartRec}
use Rattle.wu_base.specs.declared.addresses.Range.{Range}
use Rattle.wu_base.specs.declared.addresses.TermList.{TermList}
use Rattle.wu_base.proofs.MapEntries.{all_found}
use Rattle.wu_base.proofs.Members.{Has, Has-from_Contains, filter_has, map_has}
use Rattle.wu_base.proofs.SortedLists.{same_sorted}
use Rattle.wu_outside.specs.Content.{Content}
use Rattle.wu_part.specs.Parts.{SpellsPart}
use Rattle.wu_part.proofs.LawLemmas.{same_part}
use Rattle.wu_layout.specs.Layouts.{FileEntry, Job, Layout, Part, list_of, lists_of, stored_in, terms_of}
use Rattle.wu_layout.specs.Postings.{Ascend, Posting, addresses_of, is_of}
use Rattle.wu_layout.proofs.HomeLemmas.{postings_split}
use Rattle.wu_layout.proofs.PostingLemmas.{Ascend-split}
use Rattle.wu_tree.specs.FileSystems.{FileSystem, is_file}
use Rattle.wu_tree.proofs.ListTests.{keys_mapped}
use Rattle.wu_image.specs.declared.checkpoints.Checkpoint.{Checkpoint}
use Rattle.wu_image.specs.declared.records.FileRec.{FileRec}
use Rattle.wu_image.specs.declared.roots.Root.{Root}
use Rattle.wu_image.specs.Checkpoints.{IsCheckpoint, SpellsCheckpoint, file_numbers}
use Rattle.wu_image.specs.Images.{HasParts, HasSaved, HoldsPart, HoldsText, IsFirst, IsImage, IsRenewed, IsSaved, Texts, postings_from}
use Rattle.wu_image.specs.Images.{text_held, text_of}
use Rattle.wu_image.specs.LayoutRules.{IsText}
use Rattle.wu_image.proofs.FileNumbers.{file_numbers_ascend, found_key, key_found, number_there, there_number}
use Rattle.wu_image.proofs.FileOrder.{same_order}
use Rattle.wu_image.proofs.ListedLemmas.{same_checkpoint}
use Rattle.wu_image.proofs.RootLemmas.{same_root}
use Rattle.wu_image.proofs.RuleLemmas.{texts_filled}
use Rattle.wu_check.specs.Imaged.{AreOfOneState}
use Rattle.wu_check.specs.Terms.{HaveTermAt}
use Rattle.wu_check.proofs.FileEntries.{entries_of, entry_for}
use Rattle.wu_check.proofs.SoundImages.{term_at, text_there}
use Rattle.wu_check.proofs.SoundPostings.{same_postings}

-- ---- postings that have the same lists

listed_posting : (postings : List Posting) (address : ℕ) (term : List ℕ) → HaveTermAt (lists_of postings) address term
    → Has (record { address = address; term = term }) postings
listed_posting postings address term h = among (terms_of postings) h
  where
    its : (t : List ℕ) → t ≡ term → Contains (addresses_of t postings) address → Has (record { address = address; term = term }) postings
    its t e c =
        let make : ℕ → List ℕ → Posting = λ a b. record { address = a; term = b } in
        let found =
        map_has (λ (p : Posting). p.address) address (filter (is_of t) postings) (Has-from_Contains address (addresses_of t postings) c) in
        let kept = filter_has (is_of t) found.0 postings found.1.0 in
        let same : found.0.term ≡ term = same_text found.0.term t (sym kept.1) ∙ e in
        subst (λ (p : Posting). Has p postings)
        (ap (λ (a : ℕ). make a found.0.term) found.1.1 ∙ ap (λ (b : List ℕ). make address b) same) kept.0

    among : (terms : List (List ℕ)) → HaveTermAt (map (list_of postings) terms) address term
        → Has (record { address = address; term = term }) postings
    among [] i = absurd i
    among (t ∷ terms) i =
        ⊎_elim (λ (e : (t ≡ term) × Contains (addresses_of t postings) address). its t e.0 e.1) (λ later. among terms later) i

same_by_lists : (low high from end : ℕ) (ps qs : List Posting) → Ascend low high ps → Ascend from end qs → lists_of ps ≡ lists_of qs
    → ps ≡ qs
same_by_lists low high from end ps qs a b same =
    same_postings low high from end ps qs a b
    (λ p h.
    listed_posting qs p.address p.term (subst (λ (ls : List TermList). HaveTermAt ls p.address p.term) same (term_at ps p h)))
    (λ p h.
    listed_posting ps p.address p.term (subst (λ (ls : List TermList). HaveTermAt ls p.address p.term) (sym same) (term_at qs p h)))

-- ---- parts

part_is : (a b : Part) → a.blob ≡ b.blob → a.generation ≡ b.generation → a.postings ≡ b.postings → a ≡ b
part_is a b blob generation postings =
    let make : ℕ → ℕ → List Posting → Part = λ n g ps. record { blob = n; generation = g; postings = ps } in
    ap (λ x. make x a.generation a.postings) blob ∙ (ap (λ x. make b.blob x a.postings) generation
    ∙ ap (λ x. make b.blob b.generation x) postings)

module _ (content : Content) where
  one_part : (low high from end : ℕ) (part other : Part) (recorded : PartRec) → Ascend low high part.postings
      → Ascend from end other.postings → HoldsPart content part recorded → HoldsPart content other recorded → part ≡ other
  one_part low high from end part other recorded a b h g =
      let blob : part.blob ≡ other.blob = sym h.recorded_of.blob ∙ g.recorded_of.blob in
      let both : Some h.blob ≡ Some g.blob = sym h.held ∙ (ap content.blobs blob ∙ g.held) in
      let bytes : g.blob ≡ h.blob = cc in
      let lists =
      same_part h.directory g.directory (lists_of part.postings) (lists_of other.postings) h.blob h.spelled
      (subst (λ (bs : List ℕ). SpellsPart g.directory (lists_of other.postings) bs) bytes g.spelled) in
      part_is part other blob (sym h.recorded_of.generation ∙ g.recorded_of.generation)
      (same_by_lists low high from end part.postings other.postings a b lists.1)

  same_parts : (low high from end : ℕ) (parts others : List Part) (records : List PartRec) → Ascend low high (stored_in parts)
      → Ascend from end (stored_in others) → AllZip (HoldsPart content) parts records → AllZip (HoldsPart content) others records
      → parts ≡ others
  same_parts low high from end [] [] records a b h g = refl
  same_parts low high from end [] (other ∷ others) [] a b h g = absurd g
  same_parts low high from end [] (other ∷ others) (recorded ∷ records) a b h g = absurd h
  same_parts low high from end (part ∷ parts) [] [] a b h g = absurd h
  same_parts low high from end (part ∷ parts) [] (recorded ∷ records) a b h g = absurd g
  same_parts low high from end (part ∷ parts) (other ∷ others) [] a b h g = absurd h
  same_parts low high from end (part ∷ parts) (other ∷ others) (recorded ∷ records) a b h g =
      let mine = Ascend-split low high part.postings (stored_in parts) a in
      let its = Ascend-split from end other.postings (stored_in others) b in
      ap (λ (p : Part). p ∷ parts) (one_part low mine.0 from its.0 part other recorded mine.1.0 its.1.0 h.0 g.0)
      ∙ ap (λ (ps : List Part). other ∷ ps) (same_parts mine.0 high its.0 end parts others records mine.1.1 its.1.1 h.1 g.1)

  -- ---- files

  entries_are : (texts : Texts) (entries : List (ℕ × FileEntry)) (files : List FileRec) → AllZip (HoldsText content texts) entries files
      → entries ≡ entries_of files
  entries_are texts [] [] h = refl
  entries_are texts [] (file ∷ files) h = absurd h
  entries_are texts (entry ∷ entries) [] h = absurd h
  entries_are texts (entry ∷ entries) (file ∷ files) h =
      let make : ℕ → ℕ → Range → ℕ × FileEntry = λ n b r. (n, record { blob = b; range = r }) in
      let one : entry ≡ (file.ino, entry_for file) =
      ap (λ x. make x entry.1.blob entry.1.range) (sym h.0.ino) ∙ (ap (λ x. make file.ino x entry.1.range) (sym h.0.blob)
      ∙ ap (λ x. make file.ino file.blob x) (sym h.0.range)) in
      ap (λ (e : ℕ × FileEntry). e ∷ entries) one
      ∙ ap (λ (es : List (ℕ × FileEntry)). (file.ino, entry_for file) ∷ es) (entries_are texts entries files h.1)

  -- ---- texts

  abbrev held_texts : List FileRec → Texts
  held_texts files = map (λ file. (file.ino, text_held content file)) files

  held_are : (next : ℕ) (texts : Texts) (entries : List (ℕ × FileEntry)) (files : List FileRec)
      → AllZip (HoldsText content texts) entries files → AllByRecursion (IsText next) files
      → AllByRecursion (λ text. text.1 ≡ text_of texts text.0) (held_texts files)
  held_are next texts [] [] h are = tt
  held_are next texts [] (file ∷ files) h are = absurd h
  held_are next texts (entry ∷ entries) [] h are = absurd h
  held_are next texts (entry ∷ entries) (file ∷ files) h are = (
    text_there content texts entry file h.0 (λ none. are.0.kept.0 none) ∙ ap (text_of texts) (sym h.0.ino),
    held_are next texts entries files h.1 are.1,
  )

  found_are : (texts some : Texts) → AllByRecursion (λ text. lookup (is_at (nat_cmp text.0)) texts ≡ Some text.1) some
      → AllByRecursion (λ text. text.1 ≡ text_of texts text.0) some
  found_are texts [] all = tt
  found_are texts (text ∷ some) all =
      (sym (ap (λ (o : Option (List ℕ)). unwrap_or o []) all.0), found_are texts some all.1)

  same_by_keys : (value : ℕ → List ℕ) (texts others : Texts) → keys_of texts ≡ keys_of others
      → AllByRecursion (λ text. text.1 ≡ value text.0) texts → AllByRecursion (λ text. text.1 ≡ value text.0) others → texts ≡ others
  same_by_keys value [] [] keys a b = refl
  same_by_keys value [] (other ∷ others) keys a b = absurd cc
  same_by_keys value (text ∷ texts) [] keys a b = absurd cc
  same_by_keys value (text ∷ texts) (other ∷ others) keys a b =
      let key : text.0 ≡ other.0 = cc in
      let rest : keys_of texts ≡ keys_of others = cc in
      let same : text.1 ≡ other.1 = a.0 ∙ (ap value key ∙ sym b.0) in
      let make : ℕ → List ℕ → ℕ × List ℕ = λ n t. (n, t) in
      ap (λ (t : ℕ × List ℕ). t ∷ texts) (ap (λ x. make x text.1) key ∙ ap (λ x. make other.0 x) same)
      ∙ ap (λ (ts : Texts). other ∷ ts) (same_by_keys value texts others rest a.1 b.1)

-- ---- what was saved

layout_is : (a b : Layout) → a.next ≡ b.next → a.blob ≡ b.blob → a.check ≡ b.check → a.flushes ≡ b.flushes → a.files ≡ b.files
    → a.memory ≡ b.memory → a.parts ≡ b.parts → a.stale ≡ b.stale → a.job ≡ b.job → a ≡ b
layout_is a b next blob check flushes files memory parts stale job =
    let numbers : ℕ → ℕ → ℕ → ℕ → Layout = λ n m c f. record a { next = n; blob = m; check = c; flushes = f } in
    let lists : List (ℕ × FileEntry) → List Posting → List Part → List ℕ → Option Job → Layout =
    λ fs ps qs ss j. record b { files = fs; memory = ps; parts = qs; stale = ss; job = j } in
    ap (λ x. numbers x a.blob a.check a.flushes) next ∙ (ap (λ x. numbers b.next x a.check a.flushes) blob
    ∙ (ap (λ x. numbers b.next b.blob x a.flushes) check ∙ (ap (λ x. numbers b.next b.blob b.check x) flushes
    ∙ (ap (λ x. lists x a.memory a.parts a.stale a.job) files ∙ (ap (λ x. lists b.files x a.parts a.stale a.job) memory
    ∙ (ap (λ x. lists b.files b.memory x a.stale a.job) parts ∙ (ap (λ x. lists b.files b.memory b.parts x a.job) stale
    ∙ ap (λ x. lists b.files b.memory b.parts b.stale x) job)))))))

module _ (content : Content) (code : List ℕ) (tree : FileSystem) (texts : Texts) (layout : Layout)
    (saved : HasSaved content code tree texts layout) (one : AreOfOneState tree texts layout) where
  abbrev checkpoint : Checkpoint
  checkpoint = saved.checkpoint

  rules : IsCheckpoint checkpoint
  rules = saved.spelled.spelled.holds

  keys_are : keys_of texts ≡ file_numbers checkpoint.tree.nodes
  keys_are =
      same_sorted nat_cmp_total exact_unsigned (keys_of texts) (file_numbers checkpoint.tree.nodes) one.ascend
      (file_numbers_ascend checkpoint.tree.nodes rules.tree.nodes_ascend)
      (λ q h. number_there q checkpoint.tree.nodes (sym (of_files q) ∙ key_found q texts h))
      (λ q h. found_key q texts (of_files q ∙ there_number q checkpoint.tree.nodes rules.tree.nodes_ascend h))
    where
      of_files : (q : ℕ) → is_some (lookup (is_at (nat_cmp q)) texts) ≡ is_file checkpoint.tree q
      of_files q = one.of_files q ∙ ap (λ (t : FileSystem). is_file t q) (sym saved.tree_saved)

  texts_are : texts ≡ held_texts content checkpoint.files
  texts_are =
      same_by_keys content (text_of texts) texts (held_texts content checkpoint.files)
      (keys_are ∙ sym (keys_mapped (λ (file : FileRec). (file.ino, text_held content file)) checkpoint.files ∙ rules.files))
      (found_are content texts texts (all_found texts one.ascend))
      (held_are content checkpoint.next_address texts layout.files checkpoint.files saved.files rules.layout.texts)

  stored_ascends : (middle : ℕ) × Ascend 0 middle (stored_in layout.parts)
  stored_ascends =
      let split =
      Ascend-split 0 layout.next (stored_in layout.parts) layout.memory
      (subst (λ (ps : List Posting). Ascend 0 layout.next ps) (postings_split layout.parts layout.memory)
      one.indexed.addresses.ascend) in
      (split.0, split.1.0)

-- ---- images

module _ (content : Content) (tree other_tree : FileSystem) (texts other_texts : Texts) (layout other_layout : Layout)
    (one : AreOfOneState tree texts layout) (other : AreOfOneState other_tree other_texts other_layout) where
  abbrev AreTheSame : Type 0
  AreTheSame = (tree ≡ other_tree) × (texts ≡ other_texts) × (layout ≡ other_layout)

  module _ (code : List ℕ) (saved : HasSaved content code tree texts layout)
      (others : HasSaved content code other_tree other_texts other_layout) where
    roots_are : others.root ≡ saved.root
    roots_are = same_root others.root saved.root code others.root_spelled saved.root_spelled

    checkpoints_are : others.checkpoint ≡ saved.checkpoint
    checkpoints_are =
        let both : Some others.bytes ≡ Some saved.bytes =
        sym others.held ∙ (ap (λ (r : Root). content.blobs r.checkpoint) roots_are ∙ saved.held) in
        let bytes : others.bytes ≡ saved.bytes = cc in
        same_checkpoint others.checkpoint saved.checkpoint saved.bytes
        (subst (SpellsCheckpoint others.checkpoint) bytes others.spelled.spelled) saved.spelled.spelled

    read_alike : {X : Type 0} (value : Checkpoint → X) → value saved.checkpoint ≡ value others.checkpoint
    read_alike value = ap value (sym checkpoints_are)

    same_tree : tree ≡ other_tree
    same_tree = sym saved.tree_saved ∙ read_alike (λ c. c.tree) ∙ others.tree_saved

    same_texts : texts ≡ other_texts
    same_texts =
        texts_are content code tree texts layout saved one ∙ read_alike (λ c. held_texts content c.files)
        ∙ sym (texts_are content code other_tree other_texts other_layout others other)

    same_entries : layout.files ≡ other_layout.files
    same_entries =
        entries_are content texts layout.files saved.checkpoint.files saved.files ∙ read_alike (λ c. entries_of c.files)
        ∙ sym (entries_are content other_texts other_layout.files others.checkpoint.files others.files)

    same_layout_if : layout.flushes ≡ other_layout.flushes → layout.memory ≡ other_layout.memory → layout.parts ≡ other_layout.parts
        → layout.stale ≡ other_layout.stale → layout ≡ other_layout
    same_layout_if flushes memory parts stale =
        layout_is layout other_layout (sym saved.next ∙ read_alike (λ c. c.next_address) ∙ others.next)
        (sym saved.blob ∙ read_alike (λ c. c.next_blob) ∙ others.blob)
        (sym saved.check ∙ ap (λ (r : Root). r.checkpoint) (sym roots_are) ∙ others.check) flushes same_entries memory parts stale
        (saved.job ∙ sym others.job)

    second : HasParts content saved.root saved.checkpoint layout → HasParts content saved.root saved.checkpoint other_layout
        → layout ≡ other_layout
    second h g =
        let mine = stored_ascends content code tree texts layout saved one in
        let its = stored_ascends content code other_tree other_texts other_layout others other in
        same_layout_if (sym h.flushes ∙ g.flushes) (h.memory ∙ sym g.memory)
        (same_parts content 0 mine.0 0 its.0 layout.parts other_layout.parts saved.checkpoint.parts mine.1 its.1 h.parts g.parts)
        (h.stale ∙ sym g.stale)

    first : IsRenewed saved.root saved.checkpoint texts layout → IsRenewed saved.root saved.checkpoint other_texts other_layout
        → layout ≡ other_layout
    first h g =
        let files = saved.checkpoint.files in
        let rules = saved.spelled.spelled.holds in
        let order : h.order ≡ g.order =
        same_order files h.order g.order (texts_filled saved.checkpoint.next_address files rules.layout.texts) rules.layout.apart
        h.by_address g.by_address in
        let memory : layout.memory ≡ other_layout.memory =
        h.memory
        ∙ (ap (λ (sorted : List FileRec). postings_from (λ file. text_of texts file.ino) sorted) order
        ∙ (ap (λ (ts : Texts). postings_from (λ file. text_of ts file.ino) g.order) same_texts ∙ sym g.memory)) in
        same_layout_if (h.flushes ∙ sym g.flushes) memory (h.parts ∙ sym g.parts) (h.stale ∙ sym g.stale)

    other_index : HasParts content saved.root saved.checkpoint other_layout ⊎ IsRenewed saved.root saved.checkpoint other_texts other_layout
    other_index =
        subst
        (λ (c : Checkpoint). HasParts content saved.root c other_layout ⊎ IsRenewed saved.root c other_texts other_layout)
        checkpoints_are
        (subst
        (λ (r : Root). HasParts content r others.checkpoint other_layout ⊎ IsRenewed r others.checkpoint other_texts other_layout)
        roots_are others.index)

    same_layout : layout ≡ other_layout
    same_layout =
        ⊎_elim
        (λ (h : HasParts content saved.root saved.checkpoint layout).
        ⊎_elim
        (λ (g : HasParts content saved.root saved.checkpoint other_layout). second h g)
        (λ (g : IsRenewed saved.root saved.checkpoint other_texts other_layout). absurd (omega (arith, h.version, g.version)))
        other_index)
        (λ (h : IsRenewed saved.root saved.checkpoint texts layout).
        ⊎_elim
        (λ (g : HasParts content saved.root saved.checkpoint other_layout). absurd (omega (arith, h.version, g.version)))
        (λ (g : IsRenewed saved.root saved.checkpoint other_texts other_layout). first h g)
        other_index)
        saved.index

    saved_alike : AreTheSame
    saved_alike = (same_tree, same_texts, same_layout)

  first_alike : IsFirst tree texts layout → IsFirst other_tree other_texts other_layout → AreTheSame
  first_alike is its =
      (is.tree_alone ∙ sym its.tree_alone, is.no_texts ∙ sym its.no_texts, is.layout_empty ∙ sym its.layout_empty)

  pub one_image : IsImage content tree texts layout → IsImage content other_tree other_texts other_layout → AreTheSame
  one_image is its =
      elim content.root as
      (λ root. IsSaved content root tree texts layout → IsSaved content root other_tree other_texts other_layout → AreTheSame) [
        | None ↦ λ a b. first_alike a b
        | Some code ↦ λ a b. saved_alike code a b
      ] is.saved its.saved
