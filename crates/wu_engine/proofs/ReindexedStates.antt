-- An engine that indexed the texts of an image anew stands for its state.
use Rattle.std.proofs.Common.{◌≡◌, ℕ, zero, suc, ◌<◌, ◌==◌, true, false, cond, List, [], ◌∷◌, ◌++◌, length, map, refl, ap, sym, ◌∙◌}
use Rattle.std.proofs.Common.{inl, inr, arith}
use Rattle.std.specs.Prelude.{Option, Some, None, IfSome, unwrap_or}
use Rattle.std.specs.List.{AllByRecursion, AllZip}
use Rattle.std.proofs.lemmas.Bool.{eqb-true}
use Rattle.std.proofs.lemmas.List.Sorted.{IsPermutation-sym}
use Rattle.wu_base.specs.declared.addresses.PartRec.{PartRec}
use Rattle.wu_base.proofs.Members.{Has, all_has}
use Rattle.wu_outside.specs.Content.{Content}
use Rattle.wu_outside.specs.declared.ranges.ReadRange.{ReadRange}
use Rattle.wu_layout.specs.Layouts.{FileEntry}
use Rattle.wu_layout.specs.Postings.{Posting, addresses_of, placed_from}
use Rattle.wu_token.specs.Tokens.{tokens_of}
use Rattle.wu_space.specs.Addresses.{Addresses}
use Rattle.wu_parts.specs.Contents.{Contents, no_contents}
use Rattle.wu_image.specs.declared.checkpoints.Checkpoint.{Checkpoint}
use Rattle.wu_image.specs.declared.records.FileRec.{FileRec}
use Rattle.wu_image.specs.declared.roots.Root.{Root}
use Rattle.wu_image.specs.Images.{HasSaved, HoldsText, IsRenewed, postings_from, text_held, text_of}
use Rattle.wu_image.specs.LayoutRules.{AreLayoutRules, IsText}
use Rattle.wu_image.proofs.FileOrder.{AreFilled, moved_has, same_order}
use Rattle.wu_query.specs.States.{State, Texts}
use Rattle.wu_engine.specs.declared.engines.Engine.{Engine}
use Rattle.wu_engine.specs.Opened.{IsEngineFor}
use Rattle.wu_engine.specs.Opening.{HasCheckpoint, HasOpenRoot, HoldsImage}
use Rattle.wu_engine.specs.Reindexed.{IsReindexed}
use Rattle.wu_engine.specs.Stands.{Stands}
use Rattle.wu_engine.proofs.FlushLemmas.{nothing_held}
use Rattle.wu_engine.proofs.ImageStates.{checkpoint_is, files_told, live_told, none_kept, renewed_there, resting, root_is, saved}
use Rattle.wu_engine.proofs.ImageStates.{texts_there}

-- ---- the texts of an image are those that the store holds

empty_text : (text : List ℕ) → length text ≡ 0 → text ≡ []
empty_text [] none = refl
empty_text (byte ∷ text) none = absurd (omega arith)

positive : (n : ℕ) → (n == 0) ≡ false → 0 < n
positive zero e = absurd (cc)
positive (suc n) e = omega arith

module _ (content : Content) (texts : Texts) (next : ℕ) where
  its_text : (entry : ℕ × FileEntry) (file : FileRec) → HoldsText content texts entry file → IsText next file
      → text_held content file ≡ text_of texts file.ino
  its_text entry file h is =
      elim (file.blob == 0) as
      (λ b. (file.blob == 0) ≡ b → cond b [] (unwrap_or (content.blobs file.blob) []) ≡ text_of texts file.ino) [
        | true ↦ λ e.
            let none : length (text_of texts entry.0) ≡ 0 = sym h.len ∙ is.kept.0 (eqb-true file.blob 0 e) in
            sym (ap (text_of texts) h.ino ∙ empty_text (text_of texts entry.0) none)
        | false ↦ λ e.
            ap (λ (o : Option (List ℕ)). unwrap_or o []) (h.held (positive file.blob e)) ∙ ap (text_of texts) (sym h.ino)
      ] refl

  each_text : (entries : List (ℕ × FileEntry)) (files : List FileRec) → AllZip (HoldsText content texts) entries files
      → AllByRecursion (IsText next) files → AllByRecursion (λ file. text_held content file ≡ text_of texts file.ino) files
  each_text entries [] h are = tt
  each_text [] (file ∷ files) h are = absurd h
  each_text (entry ∷ entries) (file ∷ files) h are = (its_text entry file h.0 are.0, each_text entries files h.1 are.1)

  postings_same : (order : List FileRec) → ((file : FileRec) → Has file order → text_held content file ≡ text_of texts file.ino)
      → postings_from (text_held content) order ≡ postings_from (λ file. text_of texts file.ino) order
  postings_same [] same = refl
  postings_same (file ∷ order) same =
      ap (λ (text : List ℕ). placed_from file.range.start (tokens_of text) ++ postings_from (text_held content) order) (same file (inl refl))
      ∙ ap (λ (ps : List Posting). placed_from file.range.start (tokens_of (text_of texts file.ino)) ++ ps)
      (postings_same order (λ other has. same other (inr has)))

pub texts_filled : (next : ℕ) (files : List FileRec) → AllByRecursion (IsText next) files → AreFilled files
texts_filled next [] are = tt
texts_filled next (file ∷ files) are = (omega (arith, are.0.some), texts_filled next files are.1)

-- ---- the engine stands for it

module _ (engine : Engine) (root : Root) (checkpoint : Checkpoint) (parts : Contents) (flush_at : ℕ)
    (is : IsEngineFor root.checkpoint checkpoint parts engine) (first : root.version ≡ 1) where
  renewed_stands : (content : Content) → HasOpenRoot content root → HasCheckpoint content root checkpoint
      → (before after : Option (List ReadRange)) → IsReindexed (Some content) checkpoint flush_at before after parts → (s : State)
      → HoldsImage (Some content) s → Stands engine (Some content) s
  renewed_stands content roomy has before after opened s image =
      let its : HasSaved content roomy.has.code s.tree s.texts s.layout =
      saved content s.tree s.texts s.layout image.1 root roomy.has in
      let same : checkpoint ≡ its.checkpoint =
      sym (checkpoint_is content s.tree s.texts s.layout image.1 root roomy.has checkpoint has) in
      let named : root ≡ its.root = sym (root_is content s.tree s.texts s.layout image.1 root roomy.has) in
      let index : IsRenewed its.root its.checkpoint s.texts s.layout =
      renewed_there content s.tree s.texts s.layout image.1 root roomy.has first in
      let rules : AreLayoutRules checkpoint.next_address checkpoint.next_blob checkpoint.flushes checkpoint.files checkpoint.parts =
      has.spelled.spelled.holds.layout in
      let files : AllZip (HoldsText content s.texts) s.layout.files checkpoint.files = rw same its.files in
      let order : opened.order ≡ index.order =
      same_order checkpoint.files opened.order index.order (texts_filled checkpoint.next_address checkpoint.files rules.texts) rules.apart
      opened.by_address (rw same index.by_address) in
      let texts : AllByRecursion (λ file. text_held content file ≡ text_of s.texts file.ino) checkpoint.files =
      each_text content s.texts checkpoint.next_address s.layout.files checkpoint.files files rules.texts in
      let postings : postings_from (text_held content) opened.order ≡ s.layout.memory =
      postings_same content s.texts checkpoint.next_address opened.order
      (λ file among. all_has (λ (f : FileRec). text_held content f ≡ text_of s.texts f.ino) file checkpoint.files texts
      (moved_has opened.order checkpoint.files file (IsPermutation-sym checkpoint.files opened.order opened.by_address.moved) among))
      ∙ ap (λ (l : List FileRec). postings_from (λ file. text_of s.texts file.ino) l) order ∙ sym index.memory in
      let parts_are : engine.parts
      ≡ record (no_contents flush_at checkpoint.next_blob) {
        memory = parts.memory;
        stale = map (λ (part : PartRec). part.blob) checkpoint.parts;
      } = is.parts_kept ∙ opened.kept in
      record {
        goes_on = is.goes_on;
        index = record {
          is_state = image.0;
          tree = is.tree ∙ (ap (λ (c : Checkpoint). c.tree) same ∙ its.tree_saved);
          next = ap (λ (a : Addresses). a.next) is.space ∙ (ap (λ (c : Checkpoint). c.next_address) same ∙ its.next);
          live = ap (λ (a : Addresses). a.ranges) is.space ∙ live_told content s.texts s.layout.files checkpoint.files files;
          files = is.files ∙ files_told content s.texts s.layout.files checkpoint.files files;
          next_blob = ap (λ (p : Contents). p.next_blob) parts_are ∙ (ap (λ (c : Checkpoint). c.next_blob) same ∙ its.blob);
          stale = ap (λ (p : Contents). p.stale) parts_are
              ∙ (ap (λ (c : Checkpoint). map (λ (part : PartRec). part.blob) c.parts) same ∙ sym index.stale);
          memory = λ term.
              rw parts_are (opened.memory.addresses term ∙ ap (λ (ps : List Posting). addresses_of term ps) postings);
          stored = rw parts_are (opened.memory.stored ∙ ap (λ (ps : List Posting). length ps) postings);
          flushes = ap (λ (p : Contents). p.flushes) parts_are ∙ sym index.flushes;
        };
        texts = texts_there content s.texts s.layout.files checkpoint.files files;
        parts = rw index.parts
            (nothing_held (Some content) engine.parts.parts engine.parts.directories (ap (λ (p : Contents). p.parts) parts_are)
            (ap (λ (p : Contents). p.directories) parts_are));
        job = resting content s.layout engine.parts (ap (λ (p : Contents). p.job) parts_are) its.job;
        kept = none_kept content s.layout.blob engine.parts.kept (ap (λ (p : Contents). p.kept.entries) parts_are);
        check = is.of_blob ∙ (ap (λ (r : Root). r.checkpoint) named ∙ its.check);
      }

  pub reindexed_stands : (holds : Option Content) → IfSome holds (λ content. HasOpenRoot content root)
      → IfSome holds (λ content. HasCheckpoint content root checkpoint) → (before after : Option (List ReadRange))
      → IsReindexed holds checkpoint flush_at before after parts → (s : State) → HoldsImage holds s → Stands engine holds s
  reindexed_stands None roomy has before after opened s image = absurd image
  reindexed_stands (Some content) roomy has before after opened s image = renewed_stands content roomy has before after opened s image
