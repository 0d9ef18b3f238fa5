-- Lemmas on the images of a state.
use Rattle.std.proofs.Common.{◌≡◌, ℕ, ◌<◌, ◌≤◌, Bool, true, cond, List, [], ◌∷◌, ◌++◌, refl, ap, sym, subst, ◌∙◌, inl, inr}
use Rattle.std.proofs.Common.{arith, ⊎_elim}
use Rattle.std.specs.Prelude.{◌==◌, Option, None, Some, count_by, map}
use Rattle.std.specs.List.{AllByRecursion, AllZip}
use Rattle.std.proofs.lemmas.Bool.{eq-eqb}
use Rattle.wu_base.specs.declared.addresses.PartRec.{PartRec}
use Rattle.wu_base.proofs.Members.{Has}
use Rattle.wu_layout.specs.Layouts.{FileEntry, Layout, Part}
use Rattle.wu_layout.specs.Invariants.{times_named}
use Rattle.wu_outside.specs.Content.{Content}
use Rattle.wu_tree.specs.FileSystems.{FileSystem}
use Rattle.wu_image.specs.declared.records.FileRec.{FileRec}
use Rattle.wu_image.specs.Images.{Texts, HoldsText, HoldsPart, HasParts, HasSaved, IsSaved, IsImage, Names}
use Rattle.wu_image.proofs.RuleLemmas.{sum_has}

-- the second content has what the first has under the blob
abbrev Agree : Content → Content → ℕ → Type 0
Agree a b blob = b.blobs blob ≡ a.blobs blob

pub counted : {X : Type 0} (blob_of : X → ℕ) (x : X) (xs : List X) → Has x xs → 1 ≤ count_by (λ y. blob_of y == blob_of x) xs
counted {X} blob_of x xs h =
    let one : cond {A = ℕ} (blob_of x == blob_of x) 1 0 ≡ 1 = ap (λ (b : Bool). cond {A = ℕ} b 1 0) (eq-eqb (blob_of x) (blob_of x) refl) in
    omega (arith, sum_has (λ (y : X). cond {A = ℕ} (blob_of y == blob_of x) 1 0) x xs h)

texts_held : (a b : Content) (texts : Texts) (entries : List (ℕ × FileEntry)) (files : List FileRec)
    → ((entry : ℕ × FileEntry) → Has entry entries → 0 < entry.1.blob → Agree a b entry.1.blob)
    → AllZip (HoldsText a texts) entries files → AllZip (HoldsText b texts) entries files
texts_held a b texts [] [] same h = tt
texts_held a b texts [] (file ∷ files) same h = h
texts_held a b texts (entry ∷ entries) [] same h = h
texts_held a b texts (entry ∷ entries) (file ∷ files) same h = (
  record {
    ino = h.0.ino;
    len = h.0.len;
    blob = h.0.blob;
    range = h.0.range;
    held = λ some.
        let is = h.0.blob in
        ap b.blobs is ∙ (same entry (inl refl) (subst (λ (n : ℕ). 0 < n) is some) ∙ (ap a.blobs (sym is) ∙ h.0.held some));
  },
  texts_held a b texts entries files (λ e i. same e (inr i)) h.1,
)

parts_held : (a b : Content) (parts : List Part) (records : List PartRec)
    → ((part : Part) → Has part parts → 0 < part.blob → Agree a b part.blob)
    → AllByRecursion (λ recorded. 0 < recorded.blob) records
    → AllZip (HoldsPart a) parts records → AllZip (HoldsPart b) parts records
parts_held a b [] [] same some h = tt
parts_held a b [] (recorded ∷ records) same some h = h
parts_held a b (part ∷ parts) [] same some h = h
parts_held a b (part ∷ parts) (recorded ∷ records) same some h = (
  record {
    recorded_of = h.0.recorded_of;
    blob = h.0.blob;
    held = same part (inl refl) (subst (λ (n : ℕ). 0 < n) h.0.recorded_of.blob some.0) ∙ h.0.held;
    directory = h.0.directory;
    spelled = h.0.spelled;
    told = h.0.told;
  },
  parts_held a b parts records (λ p i. same p (inr i)) some.1 h.1,
)

drawn_parts : (next : ℕ) (front : List ℕ) (parts : List PartRec)
    → AllByRecursion (λ blob. (0 < blob) × (blob < next)) (front ++ map (λ part. part.blob) parts)
    → AllByRecursion (λ recorded. 0 < recorded.blob) parts
drawn_parts next [] [] a = tt
drawn_parts next [] (part ∷ parts) a = (a.0.0, drawn_parts next [] parts a.1)
drawn_parts next (blob ∷ front) parts a = drawn_parts next front parts a.1

saved : (a b : Content) (code : List ℕ) (tree : FileSystem) (texts : Texts) (layout : Layout)
    → ((blob : ℕ) → Names layout blob → Agree a b blob) → HasSaved a code tree texts layout → HasSaved b code tree texts layout
saved a b code tree texts layout same s =
    let drawn = s.spelled.spelled.holds.layout.drawn in
    record {
      root = s.root;
      root_spelled = s.root_spelled;
      bytes = s.bytes;
      held = same s.root.checkpoint (s.root_spelled.some, of_check) ∙ s.held;
      checkpoint = s.checkpoint;
      spelled = s.spelled;
      tree_saved = s.tree_saved;
      next = s.next;
      blob = s.blob;
      check = s.check;
      files = texts_held a b texts layout.files s.checkpoint.files
          (λ entry h some. same entry.1.blob (
            some,
            let one = counted (λ (e : ℕ × FileEntry). e.1.blob) entry layout.files h in omega arith,
          )) s.files;
      job = s.job;
      index =
          ⊎_elim
          (λ (has : HasParts a s.root s.checkpoint layout).
          inl (record {
            version = has.version;
            memory = has.memory;
            stale = has.stale;
            flushes = has.flushes;
            parts = parts_held a b layout.parts s.checkpoint.parts
                (λ part h some. same part.blob (
                  some,
                  let one = counted (λ (p : Part). p.blob) part layout.parts h in omega arith,
                ))
                (drawn_parts s.checkpoint.next_blob _ s.checkpoint.parts drawn) has.parts;
          }))
          (λ renewed. inr renewed)
          s.index;
    }
  where
    of_check : 0 < times_named s.root.checkpoint layout.files layout.parts layout.check []
    of_check =
        let is : (layout.check == s.root.checkpoint) ≡ true = eq-eqb layout.check s.root.checkpoint (sym s.check) in
        let one : cond {A = ℕ} (layout.check == s.root.checkpoint) 1 0 ≡ 1 = ap (λ (b : Bool). cond {A = ℕ} b 1 0) is in
        omega arith

saved_by_root : (a b : Content) (root : Option (List ℕ)) (tree : FileSystem) (texts : Texts) (layout : Layout)
    → ((blob : ℕ) → Names layout blob → Agree a b blob) → IsSaved a root tree texts layout → IsSaved b root tree texts layout
saved_by_root a b None tree texts layout same s = s
saved_by_root a b (Some code) tree texts layout same s = saved a b code tree texts layout same s

pub image_kept : (a b : Content) (tree : FileSystem) (texts : Texts) (layout : Layout) → IsImage a tree texts layout → b.root ≡ a.root
    → ((blob : ℕ) → Names layout blob → b.blobs blob ≡ a.blobs blob) → IsImage b tree texts layout
image_kept a b tree texts layout i root same = record {
  saved = subst (λ (r : Option (List ℕ)). IsSaved b r tree texts layout) (sym root)
      (saved_by_root a b a.root tree texts layout same i.saved);
}
