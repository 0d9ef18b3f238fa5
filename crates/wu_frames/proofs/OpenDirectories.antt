-- Whether a directory is open, one step up at a time.
use Rattle.std.proofs.Common.{◌≡◌, ◌≢◌, ℕ, suc, true, false, List, [], ◌∷◌, refl}
use Rattle.std.specs.Prelude.{None, Some}
use Rattle.std.proofs.lemmas.Bool.{ne_eqb}
use Rattle.wu_base.proofs.Members.{Has, all_from_has}
use Rattle.wu_access.specs.declared.UserRec.{UserRec}
use Rattle.wu_access.specs.declared.Want.TheVariants.{Execute}
use Rattle.wu_tree.specs.FileSystems.{FileSystem, Link, ancestors, depth, is_directory, parent_of, path_up}
use Rattle.wu_tree.specs.Rules.{IsTree}
use Rattle.wu_tree.proofs.ParentPaths.{parent_found}
use Rattle.wu_view.specs.Views.{is_open, may}
use Rattle.wu_view.proofs.LinkPaths.{depth_below, open_below}

-- a directory that grants the user nothing isn't open
pub open-closed : (fs : FileSystem) (user : UserRec) (q : ℕ) → may fs user Execute q ≡ false → is_open fs user q ≡ false
unfolding path_up ancestors
open-closed fs user q h = rw h refl

path-alone : (links : List Link) (q : ℕ) → q ≢ 1 → parent_of links q ≡ None → path_up links q ≡ q ∷ []
unfolding path_up ancestors
path-alone links q h p = rw (ne_eqb q 1 h, p) refl

-- nothing is above it
pub open-alone : (fs : FileSystem) (user : UserRec) (q : ℕ) → q ≢ 1 → parent_of fs.links q ≡ None → may fs user Execute q ≡ true
    → is_open fs user q ≡ true
open-alone fs user q h p m = rw (path-alone fs.links q h p, m) refl

module _ (fs : FileSystem) (t : IsTree fs) (user : UserRec) (q parent : ℕ) (d : is_directory fs q ≡ true)
    (p : parent_of fs.links q ≡ Some parent) where
  parent-link : (name : List ℕ) × Has ((parent, name), q) fs.links
  parent-link = parent_found (λ l. Has l fs.links) fs.links q parent (all_from_has (λ l. Has l fs.links) fs.links (λ l h. h)) p

  pub open-above : may fs user Execute q ≡ true → is_open fs user q ≡ is_open fs user parent
  open-above m = let up = open_below fs t user ((parent, parent-link.0), q) parent-link.1 d in rw m at up

  pub depth-above : depth fs.links q ≡ suc (depth fs.links parent)
  depth-above = depth_below fs t ((parent, parent-link.0), q) parent-link.1 d
