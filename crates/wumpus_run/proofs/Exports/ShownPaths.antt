-- The paths of a view: each is that of a link to its file, and what stands before a `/` of it is the path of a directory.
use Rattle.std.proofs.Common.{◌≡◌, ◌≢◌, ℕ, zero, suc, ◌+◌, ◌≤◌, Bool, true, false, not, ◌&&◌, List, [], ◌∷◌, ◌++◌, length, get_or, take}
use Rattle.std.proofs.Common.{refl, ap, sym, ◌∙◌, subst, append-nil, append_assoc, length-append, arith, ◌⊎◌, inl, inr, ⊎_elim}
use Rattle.std.specs.Prelude.{◌==◌, filter}
use Rattle.std.specs.List.{AllByRecursion, range_with_len}
use Rattle.std.proofs.lemmas.Bool.{and_parts}
use Rattle.std.proofs.lemmas.Cmp.{nat_list_cmp_total}
use Rattle.std.proofs.lemmas.Map.Lookups.{exact_bytes}
use borrow.Author.Tests.{eqb-true, eq-eqb}
use Rattle.wu_base.specs.declared.limits.TheConstants.{DEPTH_MAX}
use Rattle.wu_base.proofs.EachLemmas.{each-append}
use Rattle.wu_base.proofs.Members.{Has, filter_has, map_has}
use Rattle.wu_base.proofs.SortedLists.{has-sorted_once, sorted_once_has}
use Rattle.wu_access.specs.declared.UserRec.{UserRec}
use Rattle.wu_tree.specs.FileSystems.{FileSystem, Link, are_name_bytes, depth, groups_of, is_directory, is_dots, is_file, is_name}
use Rattle.wu_tree.specs.FileSystems.{is_name_length}
use Rattle.wu_tree.specs.Rules.{IsTree}
use Rattle.wu_view.specs.declared.Seen.{Seen}
use Rattle.wu_view.specs.Views.{directory_path, joined, may, open_paths, path_of, seen_as, user_with, view_for, view_of}
use Rattle.wu_view.proofs.LeastPaths.{link_to, not_one}
use Rattle.wu_view.proofs.LinkPaths.{depth_below, depth_range, link_facts, path_below_is, root_depth, root_path}
use Rattle.wu_view.proofs.ShownFiles.{has_opened, has_seen, opened_paths, seen_exact, seen_total, unsorted}
use Rattle.wu_access.specs.declared.Want.TheVariants.{Read}
use Rattle.wu_export.specs.Exports.{directories_on, is_slash}

-- ---- names and slashes

abbrev pub IsSlashless : List ℕ → Type 0
IsSlashless name = AllByRecursion (λ byte. byte ≢ 47) name

bytes_slashless : (name : List ℕ) → are_name_bytes name ≡ true → IsSlashless name
bytes_slashless [] h = tt
bytes_slashless (b ∷ name) h =
    let a = and_parts (not (b == 47) && not (b == 0)) (are_name_bytes name) h in
    let c = and_parts (not (b == 47)) (not (b == 0)) a.0 in
    (λ e. let f : not true ≡ true = rw (eq-eqb b 47 e) at c.0 in absurd cc, bytes_slashless name a.1)

pub name_slashless : (name : List ℕ) → is_name name ≡ true → IsSlashless name
name_slashless name h =
    let a = and_parts (is_name_length name && are_name_bytes name) (not (is_dots name)) h in
    bytes_slashless name (and_parts (is_name_length name) (are_name_bytes name) a.0).1

-- what stands before a `/` of the path
abbrev pub IsAbove : List ℕ → List ℕ → Type 0
IsAbove above path = (rest : List ℕ) × (path ≡ above ++ 47 ∷ rest)

slash_within : (above rest : List ℕ) → IsSlashless (above ++ 47 ∷ rest) → ⊥
slash_within [] rest h = h.0 refl
slash_within (byte ∷ above) rest h = slash_within above rest h.1

-- before a name it is what stands before the name's `/`, or before an earlier one
above_name : (path name above rest : List ℕ) → IsSlashless name → path ++ 47 ∷ name ≡ above ++ 47 ∷ rest
    → (above ≡ path) ⊎ IsAbove above path
above_name [] name [] rest h e = inl refl
above_name [] name (byte ∷ above) rest h e =
    let f : name ≡ above ++ 47 ∷ rest = cc in absurd (slash_within above rest (subst (λ (l : List ℕ). IsSlashless l) f h))
above_name (byte ∷ path) name [] rest h e = let f : byte ≡ 47 = cc in inr (path, ap (λ (b : ℕ). b ∷ path) f)
above_name (byte ∷ path) name (other ∷ above) rest h e =
    let same : byte ≡ other = cc in
    let tail : path ++ 47 ∷ name ≡ above ++ 47 ∷ rest = cc in
    ⊎_elim
    (λ (f : above ≡ path). let g : other ∷ above ≡ byte ∷ path = cc in inl g)
    (λ (f : IsAbove above path).
    let h : path ≡ above ++ 47 ∷ f.0 = f.1 in
    let g : byte ∷ path ≡ other ∷ (above ++ 47 ∷ f.0) = cc in
    inr (f.0, g))
    (above_name path name above rest h tail)

slash_at : (path : List ℕ) (place : ℕ) → get_or path place 0 ≡ 47 → IsAbove (take place path) path
slash_at [] place is = absurd (omega (arith, is))
slash_at (byte ∷ path) zero is = (path, ap (λ (b : ℕ). b ∷ path) is)
slash_at (byte ∷ path) (suc place) is =
    let r = slash_at path place is in (r.0, ap (λ (l : List ℕ). byte ∷ l) r.1)

pub directory_above : (path above : List ℕ) → Has above (directories_on path) → IsAbove above path
directory_above path above h =
    let test : ℕ → Bool = λ place. is_slash (get_or path place 0) in
    let m = map_has (λ (place : ℕ). take place path) above (filter test (range_with_len 0 (length path))) h in
    let f = filter_has test m.0 (range_with_len 0 (length path)) m.1.0 in
    subst (λ (l : List ℕ). IsAbove l path) m.1.1 (slash_at path m.0 (eqb-true (get_or path m.0 0) 47 f.1))

joined-push : (names : List (List ℕ)) (name : List ℕ) → joined (names ++ name ∷ []) ≡ joined names ++ 47 ∷ name
joined-push [] name = ap (λ (l : List ℕ). 47 ∷ l) (append-nil name)
joined-push (n ∷ names) name = ap (λ (l : List ℕ). 47 ∷ (n ++ l)) (joined-push names name)
    ∙ ap (λ (l : List ℕ). 47 ∷ l) (sym (append_assoc n (joined names) (47 ∷ name)))

-- ---- directories

-- names that lead from the root to a directory or a file, as many as there are directories above it
pub record IsNamed (path : List ℕ) (above : ℕ) : Type 0 where
  pub names : List (List ℕ)
  pub count : length names ≡ above
  pub legal : AllByRecursion (λ name. is_name name ≡ true) names
  pub spelled : joined names ≡ path

pub record IsDirectoryPath (fs : FileSystem) (path : List ℕ) : Type 0 where
  pub directory : ℕ
  pub is : is_directory fs directory ≡ true
  pub spelled : directory_path fs.links directory ≡ path

module _ (fs : FileSystem) (t : IsTree fs) where
  -- the path of a directory but the root is that of a link to it
  pub path_through : (d : ℕ) → is_directory fs d ≡ true → d ≢ 1
      → (link : Link) × Has link fs.links × (link.1 ≡ d) × (directory_path fs.links d ≡ path_of fs.links link.0)
      × (depth fs.links d ≡ suc (depth fs.links link.0.0))
  path_through d is other =
      let r = link_to fs t d is other in
      let is_one : is_directory fs r.0.1 ≡ true = subst (λ x. is_directory fs x ≡ true) (sym r.1.1) is in (
        r.0,
        r.1.0,
        r.1.1,
        ap (directory_path fs.links) (sym r.1.1) ∙ path_below_is fs t r.0 r.1.0 is_one,
        ap (depth fs.links) (sym r.1.1) ∙ depth_below fs t r.0 r.1.0 is_one,
      )

  named_more : (link : Link) (above : ℕ) → Has link fs.links → IsNamed (directory_path fs.links link.0.0) above
      → IsNamed (path_of fs.links link.0) (above + 1)
  named_more link above h named = record {
    names = named.names ++ link.0.1 ∷ [];
    count = length-append named.names (link.0.1 ∷ []) ∙ ap (λ (n : ℕ). n + 1) named.count;
    legal = each-append (λ name. is_name name ≡ true) named.names (link.0.1 ∷ []) named.legal ((link_facts fs t link h).name, tt);
    spelled = joined-push named.names link.0.1 ∙ ap (λ (l : List ℕ). l ++ 47 ∷ link.0.1) named.spelled;
  }

  directory_named : (n d : ℕ) → depth fs.links d ≤ n → is_directory fs d ≡ true
      → (above : ℕ) × (above + 1 ≡ depth fs.links d) × IsNamed (directory_path fs.links d) above
  directory_named zero d few is = absurd (omega (arith, (depth_range fs.links d).0))
  directory_named (suc n) d few is =
      elim (d == 1) as (λ b. (d == 1) ≡ b → (above : ℕ) × (above + 1 ≡ depth fs.links d) × IsNamed (directory_path fs.links d) above) [
        | true ↦ λ e.
            let root : d ≡ 1 = eqb-true d 1 e in (
              0,
              sym (ap (depth fs.links) root ∙ root_depth fs t),
              record { names = []; count = refl; legal = tt; spelled = sym (ap (directory_path fs.links) root ∙ root_path fs t) },
            )
        | false ↦ λ e.
            let r = path_through d is (not_one fs t d e) in
            let up = directory_named n r.0.0.0 (omega (arith, r.4)) (link_facts fs t r.0 r.1).parent in (
              up.0 + 1,
              omega (arith, up.1, r.4),
              subst (λ (p : List ℕ). IsNamed p (up.0 + 1)) (sym r.3) (named_more r.0 up.0 r.1 up.2),
            )
      ] refl

  -- a link's path has a name for each directory above its node
  pub link_named : (link : Link) → Has link fs.links
      → (above : ℕ) × (1 ≤ above) × (above ≤ DEPTH_MAX) × IsNamed (path_of fs.links link.0) above
  link_named link h =
      let range = depth_range fs.links link.0.0 in
      let up = directory_named 255 link.0.0 range.1 (link_facts fs t link h).parent in
      (up.0 + 1, omega arith, omega (arith, range.1, up.1), named_more link up.0 h up.2)

  -- what stands before a `/` of the path of a link is the path of a directory
  path_above : (link : Link) (above : List ℕ) → Has link fs.links
      → (IsAbove above (directory_path fs.links link.0.0) → IsDirectoryPath fs above)
      → IsAbove above (path_of fs.links link.0) → IsDirectoryPath fs above
  path_above link above h higher is =
      let facts = link_facts fs t link h in
      ⊎_elim
      (λ (e : above ≡ directory_path fs.links link.0.0). record { directory = link.0.0; is = facts.parent; spelled = sym e })
      higher
      (above_name (directory_path fs.links link.0.0) link.0.1 above is.0 (name_slashless link.0.1 facts.name) is.1)

  above_directory : (n d : ℕ) (above : List ℕ) → depth fs.links d ≤ n → is_directory fs d ≡ true
      → IsAbove above (directory_path fs.links d) → IsDirectoryPath fs above
  above_directory zero d above few is up = absurd (omega (arith, (depth_range fs.links d).0))
  above_directory (suc n) d above few is up =
      elim (d == 1) as (λ b. (d == 1) ≡ b → IsDirectoryPath fs above) [
        | true ↦ λ e.
            let none : [] ≡ above ++ 47 ∷ up.0 = sym (ap (directory_path fs.links) (eqb-true d 1 e) ∙ root_path fs t) ∙ up.1 in
            let size : 0 ≡ length (above ++ 47 ∷ up.0) = ap length none in
            absurd (omega (arith, size, length-append above (47 ∷ up.0)))
        | false ↦ λ e.
            let r = path_through d is (not_one fs t d e) in
            path_above r.0 above r.1
            (above_directory n r.0.0.0 above (omega (arith, r.4)) (link_facts fs t r.0 r.1).parent)
            (up.0, sym r.3 ∙ up.1)
      ] refl

  pub above_link : (link : Link) (above : List ℕ) → Has link fs.links → IsAbove above (path_of fs.links link.0) → IsDirectoryPath fs above
  above_link link above h is =
      path_above link above h
      (above_directory 255 link.0.0 above (depth_range fs.links link.0.0).1 (link_facts fs t link h).parent) is

  -- ---- files

  module _ (uid : ℕ) where
    abbrev pub user : UserRec
    user = user_with uid (groups_of fs uid)

    -- a file as it stands in the view
    pub record IsSeen (seen : Seen) : Type 0 where
      pub is : seen_as fs user seen.ino ≡ seen
      pub file : is_file fs seen.ino ≡ true
      pub some : (path : List ℕ) × Has path seen.paths

    pub seen_in_view : (seen : Seen) → Has seen (view_of fs uid) → IsSeen seen
    unfolding view_of view_for
    seen_in_view seen h =
        let r = has_seen fs t user seen (sorted_once_has seen_total seen_exact seen (unsorted fs t user) h) in
        let i : r.0 ≡ seen.ino = ap (λ (x : Seen). x.ino) r.4 in
        record {
          is = subst (λ q. seen_as fs user q ≡ seen) i r.4;
          file = subst (λ q. is_file fs q ≡ true) i (and_parts (is_file fs r.0) (may fs user Read r.0) r.2).0;
          some = (
            r.1,
            subst (λ (x : Seen). Has r.1 x.paths) r.4
                (has-sorted_once nat_list_cmp_total exact_bytes r.1 (opened_paths fs t user r.0) r.3),
          );
        }

    pub path_by_link : (seen : Seen) (path : List ℕ) → IsSeen seen → Has path seen.paths
        → (link : Link) × Has link fs.links × (link.1 ≡ seen.ino) × (path_of fs.links link.0 ≡ path)
    path_by_link seen path is h =
        let opened : Has path (open_paths fs user seen.ino) = subst (λ (x : Seen). Has path x.paths) (sym is.is) h in
        let r = has_opened fs t user seen.ino path
        (sorted_once_has nat_list_cmp_total exact_bytes path (opened_paths fs t user seen.ino) opened) in
        (r.0, r.1, r.2, r.4)
