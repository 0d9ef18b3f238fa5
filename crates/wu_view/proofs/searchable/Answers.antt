use Rattle.std.proofs.Common.{◌≡◌, ◌∙◌, ap, sym, subst, ℕ, List}
use Rattle.std.specs.Prelude.{map}
use Rattle.std.specs.List.Sorted.{IsStrictlySortedBy}
use Rattle.std.specs.Ordering.{nat_cmp}
use Rattle.std.specs.BTreeMap.{get}
use Rattle.wu_access.specs.declared.UserRec.{UserRec}
use Rattle.wu_tree.specs.FileSystems.{FileSystem}
use Rattle.wu_view.specs.declared.Seen.{Seen}
use Rattle.wu_base.specs.SortedOnce.{sorted_once}
use Rattle.wu_view.specs.Views.{least_path, path_cmp, seen_cmp, view_for, view_of}
use Rattle.wu_view.specs.Walks.{Found, walked_whole}
use Rattle.wu_view.specs.Groups.{paths_of, unless_empty}
use Rattle.wu_view.proofs.ShownFiles.{seen_exact, view_is}
use Rattle.wu_view.proofs.LeastPaths.{by_least_path}
use Rattle.wu_view.proofs.searchable.Goals as goal

pub sorted_once-view-requires : goal.sorted_once-view-requires
sorted_once-view-requires c = record { exact = seen_exact }

pub returns : goal.returns
unfolding view_of
returns c =
    let user : UserRec = c.in_ok-walker.walker.user in
    let paths : (ino : ℕ) → get nat_cmp c.in_ok-files.files ino ≡ unless_empty (paths_of ino (walked_whole c.args.tree.now user)) =
    λ ino. c.in_ok-files.ensures.paths ino ∙ ap (λ (l : List Found). unless_empty (paths_of ino l))
    (c.in_ok-found.ensures ∙ ap (λ (fs : FileSystem). walked_whole fs user) c.in_ok-walker.ensures.tree) in
    let view : c.sorted_once-view.result.items ≡ view_for c.args.tree.now user =
    c.sorted_once-view.ensures.items
    ∙ ap (λ (l : List Seen). sorted_once seen_cmp l) c.in_ok-seen.ensures
    ∙ view_is c.args.tree.now c.keeps_the_rules.ensures user c.in_ok-files.files c.in_ok-files.ensures.ordered paths in
    record {
      view = view ∙ ap (view_for c.args.tree.now) c.in_ok-walker.ensures.user;
      by_least_path = subst (λ (l : List Seen). IsStrictlySortedBy path_cmp (map least_path l)) (sym view)
          (by_least_path c.args.tree.now c.keeps_the_rules.ensures user);
    }
