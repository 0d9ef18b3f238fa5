use Rattle.std.proofs.Common.{◌<◌, ◌∙◌, ◌++◌, List, ℕ, ap, append_assoc, arith, sym}
use Rattle.std.proofs.lemmas.List.{append-nil}
use Rattle.wu_view.specs.LinkLists.{path_at, paths_of_directories}
use Rattle.wu_view.proofs.KeptPaths.{none_there, path_alone, path_below, root_is}
use Rattle.wu_view.proofs.links.+put_directory.Goals as goal

pub returns-then-directory-eq0 : goal.returns-then-directory-eq0
returns-then-directory-eq0 t c =
    c.in_ok-push.ensures.items
    ∙ ap (λ (l : List ℕ). c.args.path.now.items ++ l)
    (sym (root_is c.args.directories.now)
    ∙ ap (λ k. path_at (paths_of_directories c.args.directories.now) k) (sym c.if-directory-eq0.true))

pub returns-in_default : goal.returns-in_default
returns-in_default t c =
    let z : 0 < c.args.directory = omega arith in
    sym (append-nil c.args.path.now.items)
    ∙ ap (λ (l : List ℕ). c.args.path.now.items ++ l)
    (sym (none_there c.args.directories.now c.args.directory z c.in_default.ensures.lookup.3))

pub returns-then-last-directory : goal.returns-then-last-directory
returns-then-last-directory t c =
    let z : 0 < c.args.directory = omega arith in
    c.in_ok-extend_from_slice.ensures.items
    ∙ ap (λ (l : List ℕ). l ++ c.as_slice.result.now) c.in_ok-put_directory.ensures
    ∙ append_assoc c.args.path.now.items (path_at (paths_of_directories c.args.directories.now) c.in-Some.last.now.parent)
    c.as_slice.result.now
    ∙ ap
    (λ (l : List ℕ). c.args.path.now.items ++ (path_at (paths_of_directories c.args.directories.now) c.in-Some.last.now.parent ++ l))
    c.as_slice.ensures
    ∙ ap (λ (l : List ℕ). c.args.path.now.items ++ l)
    (sym (path_below c.args.directories.now c.args.directory c.in-Some.last.now z c.in-Some.ensures.lookup.3.0
    c.in-Some.ensures.lookup.1 c.if-last-directory.true))

pub returns : goal.returns
returns t c =
    let z : 0 < c.args.directory = omega arith in
    c.in_ok-extend_from_slice-2.ensures.items
    ∙ ap (λ (l : List ℕ). c.args.path.now.items ++ l)
    (c.as_slice-2.ensures
    ∙ sym (path_alone c.args.directories.now c.args.directory c.in-Some.last.now z c.in-Some.ensures.lookup.3.0
    c.in-Some.ensures.lookup.1 c.if-last-directory.false))
