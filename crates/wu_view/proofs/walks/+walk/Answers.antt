use Rattle.std.proofs.Common.{rules, ◌≡◌, ◌-◌, ◌<◌, ◌++◌, List, [], ap, sym, ◌∙◌, arith}
use Rattle.std.specs.Prelude.{map}
use Rattle.std.specs.Map.Iter.{deref_pair}
use Rattle.std.proofs.lemmas.List.{append-nil}
use Rattle.std.proofs.lemmas.Map.Iter.{iter_end}
use Rattle.wu_tree.specs.FileSystems.{entries_of}
use Rattle.wu_view.specs.Walks.{Found, found_in, walked}
use Rattle.wu_view.proofs.WalkSteps.{walked-zero, walked-suc, walked-none, by_value, by_reference, shown}
use Rattle.wu_view.proofs.walks.+walk.Goals as goal

pub returns-then-depth-eq0-clause-files : goal.returns-then-depth-eq0-clause-files
returns-then-depth-eq0-clause-files t c =
    let n : walked c.args.walker.now.tree c.args.walker.now.user c.args.depth c.args.directory c.args.path.now.items
    ≡ [] = walked-zero c.args.walker.now.tree c.args.walker.now.user c.args.depth c.args.directory c.args.path.now.items c.if-depth-eq0.true in
    sym (append-nil c.args.files.now.items) ∙ ap (λ (l : List Found). c.args.files.now.items ++ l) (sym n)

pub returns-in_default-clause-files : goal.returns-in_default-clause-files
returns-in_default-clause-files t c =
    let h : entries_of c.args.walker.now.tree.links c.args.directory ≡ [] = c.in_default.ensures in
    let n : walked c.args.walker.now.tree c.args.walker.now.user c.args.depth c.args.directory c.args.path.now.items
    ≡ [] = walked-none c.args.walker.now.tree c.args.walker.now.user c.args.depth c.args.directory c.args.path.now.items h in
    sym (append-nil c.args.files.now.items) ∙ ap (λ (l : List Found). c.args.files.now.items ++ l) (sym n)

pub returns-clause-files : goal.returns-clause-files
returns-clause-files t c =
    let e : map deref_pair c.loop-name.yielded ≡ c.in-Some.names.now.entries = search (rules, iter_end) in
    let h : map by_value c.in-Some.names.now.entries ≡ entries_of c.args.walker.now.tree.links c.args.directory = c.in-Some.ensures in
    let s : map by_reference c.loop-name.yielded ≡ entries_of c.args.walker.now.tree.links c.args.directory = sym (shown c.loop-name.yielded)
    ∙ ap (map by_value) e ∙ h in
    let l : 0 < c.args.depth = omega arith in
    c.loop-name.invariant.files
    ∙ ap (λ (l : List Found). c.args.files.now.items ++ l)
    (ap (found_in c.args.walker.now.tree c.args.walker.now.user (walked c.args.walker.now.tree c.args.walker.now.user (c.args.depth - 1)) c.args.path.now.items) s
    ∙ sym (walked-suc c.args.walker.now.tree c.args.walker.now.user c.args.depth c.args.directory c.args.path.now.items l))
