use Rattle.std.proofs.Common.{◌≡◌, ◌-◌, ◌∙◌, ℕ, true, false, sym, ap, List, [], arith}
use Rattle.std.specs.Prelude.{◌&&◌, map}
use Rattle.std.specs.List.{list_any}
use Rattle.std.proofs.lemmas.Bool.{and_from}
use Rattle.wu_tree.specs.FileSystems.{is_directory, entries_of}
use Rattle.wu_tree.specs.Paths.{reaches}
use Rattle.wu_tree.proofs.PathsDown.{reaches-zero, reaches-suc, children_named, no_first, no_second, any_first, any_skip}
use Rattle.wu_tree.proofs.trees.Tree.+reaches.Goals.{else-is_directory-via-then-is_directory+else-reaches}
use Rattle.wu_tree.proofs.trees.Tree.+reaches.Goals.{else-is_directory-via-else-is_directory}
use Rattle.wu_tree.proofs.LowDirectories.{too_low}
use Rattle.wu_tree.proofs.trees.Tree.+reaches.Goals as goal

pub returns-then-levels-eq0 : goal.returns-then-levels-eq0
returns-then-levels-eq0 t c = sym (reaches-zero c.args.self.now c.args.levels c.args.directory c.if-levels-eq0.true)

pub returns-in_default : goal.returns-in_default
returns-in_default t c =
    let none : entries_of c.args.self.now.links c.args.directory ≡ [] = c.in_default.ensures in
    sym (reaches-suc c.args.self.now c.args.levels c.args.directory c.if-levels-eq0.false
    ∙ ap (λ (l : List (List ℕ × ℕ)). list_any
    (λ child. is_directory c.args.self.now child && reaches c.args.self.now (c.args.levels - 1) child) (map (λ e. e.1) l)) none)

pub loop-child-init : goal.loop-child-init
loop-child-init t c =
    reaches-suc c.args.self.now c.args.levels c.args.directory c.if-levels-eq0.false
    ∙ ap (list_any (λ child. is_directory c.args.self.now child && reaches c.args.self.now (c.args.levels - 1) child))
    (sym (children_named c.args.self.now.links c.args.directory c.in-Some.names.now.entries c.in-Some.ensures)
    ∙ sym (c.into_iter-child-iterator.ensures.into_iter_gives ∙ c.values-child-items.ensures.rest))

pub returns-then-reaches : goal.returns-then-reaches
returns-then-reaches t c =
    let test = λ (child : ℕ). is_directory c.args.self.now child && reaches c.args.self.now (c.args.levels - 1) child in
    let met : test c.in-Some-child.child.now ≡ true = and_from _ _ (sym c.if-is_directory.ensures) (sym c.if-reaches.ensures) in
    sym (c.loop-child.invariant ∙ ap (list_any test) c.in-Some-child.ensures.steps
    ∙ any_first test c.in-Some-child.child.now c.next.new.self met)

pub loop-child-preserved : goal.loop-child-preserved
loop-child-preserved t c =
    let test = λ (child : ℕ). is_directory c.args.self.now child && reaches c.args.self.now (c.args.levels - 1) child in
    let missed : test c.in-Some-child.child.now ≡ false =
    elim c.else-is_directory.branch [
      | else-is_directory-via-then-is_directory+else-reaches w ↦ no_second _ _ (sym w.reaches.ensures ∙ w.if-reaches.false)
      | else-is_directory-via-else-is_directory w ↦ no_first _ _ (sym c.is_directory.ensures ∙ w.if-is_directory.false)
    ]
    in
    c.loop-child.invariant ∙ ap (list_any test) c.in-Some-child.ensures.steps
    ∙ any_skip test c.in-Some-child.child.now c.next.new.self missed

pub returns : goal.returns
returns t c =
    let test = λ (child : ℕ). is_directory c.args.self.now child && reaches c.args.self.now (c.args.levels - 1) child in
    sym (c.loop-child.invariant ∙ ap (list_any test) c.in-None.ensures.steps.0)

-- the directory is too low
pub returns-then-from-levels : goal.returns-then-from-levels
returns-then-from-levels t c =
    sym (too_low c.self.inside.inodes.entries c.self.inside.links c.self.inside.users.entries c.self.inside.acls.entries c.self.invariant
    c.args.self.now c.self.view_is c.args.levels c.args.directory c.requires.levels (omega arith))
