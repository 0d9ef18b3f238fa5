use Rattle.std.proofs.Common.{◌∙◌, sym, rules}
use borrow.Author.Tests.{ne_eqb}
use Rattle.wu_tree.proofs.Renames.{renamed_onto, renamed_free}
use Rattle.wu_tree.proofs.trees.Tree.move_link.Goals as goal

pub returns-in_ok-move_onto-in-Some-child-clause-next : goal.returns-in_ok-move_onto-in-Some-child-clause-next
returns-in_ok-move_onto-in-Some-child-clause-next c =
    c.in_ok-move_onto-in-Some-child.ensures.ok
    ∙ renamed_onto c.args.self.now c.args.parent c.args.name.now c.args.new_parent c.args.new_name.now c.in-Some.child
    c.in-Some-child.target (sym c.in-Some.ensures) (sym c.in-Some-child.ensures) (ne_eqb _ _ c.if-target-child.false)

pub returns-in_ok-move_to_free-in-None-clause-next : goal.returns-in_ok-move_to_free-in-None-clause-next
returns-in_ok-move_to_free-in-None-clause-next c =
    c.in_ok-move_to_free-in-None.ensures.ok
    ∙ renamed_free c.args.self.now c.args.parent c.args.name.now c.args.new_parent c.args.new_name.now c.in-Some.child
    (sym c.in-Some.ensures) (sym c.in-None.ensures)

pub move_onto-requires-clause-moves : goal.move_onto-requires-clause-moves
move_onto-requires-clause-moves c =
    record { found = search rules; directory = search rules; named = search rules; outside = search rules; shallow = search rules }

pub move_to_free-requires-clause-moves : goal.move_to_free-requires-clause-moves
move_to_free-requires-clause-moves c =
    record { found = search rules; directory = search rules; named = search rules; outside = search rules; shallow = search rules }
