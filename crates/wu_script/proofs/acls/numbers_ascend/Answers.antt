use Rattle.std.proofs.Common.{rules}
use Rattle.std.specs.Prelude.{nat_lt}
use Rattle.std.specs.Cmp.{nat_cmp_total}
use Rattle.std.proofs.lemmas.List.Sorted.{answers_always}
use Rattle.wu_tree.proofs.ListTests.{sorted_answer, less_is}
use Rattle.wu_script.specs.declared.acls.Piece.{Piece}
use Rattle.wu_script.proofs.acls.numbers_ascend.Goals as goal

pub returns : goal.returns
returns c =
    sorted_answer nat_cmp_total (λ (p : Piece). p.entry.id) (λ (a b : Piece). nat_lt a.entry.id b.entry.id)
    (λ a b. less_is a.entry.id b.entry.id) c.args.pieces.now c.is_sorted_by.result
    (c.is_sorted_by.ensures.cases (λ (a b : Piece). nat_lt a.entry.id b.entry.id) (answers_always _ _ _ (λ f a r g k. search rules)))
