use Rattle.std.specs.Prelude.{None, Some}
use Rattle.std.proofs.lemmas.List.Elements.{same_from_all_zip}
use Rattle.wu_query.proofs.AskedTerms.{list_is}
use Rattle.wu_query.proofs.ranking.list_for.Goals as goal

pub returns-in_ok-clone-in-Some-2 : goal.returns-in_ok-clone-in-Some-2
returns-in_ok-clone-in-Some-2 c =
    list_is c.args.lists.now c.args.word.now c.in_ok-clone-in-Some.field-0 c.in_ok-clone-in-Some-2.field-0 (Some c.in-Some.list.now)
    c.in-Some.ensures c.in_ok-clone-in-Some.ensures.cases
    (same_from_all_zip _ c.in-Some.list.now.at c.in_ok-clone-in-Some-2.field-0 c.in_ok-clone-in-Some-2.ensures.cases (λ x y is. is))

pub returns-in_ok-clone-in-None : goal.returns-in_ok-clone-in-None
returns-in_ok-clone-in-None c =
    list_is c.args.lists.now c.args.word.now c.in_ok-clone-in-None.field-0 c.new.result None c.in-None.ensures
    c.in_ok-clone-in-None.ensures.cases c.new.ensures
