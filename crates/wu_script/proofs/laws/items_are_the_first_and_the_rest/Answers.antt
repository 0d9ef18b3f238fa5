use Rattle.wu_script.proofs.ItemListLemmas.{items_of-none, items_of-some}
use Rattle.wu_script.proofs.laws.items_are_the_first_and_the_rest.Goals as goal

pub returns-clause-none : goal.returns-clause-none
returns-clause-none c = items_of-none

pub returns-clause-some : goal.returns-clause-some
returns-clause-some c = items_of-some
