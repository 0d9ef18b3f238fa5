use Rattle.wu_script.proofs.ItemListLemmas.{whole_items_of-none, whole_items_of-closed}
use Rattle.wu_script.proofs.UnclosedLemmas.{open_none}
use Rattle.wu_script.proofs.laws.whole_items_are_the_first_and_the_rest.Goals as goal

pub returns-clause-none : goal.returns-clause-none
returns-clause-none c = whole_items_of-none

pub returns-clause-unclosed : goal.returns-clause-unclosed
returns-clause-unclosed c = open_none

pub returns-clause-closed : goal.returns-clause-closed
returns-clause-closed c = whole_items_of-closed
