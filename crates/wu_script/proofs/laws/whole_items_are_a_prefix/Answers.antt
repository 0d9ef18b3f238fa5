use Rattle.wu_script.proofs.ItemListLemmas.{whole_items_prefix, whole_items_more}
use Rattle.wu_script.proofs.laws.whole_items_are_a_prefix.Goals as goal

pub returns-clause-items : goal.returns-clause-items
returns-clause-items c = whole_items_prefix

pub returns-clause-whole : goal.returns-clause-whole
returns-clause-whole c = whole_items_more
