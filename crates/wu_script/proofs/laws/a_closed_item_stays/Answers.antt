use Rattle.wu_script.proofs.ItemListLemmas.{first_more}
use Rattle.wu_script.proofs.laws.a_closed_item_stays.Goals as goal

pub returns : goal.returns
returns c = first_more
