use Rattle.wu_image.proofs.ItemLemmas.{list_appended}
use Rattle.wu_image.proofs.writing.put_list.Goals as goal

pub returns : goal.returns
returns c = λ items s. list_appended _ _ _ _ c.args.count items c.in_ok-put_numbers.ensures c.in_ok-extend_from_slice.ensures.items s
