use Rattle.wu_check.proofs.OneState.{one_image}
use Rattle.wu_check.proofs.laws.an_image_is_of_one_state.Goals as goal

pub returns : goal.returns
returns c content tree other_tree texts other_texts layout other_layout one other is its =
    one_image content tree other_tree texts other_texts layout other_layout one other is its
