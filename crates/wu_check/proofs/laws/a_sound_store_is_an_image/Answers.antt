use Rattle.wu_check.proofs.SoundStates.{image_of_sound}
use Rattle.wu_check.proofs.laws.a_sound_store_is_an_image.Goals as goal

pub returns : goal.returns
returns c content counts sound = image_of_sound content counts sound
