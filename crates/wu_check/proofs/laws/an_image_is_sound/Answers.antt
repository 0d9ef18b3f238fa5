use Rattle.wu_check.proofs.SoundImages.{image_sound}
use Rattle.wu_check.proofs.laws.an_image_is_sound.Goals as goal

pub returns : goal.returns
returns c content tree texts layout is_file image rules = image_sound content tree texts layout is_file image rules
