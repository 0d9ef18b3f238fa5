use Rattle.wu_tree.specs.FileSystems.{is_file}
use Rattle.wu_check.proofs.OneFinding.{one_finding}
use Rattle.wu_check.proofs.SoundImages.{image_sound}
use Rattle.wu_engine.specs.Reports.{stat_of}
use Rattle.wumpus_run.specs.Checks.{sound_with}
use Rattle.wumpus_run.proofs.laws.a_saved_store_is_sound.Goals as goal

pub returns-clause-sound : goal.returns-clause-sound
returns-clause-sound c content s image = image_sound content s.tree s.texts s.layout (is_file s.tree) image.1 image.0.layout

pub returns-clause-alone : goal.returns-clause-alone
returns-clause-alone c content s checked image is =
    one_finding content checked (sound_with (stat_of s)) is
    (image_sound content s.tree s.texts s.layout (is_file s.tree) image.1 image.0.layout)
