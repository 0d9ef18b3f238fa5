use Rattle.std.proofs.Common.{sym, subst}
use Rattle.wu_tree.specs.FileSystems.{is_file}
use Rattle.wu_check.specs.Wrong.{IsSound}
use Rattle.wu_check.specs.declared.checking.Checked.{Checked}
use Rattle.wu_check.specs.declared.checking.Checked.TheVariants.{Broken}
use Rattle.wu_check.proofs.OneFinding.{one_finding}
use Rattle.wu_check.proofs.SoundImages.{image_sound}
use Rattle.wu_engine.specs.Reports.{stat_of}
use Rattle.wumpus_run.specs.Checks.{sound_with}
use Rattle.wumpus_run.proofs.OneImages.{state_of_sound}
use Rattle.wumpus_run.proofs.laws.a_sound_store_is_of_one_state.Goals as goal

pub returns-clause-sound : goal.returns-clause-sound
returns-clause-sound c content counts = (
  λ sound. state_of_sound content counts sound,
  λ spelled.
      let s = spelled.0 in
      let image = spelled.1.image in
      subst (λ (counted : Checked). IsSound content counted) (sym spelled.2)
      (image_sound content s.tree s.texts s.layout (is_file s.tree) image.1 image.0.layout),
)

pub returns-clause-broken : goal.returns-clause-broken
returns-clause-broken c content blob s wrong image =
    let never =
    one_finding content (sound_with (stat_of s)) (Broken blob)
    (image_sound content s.tree s.texts s.layout (is_file s.tree) image.1 image.0.layout) wrong in
    absurd cc
