-- What a checker calls sound is an image of one state.
use Rattle.std.proofs.Common.{◌≡◌, ap, ◌∙◌}
use Rattle.std.specs.Prelude.{Some}
use Rattle.wu_outside.specs.Content.{Content}
use Rattle.wu_layout.specs.Layouts.{Layout}
use Rattle.wu_tree.specs.FileSystems.{FileSystem}
use Rattle.wu_check.specs.Imaged.{AreOfOneState}
use Rattle.wu_check.specs.Wrong.{IsSound}
use Rattle.wu_check.specs.declared.checking.Checked.{Checked}
use Rattle.wu_check.proofs.OneState.{one_image}
use Rattle.wu_check.proofs.SoundStates.{image_of_sound}
use Rattle.wu_query.specs.States.{IsState, State, Texts}
use Rattle.wu_engine.specs.Opening.{HoldsImage}
use Rattle.wu_engine.specs.Reports.{stat_of}
use Rattle.wumpus_run.specs.Checks.{IsImageOfOne, sound_with}

as_state : (tree : FileSystem) (texts : Texts) (layout : Layout) → AreOfOneState tree texts layout
    → IsState (record { tree = tree; texts = texts; layout = layout })
as_state tree texts layout one = record {
  tree = one.rules;
  texts = record { ascend = one.ascend; files = one.of_files };
  short = one.short;
  layout = one.indexed;
}

of_one : (s : State) → IsState s → AreOfOneState s.tree s.texts s.layout
of_one s is = record {
  rules = is.tree;
  ascend = is.texts.ascend;
  of_files = is.texts.files;
  short = is.short;
  indexed = is.layout;
}

-- a content is an image of one state at most
pub one_state : (content : Content) (s other : State) → HoldsImage (Some content) s → HoldsImage (Some content) other → other ≡ s
one_state content s other image its =
    let same =
    one_image content other.tree s.tree other.texts s.texts other.layout s.layout (of_one other its.0) (of_one s image.0) its.1 image.1 in
    let make : FileSystem → Texts → Layout → State = λ t x l. record { tree = t; texts = x; layout = l } in
    ap (λ t. make t other.texts other.layout) same.0
    ∙ (ap (λ x. make s.tree x other.layout) same.1 ∙ ap (λ l. make s.tree s.texts l) same.2)

pub state_of_sound : (content : Content) (counts : Checked) → IsSound content counts
    → (s : State) × IsImageOfOne content s × (counts ≡ sound_with (stat_of s))
state_of_sound content counts sound =
    let found = image_of_sound content counts sound in
    let s : State = record { tree = found.0; texts = found.1; layout = found.2 } in
    let image : HoldsImage (Some content) s = (as_state found.0 found.1 found.2 found.4, found.3) in
    (s, record { image = image; alone = λ other its. one_state content s other image its }, found.5)
