-- A store whose content can't be opened.
use Rattle.std.proofs.Common.{List, Option, None, Some}
use Rattle.std.specs.Prelude.{IfSome}
use Rattle.wu_outside.specs.Content.{Content}
use Rattle.wu_outside.specs.declared.ranges.ReadRange.{ReadRange}
use Rattle.wu_options.specs.declared.command_lines.Settings.{Settings}
use Rattle.wu_engine.specs.Opening.{Opens}

-- it was opened, so nothing is to be shown
pub shut-opened : (T : Type 0) (holds : Option Content) (read : List ReadRange) → IfSome holds (λ content. Opens content read)
    → IfSome holds (λ content. ((other : List ReadRange) → Opens content other → ⊥) → T)
shut-opened T None read opens = tt
shut-opened T (Some content) read opens = λ shut. absurd (shut read opens)

pub shut-told : (T : Type 0) (holds : Option Content) → T
    → IfSome holds (λ content. ((other : List ReadRange) → Opens content other → ⊥) → T)
shut-told T None so = tt
shut-told T (Some content) so = λ shut. so

-- the same, whatever the arguments are
pub shut-unread : (T : Type 0) (settings : Option Settings) (holds : Option Content) → T
    → IfSome settings (λ told. IfSome holds (λ content. ((other : List ReadRange) → Opens content other → ⊥) → T))
shut-unread T None holds so = tt
shut-unread T (Some told) holds so = shut-told T holds so
