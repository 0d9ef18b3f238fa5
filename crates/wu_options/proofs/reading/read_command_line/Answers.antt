use Rattle.std.proofs.Common.{ap, ◌∙◌, inl, inr, map}
use Rattle.clap.specs.Words.{app_of, found_of, is_simple, kind_of}
use Rattle.clap.specs.Faults.{is_simple_and_free}
use Rattle.wu_options.proofs.OptionLemmas.{found_line, no_line, is_simple_command, is_free_command}
use Rattle.wu_options.proofs.reading.read_command_line.Goals as goal

pub returns-in-Ok : goal.returns-in-Ok
returns-in-Ok c =
    let is = c.in_ok-command.ensures in
    c.command_line_in.ensures
    ∙ found_line (app_of c.in_ok-command.command) (map (λ argument. argument.now) c.args.arguments.now) (found_of c.in-Ok.matches) is
    (c.in-Ok.ensures.kinds (ap is_simple_and_free is ∙ is_free_command)) (c.in-Ok.ensures.matches (ap is_simple is ∙ is_simple_command)).0

pub returns : goal.returns
returns c =
    let is = c.in_ok-command.ensures in
    elim (c.in-Err.ensures.kinds (ap is_simple_and_free is ∙ is_free_command)) [
      | inl memory ↦ absurd (c.in_default.not-OutOfMemory (c.kind.ensures ∙ memory))
      | inr among ↦ no_line (app_of c.in_ok-command.command) (map (λ argument. argument.now) c.args.arguments.now)
          (kind_of c.in-Err.error) is among
    ]
