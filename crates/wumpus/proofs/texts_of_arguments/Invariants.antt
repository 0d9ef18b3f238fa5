use Rattle.std.proofs.Common.{◌≡◌, map, string_bytes, take}
use Rattle.wu_options.specs.CommandLines.{texts_of}
use Rattle.wumpus.proofs.texts_of_arguments.Given as goal

abbrev pub invariant-loop-argument : goal.invariant-loop-argument
invariant-loop-argument l = texts_of l.texts.items ≡ map string_bytes (take l.argument-index l.arguments)
