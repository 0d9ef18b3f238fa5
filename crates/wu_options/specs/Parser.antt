-- The command as the parser of command lines has it, and what it found.
use Rattle.std.specs.Prelude.{ℕ, List, [], Some, codes, option_map, unwrap_or, true}
use Rattle.std.specs.Option.{option_to_list}
use Rattle.clap.specs.Words.{App, Rule, first_value, matched_of, new_app, new_rule, raw_values, with_rule}
use Rattle.clap.specs.declared.builder.action.ArgAction.TheVariants.{Set, Append}
use Rattle.clap.specs.declared.parser.matches.Found.{Found}
use Rattle.wu_options.specs.CommandLines.{Said}

abbrev pub option_rule : List ℕ → Rule
option_rule name = record (new_rule name) { long = Some name; action = Some Set }

abbrev pub words_rule : Rule
words_rule = record (new_rule (codes "words")) { action = Some Append }

-- no argument is the program's name, and there are no flags but the two options
abbrev pub bare_app : App
bare_app = let app = new_app (codes "wumpus") in record app {
  top = record app.top { no_binary_name = true; disable_help_flag = true; disable_version_flag = true };
}

abbrev pub command_app : App
command_app = with_rule (with_rule (with_rule bare_app (option_rule (codes "max-input"))) (option_rule (codes "flush"))) words_rule

-- what was found: the first value of each option, and the positional arguments
abbrev pub said_in : Found → Said
said_in found = record {
  max_inputs = option_to_list (first_value found (codes "max-input"));
  flushes = option_to_list (first_value found (codes "flush"));
  words = unwrap_or (option_map raw_values (matched_of found (codes "words"))) [];
}
