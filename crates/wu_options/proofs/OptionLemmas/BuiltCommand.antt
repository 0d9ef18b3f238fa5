-- The command, as the reader of command lines builds it.
use Rattle.std.proofs.Common.{◌≡◌, ℕ, codes, true, refl, List, [], ◌∷◌, Option, Some}
use Rattle.clap.specs.Words.{App, Row, Rule, Text, new_rule, built}
use Rattle.clap.specs.Walk.{Held}
use Rattle.clap.specs.Simple.{Shape, new_shape}
use Rattle.clap.specs.Kinds.{Kinds}
use Rattle.clap.specs.declared.error.kind.ErrorKind.{ErrorKind}
use Rattle.clap.specs.declared.builder.action.ArgAction.TheVariants.{Set, Append}
use Rattle.clap.specs.declared.builder.value_parser.ValueParser.TheVariants as vp
use Rattle.wu_options.specs.CommandLines.{Key, max_input, flush}
use Rattle.wu_options.specs.Parser.{command_app}

abbrev pub built_option : Text → Rule
built_option name = record (new_rule name) {
  long = Some name;
  action = Some Set;
  range = Some (record { start_inclusive = 1; end_inclusive = 1 });
  parser = Some vp.String;
}

abbrev pub built_words : Rule
built_words = record (new_rule (codes "words")) {
  index = Some 1;
  action = Some Append;
  range = Some (record { start_inclusive = 1; end_inclusive = 1 });
  parser = Some vp.String;
}

abbrev pub name_of : Key → Text
name_of max_input = codes "max-input"
name_of flush = codes "flush"

abbrev pub rule_for : Key → Rule
rule_for key = built_option (name_of key)

abbrev pub rules_built : List Rule
rules_built = rule_for max_input ∷ rule_for flush ∷ built_words ∷ []

abbrev pub shape_built : Shape
shape_built = record (new_shape (codes "wumpus")) {
  rules = rules_built;
  no_binary_name = true;
  disable_help_flag = true;
  disable_help_subcommand = true;
  disable_version_flag = true;
  is_built = true;
}

abbrev pub app_built : App
app_built = record { top = shape_built; subs = [] }

pub command_built : built command_app ≡ app_built
command_built = refl

-- what follows is said of a state before the word in which nothing but this is held
abbrev pub held : List Row → Option (Text × List Text) → Held
held rows pending = record { rows = rows; pending = pending; skip = 0 }

abbrev pub Fails : Kinds → Type 0
Fails kinds = (k : ErrorKind) × (ks : Kinds) × (kinds ≡ k ∷ ks)

-- the word begins with a hyphen and is longer
abbrev pub IsHyphened : Text → Type 0
IsHyphened word = (x : ℕ) × (xs : Text) × (word ≡ 45 ∷ x ∷ xs)
