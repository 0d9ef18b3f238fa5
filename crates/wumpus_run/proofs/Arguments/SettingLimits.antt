-- The settings of a session are within their limits.
use Rattle.std.proofs.Common.{◌≡◌, ℕ, ◌≤◌, Bool, true, false, List, [], ◌∷◌, Option, Some, None, refl, sym, ap, ◌∙◌, subst, arith, IfSome}
use Rattle.std.specs.Prelude.{◌&&◌, nat_le, codes, option_map, option_and_then, if◌then◌else◌}
use Rattle.std.specs.Str.{bytes_eq}
use Rattle.std.specs.Str.Parse.{digits_value}
use Rattle.std.proofs.lemmas.Bool.{and_parts, leb-true}
use Rattle.wu_base.specs.declared.limits.TheConstants.{INPUT_MAX}
use Rattle.wu_fields.specs.Numbers.{is_plain_numeral, number_of}
use Rattle.wu_options.specs.declared.command_lines.CommandLine.{CommandLine}
use Rattle.wu_options.specs.declared.command_lines.CommandLine.TheVariants.{Run, Demo, Check}
use Rattle.wu_options.specs.declared.command_lines.Settings.{Settings}
use Rattle.wumpus_run.specs.Session.{session_settings, settings_of}
use Rattle.wu_options.specs.CommandLines.{Said, at_least, number_in, settings_with, settings_by, asked_by, command_line_by}
use Rattle.wu_options.specs.CommandLines.{check_by, command_line_of, demo_by, said_from, without_options}

number_within : (field : List ℕ) (most : ℕ) → IfSome (number_of field most) (λ n. n ≤ most)
unfolding number_of
number_within field most = by_test (is_plain_numeral field && nat_le (digits_value 10 field) most) refl
  where
    by_test : (b : Bool) → (is_plain_numeral field && nat_le (digits_value 10 field) most) ≡ b
        → IfSome (if b then Some (digits_value 10 field) else None) (λ n. n ≤ most)
    by_test true is = leb-true (digits_value 10 field) most (and_parts (is_plain_numeral field) (nat_le (digits_value 10 field) most) is).1
    by_test false is = tt

least_within : (least most : ℕ) (number : Option ℕ) → IfSome number (λ n. n ≤ most) → IfSome (at_least least number) (λ n. n ≤ most)
least_within least most None within = tt
least_within least most (Some n) within = by_test (nat_le least n)
  where
    by_test : (b : Bool) → IfSome (if b then Some n else None) (λ n. n ≤ most)
    by_test true = within
    by_test false = tt

option_within : (least most default : ℕ) (values : List (List ℕ)) → default ≤ most
    → IfSome (number_in least most default values) (λ n. n ≤ most)
option_within least most default [] within = within
option_within least most default (value ∷ []) within = least_within least most (number_of value most) (number_within value most)
option_within least most default (value ∷ other ∷ more) within = tt

-- a session's input has at most INPUT_MAX bytes
abbrev IsWithin : CommandLine → Type 0
IsWithin (Run settings) = settings.max_input ≤ INPUT_MAX
IsWithin (Demo number) = Unit {0}
IsWithin Check = Unit {0}

run_within : (max flush_at : Option ℕ) → IfSome max (λ n. n ≤ INPUT_MAX)
    → IfSome (option_map Run (settings_with max flush_at)) IsWithin
run_within None flush_at within = tt
run_within (Some n) None within = tt
run_within (Some n) (Some count) within = within

demo_within : (number : Option ℕ) → IfSome (option_map Demo number) IsWithin
demo_within None = tt
demo_within (Some number) = tt

check_within : (max_inputs flushes : List (List ℕ)) → IfSome (without_options max_inputs flushes (Some Check)) IsWithin
check_within [] [] = tt
check_within [] (value ∷ more) = tt
check_within (value ∷ more) flushes = tt

asked_within : (said : Said) (words : List (List ℕ)) → IfSome (asked_by said words) IsWithin
asked_within said [] = tt
asked_within said (command ∷ []) = by_test (bytes_eq command (codes "run")) (bytes_eq command (codes "check"))
  where
    by_test : (b c : Bool)
        → IfSome (if b then option_map Run (settings_by said) else if c then check_by said else None) IsWithin
    by_test true c =
        run_within (number_in 0 INPUT_MAX INPUT_MAX said.max_inputs) _ (option_within 0 INPUT_MAX INPUT_MAX said.max_inputs (omega arith))
    by_test false true = check_within said.max_inputs said.flushes
    by_test false false = tt
asked_within said (command ∷ number ∷ []) = by_test (bytes_eq command (codes "demo"))
  where
    by_test : (b : Bool) → IfSome (if b then option_map Demo (demo_by said number) else None) IsWithin
    by_test true = demo_within (demo_by said number)
    by_test false = tt
asked_within said (command ∷ number ∷ other ∷ more) = tt

line_within : (said : Option Said) → IfSome (option_and_then command_line_by said) IsWithin
line_within None = tt
line_within (Some said) = asked_within said said.words

settings_within : (arguments : List (List ℕ)) → IfSome (command_line_of arguments) IsWithin
unfolding command_line_of
settings_within arguments = line_within (said_from None arguments)

-- so has that of a session that was asked for
pub input_within : (line : Option CommandLine) (arguments : List (List ℕ)) (settings : Settings) → line ≡ Some (Run settings)
    → line ≡ command_line_of arguments → settings.max_input ≤ INPUT_MAX
input_within line arguments settings is said = subst (λ line. IfSome line IsWithin) (sym said ∙ is) (settings_within arguments)

pub settings_asked : (line : Option CommandLine) (arguments : List (List ℕ)) (settings : Settings) → line ≡ Some (Run settings)
    → line ≡ command_line_of arguments → settings_of arguments ≡ Some settings
settings_asked line arguments settings is said = ap (option_and_then session_settings) (sym said ∙ is)
