-- How the reader of command lines reads the words: as the definition does.
pub mod BuiltCommand
pub mod MatchedRows
pub mod WordLooks
pub mod WalkSteps
pub mod SeenRows
pub mod Prefixes
pub mod Verdicts
use Rattle.std.proofs.Common.{◌≡◌, ◌∙◌, Bool, cond, codes, true, false, refl, sym, ap, subst, List, [], ◌∷◌, Option, Some, None}
use Rattle.std.proofs.Math.Bool.{or-true}
use Rattle.std.specs.Prelude.{unwrap_or}
use Rattle.std.specs.List.{list_all}
use Rattle.std.specs.Option.{option_to_list}
use Rattle.clap.specs.Words.{App, Row, Rule, Text, rows_of, is_simple, matches_of}
use Rattle.clap.specs.Walk.{Held, finished, is_empty, nothing_held, walk, with_default, idle, settled_rows, has_row}
use Rattle.clap.specs.Kinds.{IsAmong, Kinds, or_else}
use Rattle.clap.specs.Faults.{check_fault, default_fault, defaults_fault, entered_fault, fault_of, is_simple_and_free}
use Rattle.clap.specs.declared.error.kind.ErrorKind.{ErrorKind}
use Rattle.clap.proofs.WalkLemmas.{first_value-rows, raw_values-rows}
use Rattle.clap.specs.declared.parser.matches.Found.{Found}
use Rattle.wu_options.specs.declared.command_lines.CommandLine.{CommandLine}
use Rattle.wu_options.specs.CommandLines.{max_input, flush, command_line_of, command_line_by}
use Rattle.wu_options.specs.Parser.{command_app, said_in}
use Rattle.wu_options.proofs.OptionLemmas.BuiltCommand.{built_words, rule_for, rules_built, shape_built, app_built, held}
use Rattle.wu_options.proofs.OptionLemmas.WordLooks.{split_and, refused}
use Rattle.wu_options.proofs.OptionLemmas.WalkSteps.{state, or_else_none}
use Rattle.wu_options.proofs.OptionLemmas.SeenRows.{Seen}
use Rattle.wu_options.proofs.OptionLemmas.Verdicts.{faults_from, rows_from, said_of, Agrees, all_meet}

pub no_entry : (stop : Option (Text × List Text)) → entered_fault app_built stop ≡ []
no_entry None = refl
no_entry (Some p) = refl

pub same_either : {X : Type 0} (b : Bool) (x : X) → cond b x x ≡ x
same_either true x = refl
same_either false x = refl

pub no_defaults : (rules : List Rule) → list_all (λ a. is_empty a.defaults) rules ≡ true → (rows : List Row)
    → defaults_fault rows rules ≡ []
unfolding defaults_fault
no_defaults [] e rows = refl
no_defaults (a ∷ rules) e rows =
    let parts = split_and (is_empty a.defaults) _ e in
    let first : default_fault rows a ≡ [] = rw (parts.0, or-true (has_row a.id rows)) refl in
    ap (λ (kinds : Kinds). or_else kinds (defaults_fault (with_default rows a) rules)) first
    ∙ no_defaults rules parts.1 (with_default rows a)

pub no_check : (rows : List Row) (b : Bool) → check_fault shape_built rows b ≡ []
no_check rows true = refl
no_check rows false = refl

pub all_passes : (a b c d e : Kinds) → b ≡ [] → d ≡ [] → e ≡ [] → or_else a (or_else b (or_else c (or_else d e))) ≡ or_else a c
all_passes a b c d e none_b none_d none_e =
    (λ i. or_else a (or_else (none_b i) (or_else c (or_else (none_d i) (none_e i))))) ∙ ap (or_else a) (or_else_none c)

pub faults_are : (words : List Text) → fault_of command_app words ≡ faults_from (state [] None idle false) words
faults_are words = all_passes _ _ _ _ _ (no_entry _) (no_defaults rules_built refl _)
    (no_check (finished rules_built (walk rules_built [] nothing_held words).held) _)

pub finished_as : (h : Held) → finished rules_built h ≡ settled_rows rules_built h.pending h.rows
finished_as h =
    let rows = settled_rows rules_built h.pending h.rows in
    let one : with_default rows (rule_for max_input) ≡ rows = same_either (has_row (codes "max-input") rows) rows in
    let two : with_default rows (rule_for flush) ≡ rows = same_either (has_row (codes "flush") rows) rows in
    let three : with_default rows built_words ≡ rows = same_either (has_row (codes "words") rows) rows in
    ap (λ r. with_default (with_default r (rule_for flush)) built_words) one ∙ ap (λ r. with_default r built_words) two ∙ three

pub rows_found : (words : List Text) → matches_of command_app words ≡ rows_from (state [] None idle false) words
rows_found words = finished_as (walk rules_built [] nothing_held words).held

pub nothing_seen : Seen
nothing_seen = record { most = None; flushed = None; words = [] }

pub agrees : (words : List Text) → Agrees (fault_of command_app words) (matches_of command_app words) (command_line_of words)
unfolding command_line_of nothing_seen
agrees words =
    let m = (all_meet words).0 nothing_seen [] None idle tt refl (refl, refl, refl) in
    subst (λ (kinds : Kinds). Agrees kinds (matches_of command_app words) (command_line_of words)) (sym (faults_are words))
    (subst (λ (rows : List Row). Agrees (faults_from (state [] None idle false) words) rows (command_line_of words))
    (sym (rows_found words)) m)

-- ---- what a parse tells

pub said_is : (found : Found) → said_in found ≡ said_of (rows_of found)
said_is found = λ i. record {
  max_inputs = option_to_list (first_value-rows found (codes "max-input") i);
  flushes = option_to_list (first_value-rows found (codes "flush") i);
  words = unwrap_or (raw_values-rows found (codes "words") i) [];
}

pub agrees_without : (kinds : Kinds) (rows : List Row) (line : Option CommandLine) → kinds ≡ [] → Agrees kinds rows line
    → command_line_by (said_of rows) ≡ line
agrees_without [] rows line none a = a
agrees_without (k ∷ ks) rows line none a = cc

pub agrees_among : (kinds : Kinds) (rows : List Row) (line : Option CommandLine) (k : ErrorKind) → IsAmong k kinds → Agrees kinds rows line
    → line ≡ None
agrees_among [] rows line k among a = absurd among
agrees_among (x ∷ xs) rows line k among a = a

-- the words of a parse that succeeds give what was found
pub found_line : (app : App) (words : List Text) (found : Found) → app ≡ command_app → fault_of app words ≡ []
    → rows_of found ≡ matches_of app words
    → command_line_by (said_in found) ≡ command_line_of words
found_line app words found same none rows =
    ap command_line_by (said_is found ∙ ap said_of (rows ∙ ap (λ (a : App). matches_of a words) same))
    ∙ agrees_without (fault_of command_app words) (matches_of command_app words) (command_line_of words)
    (ap (λ (a : App). fault_of a words) (sym same) ∙ none) (agrees words)

-- and words that are refused are invalid
pub no_line : (app : App) (words : List Text) (k : ErrorKind) → app ≡ command_app → IsAmong k (fault_of app words)
    → None ≡ command_line_of words
no_line app words k same among =
    sym (agrees_among (fault_of command_app words) (matches_of command_app words) (command_line_of words) k
    (subst (λ (a : App). IsAmong k (fault_of a words)) same among) (agrees words))

pub is_simple_command : is_simple command_app ≡ true
is_simple_command = refl

pub is_free_command : is_simple_and_free command_app ≡ true
is_free_command = refl
