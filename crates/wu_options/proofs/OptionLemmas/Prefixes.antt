-- What the definition reads in a prefix of the arguments and the rest.
use Rattle.std.proofs.Common.{◌≡◌, ◌∙◌, ◌++◌, ℕ, Bool, cond, true, false, refl, sym, ap, List, [], ◌∷◌, Option, Some, None, append_assoc}
use Rattle.std.specs.Prelude.{◌^◌, ◌-◌, codes, option_map, option_and_then}
use Rattle.std.specs.Str.{bytes_eq}
use Rattle.std.specs.Option.{option_to_list}
use Rattle.clap.specs.Words.{Text}
use Rattle.wu_base.specs.declared.limits.TheConstants.{INPUT_MAX, FLUSH_DEFAULT}
use Rattle.wu_fields.specs.Numbers.{number_of}
use Rattle.wu_options.specs.declared.command_lines.CommandLine.{CommandLine}
use Rattle.wu_options.specs.CommandLines.{Key, Said, Sort, max_input, flush, at_least, asked_by, check_by, demo_by, number_in, without_options}
use Rattle.wu_options.specs.CommandLines.{said_by, said_from, command_line_by, settings_by, settings_with, sort_of, value_before}
use Rattle.wu_options.specs.CommandLines.{word_before}
use Rattle.wu_options.specs.declared.command_lines.TheConstants.{FLUSH_MAX}
use Rattle.wu_options.specs.declared.command_lines.CommandLine.TheVariants.{Run, Demo, Check}
use Rattle.wu_options.specs.declared.command_lines.Settings.{Settings}
use Rattle.wu_options.proofs.OptionLemmas.BuiltCommand.{IsHyphened}
use Rattle.wu_options.proofs.OptionLemmas.SeenRows.{Seen, given_for, word_after, value_after}

abbrev pub joined : Seen → Said → Said
joined seen said = record {
  max_inputs = option_to_list seen.most ++ said.max_inputs;
  flushes = option_to_list seen.flushed ++ said.flushes;
  words = seen.words ++ said.words;
}

abbrev pub with_said : Seen → Option Said → Option CommandLine
with_said seen said = option_and_then (λ s. command_line_by (joined seen s)) said

abbrev pub rest : Seen → Option Key → List Text → Option CommandLine
rest seen key words = with_said seen (said_from key words)

pub rest_by : (seen : Seen) (word : Text) (words : List Text) (sort : Sort) → sort_of word ≡ sort
    → rest seen None (word ∷ words) ≡ with_said seen (said_by sort word words (λ key. said_from key words))
rest_by seen word words sort e = ap (λ (x : Sort). with_said seen (said_by x word words (λ key. said_from key words))) e

pub word_joined : (seen : Seen) (word : Text) (said : Option Said)
    → with_said (word_after word seen) said ≡ with_said seen (option_map (word_before word) said)
word_joined seen word None = refl
word_joined seen word (Some s) = ap command_line_by (λ i. record {
  max_inputs = option_to_list seen.most ++ s.max_inputs;
  flushes = option_to_list seen.flushed ++ s.flushes;
  words = append_assoc seen.words (word ∷ []) s.words i;
})

pub value_joined : (key : Key) (v : Text) (seen : Seen) (said : Option Said) → given_for key seen ≡ None
    → with_said (value_after key v seen) said ≡ with_said seen (option_map (value_before key v) said)
value_joined key v seen None none = refl
value_joined max_input v seen (Some s) none = ap command_line_by (λ i. record {
  max_inputs = option_to_list (sym none i) ++ v ∷ s.max_inputs;
  flushes = option_to_list seen.flushed ++ s.flushes;
  words = seen.words ++ s.words;
})
value_joined flush v seen (Some s) none = ap command_line_by (λ i. record {
  max_inputs = option_to_list seen.most ++ s.max_inputs;
  flushes = option_to_list (sym none i) ++ v ∷ s.flushes;
  words = seen.words ++ s.words;
})

pub same_none : (b : Bool) → cond {A = Option CommandLine} b None None ≡ None
same_none true = refl
same_none false = refl

pub second_none : (max : Option ℕ) → settings_with max None ≡ None
second_none None = refl
second_none (Some m) = refl

abbrev pub number_for : Key → Said → Option ℕ
number_for max_input said = number_in 0 INPUT_MAX INPUT_MAX said.max_inputs
number_for flush said = number_in 1 FLUSH_MAX FLUSH_DEFAULT said.flushes

pub no_settings : (key : Key) (said : Said) → number_for key said ≡ None → settings_by said ≡ None
no_settings max_input said none = ap (λ o. settings_with o (number_for flush said)) none
no_settings flush said none = ap (settings_with (number_for max_input said)) none ∙ second_none (number_for max_input said)

-- the option is given
abbrev pub values_for : Key → Said → List Text
values_for max_input said = said.max_inputs
values_for flush said = said.flushes

pub no_demo : (key : Key) (said : Said) (v : Text) (more : List Text) (number : Text) → values_for key said ≡ v ∷ more
    → demo_by said number ≡ None
no_demo max_input said v more number e = rw e refl
no_demo flush said v more number e = rw e (go said.max_inputs)
  where
    go : (max_inputs : List Text) → without_options max_inputs (v ∷ more) (number_of number (2 ^ 64 - 1)) ≡ None
    go [] = refl
    go (m ∷ ms) = refl

-- so is there no check
no_check : (key : Key) (said : Said) (v : Text) (more : List Text) → values_for key said ≡ v ∷ more → check_by said ≡ None
no_check max_input said v more e = rw e refl
no_check flush said v more e = rw e (go said.max_inputs)
  where
    go : (max_inputs : List Text) → without_options max_inputs (v ∷ more) (Some Check) ≡ None
    go [] = refl
    go (m ∷ ms) = refl

alone_none : (run check : Bool) (settings : Option Settings) (line : Option CommandLine) → settings ≡ None → line ≡ None
    → cond run (option_map Run settings) (cond check line None) ≡ None
alone_none true check settings line none nothing = ap (λ (o : Option Settings). option_map Run o) none
alone_none false true settings line none nothing = nothing
alone_none false false settings line none nothing = refl

-- a bad value of an option spoils the line
pub lost_by : (key : Key) (said : Said) (v : Text) (more : List Text) → values_for key said ≡ v ∷ more → number_for key said ≡ None
    → command_line_by said ≡ None
lost_by key said v more given none = go said.words
  where
    go : (words : List Text) → asked_by said words ≡ None
    go [] = refl
    go (command ∷ []) =
        alone_none (bytes_eq command (codes "run")) (bytes_eq command (codes "check")) (settings_by said) (check_by said)
        (no_settings key said none) (no_check key said v more given)
    go (command ∷ number ∷ []) = ap (λ (o : Option ℕ). cond (bytes_eq command (codes "demo")) (option_map Demo o) None)
        (no_demo key said v more number given) ∙ same_none (bytes_eq command (codes "demo"))
    go (command ∷ number ∷ other ∷ rest) = refl

pub hyphened_number : (x : ℕ) (xs : Text) (most : ℕ) → number_of (45 ∷ x ∷ xs) most ≡ None
unfolding number_of
hyphened_number x xs most = refl

pub number_lost : (least most default : ℕ) (v : Text) (more : List Text) → IsHyphened v → number_in least most default (v ∷ more) ≡ None
number_lost least most default v [] h =
    ap (at_least least) (ap (λ (text : Text). number_of text most) h.2 ∙ hyphened_number h.0 h.1 most)
number_lost least most default v (w ∷ more) h = refl

pub lost_repeated : (key : Key) (u v : Text) (seen : Seen) (said : Option Said) → given_for key seen ≡ Some u
    → with_said seen (option_map (value_before key v) said) ≡ None
lost_repeated key u v seen None is = refl
lost_repeated max_input u v seen (Some s) is = lost_by max_input (joined seen (value_before max_input v s)) u (v ∷ s.max_inputs)
    (ap (λ o. option_to_list o ++ v ∷ s.max_inputs) is)
    (ap (λ o. number_in 0 INPUT_MAX INPUT_MAX (option_to_list o ++ v ∷ s.max_inputs)) is)
lost_repeated flush u v seen (Some s) is = lost_by flush (joined seen (value_before flush v s)) u (v ∷ s.flushes)
    (ap (λ o. option_to_list o ++ v ∷ s.flushes) is)
    (ap (λ o. number_in 1 FLUSH_MAX FLUSH_DEFAULT (option_to_list o ++ v ∷ s.flushes)) is)

pub lost_first : (key : Key) (v : Text) (seen : Seen) (said : Option Said) → given_for key seen ≡ None → IsHyphened v
    → with_said seen (option_map (value_before key v) said) ≡ None
lost_first key v seen None none h = refl
lost_first max_input v seen (Some s) none h = lost_by max_input (joined seen (value_before max_input v s)) v s.max_inputs
    (ap (λ o. option_to_list o ++ v ∷ s.max_inputs) none)
    (ap (λ o. number_in 0 INPUT_MAX INPUT_MAX (option_to_list o ++ v ∷ s.max_inputs)) none
    ∙ number_lost 0 INPUT_MAX INPUT_MAX v s.max_inputs h)
lost_first flush v seen (Some s) none h = lost_by flush (joined seen (value_before flush v s)) v s.flushes
    (ap (λ o. option_to_list o ++ v ∷ s.flushes) none)
    (ap (λ o. number_in 1 FLUSH_MAX FLUSH_DEFAULT (option_to_list o ++ v ∷ s.flushes)) none
    ∙ number_lost 1 FLUSH_MAX FLUSH_DEFAULT v s.flushes h)

-- a value that begins with a hyphen and is longer is no number
pub lost_hyphened : (key : Key) (v : Text) (seen : Seen) (said : Option Said) → IsHyphened v
    → with_said seen (option_map (value_before key v) said) ≡ None
lost_hyphened key v seen said h = go (given_for key seen) refl
  where
    go : (o : Option Text) → given_for key seen ≡ o → with_said seen (option_map (value_before key v) said) ≡ None
    go None e = lost_first key v seen said e h
    go (Some u) e = lost_repeated key u v seen said e

-- where a positional argument begins with a hyphen and is longer, the line asks for nothing
pub no_number : (said : Said) (number : Text) → IsHyphened number → demo_by said number ≡ None
no_number said number h =
    ap (without_options said.max_inputs said.flushes)
    (ap (λ (text : Text). number_of text (2 ^ 64 - 1)) h.2 ∙ hyphened_number h.0 h.1 (2 ^ 64 - 1))
    ∙ go said.max_inputs said.flushes
  where
    go : (max_inputs flushes : List Text) → without_options {X = ℕ} max_inputs flushes None ≡ None
    go [] [] = refl
    go [] (f ∷ fs) = refl
    go (m ∷ ms) flushes = refl

pub spoiled : (said : Said) (front : List Text) (word : Text) (more : List Text) → IsHyphened word
    → asked_by said ((front ++ word ∷ []) ++ more) ≡ None
spoiled said [] word [] h = ap (λ (text : Text). asked_by said (text ∷ [])) h.2
spoiled said [] word (number ∷ []) h = ap (λ (text : Text). asked_by said (text ∷ number ∷ [])) h.2
spoiled said [] word (number ∷ other ∷ more) h = refl
spoiled said (command ∷ []) word [] h = ap (λ (o : Option ℕ). cond (bytes_eq command (codes "demo")) (option_map Demo o) None)
    (no_number said word h)
    ∙ same_none (bytes_eq command (codes "demo"))
spoiled said (command ∷ []) word (other ∷ more) h = refl
spoiled said (command ∷ number ∷ []) word more h = refl
spoiled said (command ∷ number ∷ other ∷ front) word more h = refl

pub lost_word : (seen : Seen) (word : Text) (said : Option Said) → IsHyphened word → with_said (word_after word seen) said ≡ None
lost_word seen word None h = refl
lost_word seen word (Some s) h = spoiled (joined (word_after word seen) s) seen.words word s.words h
