-- One word more: the fault, and where the walk stands after it.
use Rattle.std.proofs.Common.{◌≡◌, ◌∙◌, ◌&&◌, ◌||◌, Bool, cond, codes, true, false, refl, ap, List, [], ◌∷◌, Option, Some, None}
use Rattle.std.specs.Prelude.{⊤}
use Rattle.std.specs.Str.{bytes_eq}
use Rattle.clap.specs.Lexer.{long_of}
use Rattle.clap.specs.Words.{Row, Text}
use Rattle.clap.specs.Walk.{Held, long_or_other, next, plain_word, subcommand_or_other, trailing as to_trailing, Step, Walk, Waiting}
use Rattle.clap.specs.Walk.{after_step, arg_by_long, idle, is_pending, option, positional as to_positional, pushed, settled, settled_rows}
use Rattle.clap.specs.Walk.{subcommand_met, used, value as to_value, walked, word_met}
use Rattle.clap.specs.Kinds.{Kinds, or_else}
use Rattle.clap.specs.Faults.{option_fault, other_fault, settle_fault, step_fault, turn_fault, word_fault}
use Rattle.wu_options.specs.CommandLines.{Key, max_input, flush}
use Rattle.wu_options.proofs.OptionLemmas.BuiltCommand.{built_words, name_of, rule_for, rules_built, shape_built, held}
use Rattle.wu_options.proofs.OptionLemmas.WordLooks.{IsPlain}

abbrev pub Pending : Type 0
Pending = Option (Text × List Text)

abbrev pub state : List Row → Pending → Waiting → Bool → Walk
state rows pending waiting trailing = record { held = held rows pending; waiting = waiting; position = 1; is_trailing = trailing; stopped = None }

-- the fault of what is pending, and the rows once it is used
abbrev pub pending_fault : List Row → Pending → Kinds
pending_fault rows pending = settle_fault rules_built false (held rows pending)

abbrev pub rows_with : List Row → Pending → List Row
rows_with rows pending = settled_rows rules_built pending rows

abbrev pub turn : Walk → Text → Kinds
turn w word = turn_fault shape_built [] w word

abbrev pub step : Walk → Text → Walk
step w word = walked rules_built [] w word

abbrev pub met : Waiting → Bool → Text → Held → Held × Step
met waiting trailing word h = word_met rules_built [] trailing waiting 1 word h

abbrev pub TakesStep : Walk → Text → Kinds → Walk → Type 0
TakesStep w word kinds after = (turn w word ≡ kinds) × (step w word ≡ after)

pub no_more : {X : Type 0} (b : Bool) (x y : X) → cond (b && false) x y ≡ y
no_more true x y = refl
no_more false x y = refl

pub or_false : (b : Bool) → (b || false) ≡ b
or_false true = refl
or_false false = refl

pub or_else_none : (kinds : Kinds) → or_else kinds [] ≡ kinds
or_else_none [] = refl
or_else_none (k ∷ ks) = refl

abbrev pub word_pending : Text → Pending
word_pending word = Some (codes "words", word ∷ [])

-- a word that goes to the positional
pub to_words : (rows : List Row) (pending : Pending) (waiting : Waiting) (trailing : Bool) (word : Text)
    → met waiting trailing word (held rows pending) ≡ (held rows pending, to_value)
    → word_fault shape_built [] trailing waiting word (held rows pending) ≡ []
    → TakesStep (state rows pending waiting trailing) word (pending_fault rows pending)
    (state (rows_with rows pending) (word_pending word) to_positional trailing)
unfolding walked
to_words rows pending waiting trailing word is passes = (
  (λ i. or_else (passes i) (step_fault shape_built 1 (is i).0 (is i).1))
      ∙ no_more (is_pending built_words pending) [] (pending_fault rows pending),
  ap (λ (m : Held × Step). after_step rules_built word (state rows pending waiting trailing) m.0 m.1) is
      ∙ (λ i. record {
        held = pushed (codes "words") word
            (no_more (is_pending built_words pending) (held rows pending) (settled rules_built (held rows pending)) i);
        waiting = to_positional;
        position = 1;
        is_trailing = or_false trailing i;
        stopped = None;
      }),
)

pub trailing_step : (rows : List Row) (pending : Pending) (waiting : Waiting) (word : Text)
    → TakesStep (state rows pending waiting true) word (pending_fault rows pending)
    (state (rows_with rows pending) (word_pending word) to_positional true)
trailing_step rows pending waiting word = to_words rows pending waiting true word refl refl

pub dashes_step : (rows : List Row) (pending : Pending) (waiting : Waiting)
    → TakesStep (state rows pending waiting false) (45 ∷ 45 ∷ []) [] (state rows pending waiting true)
unfolding walked
dashes_step rows pending idle = (refl, refl)
dashes_step rows pending (option id) = (refl, refl)
dashes_step rows pending to_positional = (refl, refl)

pub no_subcommand : (waiting : Waiting) (word : Text) → subcommand_met [] waiting word ≡ None
no_subcommand idle word = refl
no_subcommand (option id) word = refl
no_subcommand to_positional word = refl

-- no option waits for its value
abbrev pub IsFree : Waiting → Type 0
IsFree idle = ⊤
IsFree (option id) = ⊥
IsFree to_positional = ⊤

pub plain_met : (rows : List Row) (pending : Pending) (waiting : Waiting) (word : Text) → IsPlain word
    → met waiting false word (held rows pending) ≡ plain_word rules_built waiting word (held rows pending)
plain_met rows pending waiting word p =
    ap (λ (o : Option Text). subcommand_or_other rules_built o waiting 1 word (held rows pending)) (no_subcommand waiting word)
    ∙ ap (λ (b : Bool). cond b (held rows pending, to_trailing 1)
    (long_or_other rules_built waiting word (long_of word) (held rows pending))) p.0
    ∙ p.2 rows pending waiting

pub plain_passes : (rows : List Row) (pending : Pending) (waiting : Waiting) (word : Text) → IsPlain word
    → word_fault shape_built [] false waiting word (held rows pending) ≡ []
plain_passes rows pending waiting word p =
    ap (λ (o : Option Text). other_fault shape_built o word (held rows pending)) (no_subcommand waiting word) ∙ p.1 rows pending

pub free_met : (waiting : Waiting) (word : Text) (h : Held) → IsFree waiting → plain_word rules_built waiting word h ≡ (h, to_value)
free_met idle word h free = refl
free_met (option id) word h free = absurd free
free_met to_positional word h free = refl

pub plain_step : (rows : List Row) (pending : Pending) (waiting : Waiting) (word : Text) → IsFree waiting → IsPlain word
    → TakesStep (state rows pending waiting false) word (pending_fault rows pending)
    (state (rows_with rows pending) (word_pending word) to_positional false)
plain_step rows pending waiting word free p =
    to_words rows pending waiting false word (plain_met rows pending waiting word p ∙ free_met waiting word (held rows pending) free)
    (plain_passes rows pending waiting word p)

-- a plain word is the value of an option that waits for it
pub asked_met : (key : Key) (rows : List Row) (word : Text)
    → plain_word rules_built (option (name_of key)) word (held rows (Some (name_of key, [])))
    ≡ (held rows (Some (name_of key, word ∷ [])), next idle)
asked_met max_input rows word = refl
asked_met flush rows word = refl

pub asked_step : (key : Key) (rows : List Row) (word : Text) → IsPlain word
    → TakesStep (state rows (Some (name_of key, [])) (option (name_of key)) false) word []
    (state rows (Some (name_of key, word ∷ [])) idle false)
unfolding walked
asked_step key rows word p =
    let is = plain_met rows (Some (name_of key, [])) (option (name_of key)) word p ∙ asked_met key rows word in (
      (λ i. or_else (plain_passes rows (Some (name_of key, [])) (option (name_of key)) word p i)
          (step_fault shape_built 1 (is i).0 (is i).1)),
      ap (λ (m : Held × Step). after_step rules_built word (state rows (Some (name_of key, [])) (option (name_of key)) false) m.0 m.1) is,
    )

-- a use of an option
pub use_turn : (key : Key) (name : Text) (given : Option Text) (rows : List Row) (pending : Pending) (waiting : Waiting) (word : Text)
    → bytes_eq word (45 ∷ 45 ∷ []) ≡ false
    → long_of word ≡ Some (name, given) → arg_by_long rules_built name ≡ Some (rule_for key)
    → turn (state rows pending waiting false) word ≡ option_fault rules_built false (rule_for key) given (held rows pending)
use_turn key name (Some v) rows pending waiting word dashes long rule = rw (no_subcommand waiting word, dashes, long, rule) (or_else_none _)
use_turn key name None rows pending waiting word dashes long rule = rw (no_subcommand waiting word, dashes, long, rule) (or_else_none _)

abbrev pub after_use : Key → Option Text → List Row → Walk
after_use key (Some v) rows = state (used (rule_for key) (v ∷ []) rows) None idle false
after_use key None rows = state rows (Some (name_of key, [])) (option (name_of key)) false

pub use_step : (key : Key) (name : Text) (given : Option Text) (rows : List Row) (pending : Pending) (waiting : Waiting) (word : Text)
    → bytes_eq word (45 ∷ 45 ∷ []) ≡ false
    → long_of word ≡ Some (name, given) → arg_by_long rules_built name ≡ Some (rule_for key)
    → step (state rows pending waiting false) word ≡ after_use key given (rows_with rows pending)
unfolding walked
use_step key name (Some v) rows pending waiting word dashes long rule = rw (no_subcommand waiting word, dashes, long, rule) refl
use_step key name None rows pending waiting word dashes long rule = rw (no_subcommand waiting word, dashes, long, rule) refl
