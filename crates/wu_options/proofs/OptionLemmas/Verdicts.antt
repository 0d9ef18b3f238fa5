-- What a walk over the words comes to: the faults and the rows agree with the definition.
use Rattle.std.proofs.Common.{◌≡◌, ◌∙◌, ◌++◌, Bool, codes, true, false, refl, sym, ap, subst, List, [], ◌∷◌, Option, Some, None, append-nil}
use Rattle.std.proofs.Common.{append_assoc}
use Rattle.std.specs.Prelude.{unwrap_or, option_and_then, slice_get, fold, ⊤}
use Rattle.std.specs.Option.{option_to_list}
use Rattle.clap.specs.Words.{Row, Text, all_of, first_of}
use Rattle.clap.specs.Walk.{Walk, Waiting, idle, option, positional as to_positional, settled_rows, used, walked}
use Rattle.clap.specs.Kinds.{Kinds, or_else}
use Rattle.clap.specs.Faults.{option_fault, other_fault, use_fault, settle_fault, walk_fault, word_fault}
use Rattle.clap.specs.declared.error.kind.ErrorKind.TheVariants.{ArgumentConflict}
use Rattle.wu_options.specs.declared.command_lines.CommandLine.{CommandLine}
use Rattle.wu_options.specs.CommandLines.{Key, Said, only_words, said_from, command_line_by, sort_of, needs_value, with_value, fault}
use Rattle.wu_options.specs.CommandLines.{positional}
use Rattle.wu_options.proofs.OptionLemmas.BuiltCommand.{name_of, rule_for, rules_built, shape_built, held, Fails, IsHyphened}
use Rattle.wu_options.proofs.OptionLemmas.MatchedRows.{first_is}
use Rattle.wu_options.proofs.OptionLemmas.WordLooks.{IsPlain, Look, look, two_dashes, option_use, refused, plain, no_text}
use Rattle.wu_options.proofs.OptionLemmas.WalkSteps.{Pending, state, pending_fault, rows_with, turn, step, TakesStep, word_pending}
use Rattle.wu_options.proofs.OptionLemmas.WalkSteps.{trailing_step, dashes_step, no_subcommand, IsFree, plain_step, asked_step, use_turn}
use Rattle.wu_options.proofs.OptionLemmas.WalkSteps.{after_use, use_step}
use Rattle.wu_options.proofs.OptionLemmas.SeenRows.{Seen, given_for, word_after, value_after, listed, alone, Holds, words_held, option_held}
use Rattle.wu_options.proofs.OptionLemmas.SeenRows.{fresh_use, repeated_use, pending_is, rows_are, unvalued}
use Rattle.wu_options.proofs.OptionLemmas.Prefixes.{joined, rest, rest_by, word_joined, value_joined, lost_repeated, lost_hyphened}
use Rattle.wu_options.proofs.OptionLemmas.Prefixes.{lost_word}

-- the faults of the words from here on, and the rows at their end
abbrev pub faults_from : Walk → List Text → Kinds
faults_from w words = or_else (walk_fault shape_built [] w words)
    (settle_fault rules_built false (fold (walked rules_built []) w words).held)

abbrev pub rows_from : Walk → List Text → List Row
rows_from w words = settled_rows rules_built (fold (walked rules_built []) w words).held.pending
    (fold (walked rules_built []) w words).held.rows

abbrev pub said_of : List Row → Said
said_of rows = record {
  max_inputs = option_to_list (first_of (codes "max-input") rows);
  flushes = option_to_list (first_of (codes "flush") rows);
  words = unwrap_or (all_of (codes "words") rows) [];
}

-- where there is no fault the rows give this line, and where there is one there is none
abbrev pub Agrees : Kinds → List Row → Option CommandLine → Type 0
Agrees [] rows line = command_line_by (said_of rows) ≡ line
Agrees (k ∷ ks) rows line = line ≡ None

abbrev pub Meets : Walk → List Text → Option CommandLine → Type 0
Meets w words line = Agrees (faults_from w words) (rows_from w words) line

pub meets_as : (w : Walk) (words : List Text) (a b : Option CommandLine) → a ≡ b → Meets w words a → Meets w words b
meets_as w words a b e m = subst (λ (o : Option CommandLine). Meets w words o) e m

abbrev pub MeetsAfter : List Text → Option CommandLine → Kinds → Walk → Type 0
MeetsAfter words line kinds after =
    Agrees (or_else (or_else kinds (walk_fault shape_built [] after words))
    (settle_fault rules_built false (fold (walked rules_built []) after words).held))
    (rows_from after words) line

pub meets_step : (w after : Walk) (word : Text) (words : List Text) (line : Option CommandLine) → TakesStep w word [] after
    → Meets after words line
    → Meets w (word ∷ words) line
unfolding walk_fault
meets_step w after word words line s m =
    subst (λ (kinds : Kinds). MeetsAfter words line kinds (step w word)) (sym s.0)
    (subst (λ (x : Walk). MeetsAfter words line [] x) (sym s.1) m)

pub meets_fault : (w : Walk) (word : Text) (words : List Text) (line : Option CommandLine) → Fails (turn w word) → line ≡ None
    → Meets w (word ∷ words) line
unfolding walk_fault
meets_fault w word words line f none =
    subst (λ (kinds : Kinds). MeetsAfter words line kinds (step w word)) (sym f.2) none

pub ends : (rows : List Row) (pending : Pending) (waiting : Waiting) (trailing : Bool) (line : Option CommandLine)
    → pending_fault rows pending ≡ []
    → command_line_by (said_of (rows_with rows pending)) ≡ line → Meets (state rows pending waiting trailing) [] line
unfolding walk_fault
ends rows pending waiting trailing line none e = subst (λ (kinds : Kinds). Agrees kinds (rows_with rows pending) line) (sym none) e

pub ends_badly : (rows : List Row) (pending : Pending) (waiting : Waiting) (trailing : Bool) (line : Option CommandLine)
    → Fails (pending_fault rows pending)
    → line ≡ None → Meets (state rows pending waiting trailing) [] line
unfolding walk_fault
ends_badly rows pending waiting trailing line f none = subst (λ (kinds : Kinds). Agrees kinds (rows_with rows pending) line) (sym f.2) none

pub fails_as : (a b : Kinds) → a ≡ b → Fails b → Fails a
fails_as a b e f = (f.0, f.1, e ∙ f.2)

pub fails_first : (a b : Kinds) → Fails a → Fails (or_else a b)
fails_first a b f = (f.0, f.1, ap (λ (kinds : Kinds). or_else kinds b) f.2)

pub option_fails : (key : Key) (given : Option Text) (rows : List Row) (pending : Pending) → Fails (pending_fault rows pending)
    → Fails (option_fault rules_built false (rule_for key) given (held rows pending))
option_fails key None rows pending f = f
option_fails key (Some v) rows pending f = fails_first (pending_fault rows pending) _ f

pub refused_turn : (rows : List Row) (pending : Pending) (waiting : Waiting) (word : Text)
    → Fails (other_fault shape_built None word (held rows pending))
    → Fails (turn (state rows pending waiting false) word)
refused_turn rows pending waiting word f = fails_first _ _
    (fails_as (word_fault shape_built [] false waiting word (held rows pending)) (other_fault shape_built None word (held rows pending))
    (rw (no_subcommand waiting word) refl) f)

-- what is pending is refused, and no value can join it
abbrev pub IsClosed : Waiting → Bool → Type 0
IsClosed waiting true = ⊤
IsClosed waiting false = IsFree waiting

pub doomed : (words : List Text) (rows : List Row) (pending : Pending) (waiting : Waiting) (trailing : Bool) (line : Option CommandLine)
    → IsClosed waiting trailing → Fails (pending_fault rows pending) → line ≡ None → Meets (state rows pending waiting trailing) words line
doomed [] rows pending waiting trailing line closed f none = ends_badly rows pending waiting trailing line f none
doomed (word ∷ words) rows pending waiting true line closed f none =
    meets_fault (state rows pending waiting true) word words line (fails_as _ _ (trailing_step rows pending waiting word).0 f) none
doomed (word ∷ words) rows pending waiting false line closed f none =
    go (look word) (doomed words rows pending waiting true line tt f none)
  where
    go : Look word → Meets (state rows pending waiting true) words line → Meets (state rows pending waiting false) (word ∷ words) line
    go (two_dashes is) later = rw is
        (meets_step (state rows pending waiting false) (state rows pending waiting true) (45 ∷ 45 ∷ []) words line
        (dashes_step rows pending waiting) later)
    go (option_use key name given begins sort dashes long rule) later = meets_fault (state rows pending waiting false) word words line
        (fails_as _ _ (use_turn key name given rows pending waiting word dashes long rule) (option_fails key given rows pending f)) none
    go (refused begins sort fails) later = meets_fault (state rows pending waiting false) word words line
        (refused_turn rows pending waiting word (fails rows pending)) none
    go (plain sort p) later = meets_fault (state rows pending waiting false) word words line
        (fails_as _ _ (plain_step rows pending waiting word closed p).0 f) none
    go (no_text begins sort p) later = meets_fault (state rows pending waiting false) word words line
        (fails_as _ _ (plain_step rows pending waiting word closed p).0 f) none

pub first_listed : (id : Text) (rows : List Row) (o : Option Text) → all_of id rows ≡ alone o
    → option_to_list (first_of id rows) ≡ option_to_list o ++ []
first_listed id rows o e = ap option_to_list (first_is id rows ∙ ap (option_and_then (λ vs. slice_get vs 0)) e) ∙ go o
  where
    go : (o : Option Text) → option_to_list (option_and_then (λ vs. slice_get vs 0) (alone o)) ≡ option_to_list o ++ []
    go None = refl
    go (Some v) = refl

pub unlisted : (vs : List Text) → unwrap_or (listed vs) [] ≡ vs
unlisted [] = refl
unlisted (v ∷ vs) = refl

pub said_at_end : (rows : List Row) (seen : Seen) → Holds rows seen → said_of rows ≡ joined seen (only_words [])
said_at_end rows seen h = λ i. record {
  max_inputs = first_listed (codes "max-input") rows seen.most h.0 i;
  flushes = first_listed (codes "flush") rows seen.flushed h.1 i;
  words = (ap (λ o. unwrap_or o []) h.2 ∙ unlisted seen.words ∙ sym (append-nil seen.words)) i;
}

pub word_passes : (rows : List Row) (word : Text) → pending_fault rows (word_pending word) ≡ []
word_passes rows word = refl

pub trailing_meets : (words : List Text) (seen : Seen) (rows : List Row) (pending : Pending) (waiting : Waiting)
    → pending_fault rows pending ≡ []
    → Holds (rows_with rows pending) seen → Meets (state rows pending waiting true) words (command_line_by (joined seen (only_words words)))
trailing_meets [] seen rows pending waiting none h = ends rows pending waiting true _ none
    (ap command_line_by (said_at_end (rows_with rows pending) seen h))
trailing_meets (word ∷ words) seen rows pending waiting none h =
    let s = trailing_step rows pending waiting word in
    meets_step (state rows pending waiting true) (state (rows_with rows pending) (word_pending word) to_positional true) word words _
    (s.0 ∙ none, s.1)
    (meets_as _ words _ _ (ap command_line_by (λ i. record {
      max_inputs = option_to_list seen.most ++ [];
      flushes = option_to_list seen.flushed ++ [];
      words = append_assoc seen.words (word ∷ []) words i;
    })) (trailing_meets words (word_after word seen) (rows_with rows pending) (word_pending word) to_positional
    (word_passes (rows_with rows pending) word)
    (words_held word (rows_with rows pending) seen h)))

-- the walk from where no option waits, and from where one does
abbrev pub OpenMeets : List Text → Type 0
OpenMeets words = (seen : Seen) (rows : List Row) (pending : Pending) (waiting : Waiting) → IsFree waiting → pending_fault rows pending ≡ []
    → Holds (rows_with rows pending) seen → Meets (state rows pending waiting false) words (rest seen None words)

abbrev pub AskedMeets : List Text → Type 0
AskedMeets words = (key : Key) (seen : Seen) (rows : List Row) → Holds rows seen
    → Meets (state rows (Some (name_of key, [])) (option (name_of key)) false) words (rest seen (Some key) words)

-- a use with its value, past what is pending
pub given_turn : (key : Key) (v : Text) (rows : List Row) (pending : Pending) → pending_fault rows pending ≡ []
    → option_fault rules_built false (rule_for key) (Some v) (held rows pending)
    ≡ use_fault false (rule_for key) (v ∷ []) (rows_with rows pending)
given_turn key v rows pending none = ap
    (λ (kinds : Kinds). or_else kinds (use_fault false (rule_for key) (v ∷ []) (rows_with rows pending))) none

pub open_step : (word : Text) (words : List Text) → OpenMeets words → AskedMeets words → OpenMeets (word ∷ words)
open_step word words open_ih asked_ih seen rows pending waiting free none h = go (look word)
  where
    here : Walk
    here = state rows pending waiting false

    use_given : (key : Key) (name v : Text) → sort_of word ≡ with_value key v
        → turn here word ≡ option_fault rules_built false (rule_for key) (Some v) (held rows pending)
        → step here word ≡ after_use key (Some v) (rows_with rows pending) → (o : Option Text) → given_for key seen ≡ o
        → Meets here (word ∷ words) (rest seen None (word ∷ words))
    use_given key name v sort turned stepped None e = meets_step here (after_use key (Some v) (rows_with rows pending)) word words _
        (turned ∙ given_turn key v rows pending none ∙ fresh_use key v (rows_with rows pending) seen h e, stepped)
        (meets_as _ words _ _ (value_joined key v seen (said_from None words) e ∙ sym (rest_by seen word words (with_value key v) sort))
        (open_ih (value_after key v seen) (used (rule_for key) (v ∷ []) (rows_with rows pending)) None idle tt refl
        (option_held key v (rows_with rows pending) seen e h)))
    use_given key name v sort turned stepped (Some u) e = meets_fault here word words _
        (ArgumentConflict, [], turned ∙ given_turn key v rows pending none ∙ repeated_use key u v (rows_with rows pending) seen h e)
        (rest_by seen word words (with_value key v) sort ∙ lost_repeated key u v seen (said_from None words) e)

    to_rest : IsPlain word → rest (word_after word seen) None words ≡ rest seen None (word ∷ words)
        → Meets here (word ∷ words) (rest seen None (word ∷ words))
    to_rest p e =
        let s = plain_step rows pending waiting word free p in
        meets_step here (state (rows_with rows pending) (word_pending word) to_positional false) word words _ (s.0 ∙ none, s.1)
        (meets_as _ words _ _ e
        (open_ih (word_after word seen) (rows_with rows pending) (word_pending word) to_positional tt
        (word_passes (rows_with rows pending) word)
        (words_held word (rows_with rows pending) seen h)))

    go : Look word → Meets here (word ∷ words) (rest seen None (word ∷ words))
    go (two_dashes is) = rw is (meets_step (state rows pending waiting false) (state rows pending waiting true) (45 ∷ 45 ∷ []) words _
        (dashes_step rows pending waiting) (trailing_meets words seen rows pending waiting none h))
    go (option_use key name (Some v) begins sort dashes long rule) = use_given key name v sort
        (use_turn key name (Some v) rows pending waiting word dashes long rule)
        (use_step key name (Some v) rows pending waiting word dashes long rule) (given_for key seen) refl
    go (option_use key name None begins sort dashes long rule) = meets_step here (after_use key None (rows_with rows pending)) word words _ (
      use_turn key name None rows pending waiting word dashes long rule
          ∙ none,
      use_step key name None rows pending waiting word dashes long rule,
    )
        (meets_as _ words _ _ (sym (rest_by seen word words (needs_value key) sort)) (asked_ih key seen (rows_with rows pending) h))
    go (refused begins sort fails) = meets_fault here word words _ (refused_turn rows pending waiting word (fails rows pending))
        (rest_by seen word words fault sort)
    go (plain sort p) = to_rest p (word_joined seen word (said_from None words) ∙ sym (rest_by seen word words positional sort))
    go (no_text begins sort p) = to_rest p (lost_word seen word (said_from None words) begins ∙ sym (rest_by seen word words fault sort))

pub asked_word : (word : Text) (words : List Text) → OpenMeets words → AskedMeets (word ∷ words)
asked_word word words open_ih key seen rows h = go (look word)
  where
    pending : Pending
    pending = Some (name_of key, [])

    here : Walk
    here = state rows (Some (name_of key, [])) (option (name_of key)) false

    there : Walk
    there = state rows (Some (name_of key, word ∷ [])) idle false

    lost : IsHyphened word → rest seen (Some key) (word ∷ words) ≡ None
    lost begins = lost_hyphened key word seen (said_from None words) begins

    valued : TakesStep here word [] there → (o : Option Text) → given_for key seen ≡ o
        → Meets here (word ∷ words) (rest seen (Some key) (word ∷ words))
    valued s None e = meets_step here there word words _ s (meets_as _ words _ _ (value_joined key word seen (said_from None words) e)
        (open_ih (value_after key word seen) rows (Some (name_of key, word ∷ [])) idle tt
        (pending_is key (word ∷ []) rows ∙ fresh_use key word rows seen h e)
        (subst (λ (r : List Row). Holds r (value_after key word seen)) (sym (rows_are key (word ∷ []) rows))
        (option_held key word rows seen e h))))
    valued s (Some u) e = meets_step here there word words _ s (doomed words rows (Some (name_of key, word ∷ [])) idle false _ tt
        (ArgumentConflict, [], pending_is key (word ∷ []) rows ∙ repeated_use key u word rows seen h e)
        (lost_repeated key u word seen (said_from None words) e))

    go : Look word → Meets here (word ∷ words) (rest seen (Some key) (word ∷ words))
    go (two_dashes is) =
        let none = lost (45, [], is) in
        meets_step here (state rows (Some (name_of key, [])) (option (name_of key)) true) word words _
        (rw is (dashes_step rows (Some (name_of key, [])) (option (name_of key))))
        (doomed words rows (Some (name_of key, [])) (option (name_of key)) true _ tt (unvalued key rows) none)
    go (option_use other name given begins sort dashes long rule) = meets_fault here word words _
        (fails_as _ _ (use_turn other name given rows (Some (name_of key, [])) (option (name_of key)) word dashes long rule)
        (option_fails other given rows (Some (name_of key, [])) (unvalued key rows))) (lost begins)
    go (refused begins sort fails) = meets_fault here word words _
        (refused_turn rows (Some (name_of key, [])) (option (name_of key)) word (fails rows (Some (name_of key, [])))) (lost begins)
    go (plain sort p) = valued (asked_step key rows word p) (given_for key seen) refl
    go (no_text begins sort p) = valued (asked_step key rows word p) (given_for key seen) refl

pub all_meet : (words : List Text) → OpenMeets words × AskedMeets words
all_meet [] = (
  (λ seen rows pending waiting free none h. ends rows pending waiting false _ none
      (ap command_line_by (said_at_end (rows_with rows pending) seen h))),
  (λ key seen rows h. ends_badly rows (Some (name_of key, [])) (option (name_of key)) false _ (unvalued key rows) refl),
)
all_meet (word ∷ words) =
    let ih = all_meet words in
    (open_step word words ih.0 ih.1, asked_word word words ih.0)
