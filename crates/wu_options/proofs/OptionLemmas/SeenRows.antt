-- What the rows hold of the words so far.
use Rattle.std.proofs.Common.{◌≡◌, ◌∙◌, ◌++◌, codes, false, refl, ap, List, [], ◌∷◌, Option, Some, None, is_some}
use Rattle.std.specs.Prelude.{unwrap_or, option_map}
use Rattle.std.specs.Str.{bytes_eq}
use Rattle.clap.specs.Words.{Row, Text, all_of}
use Rattle.clap.specs.Walk.{reading_by, used, has_row, without}
use Rattle.clap.specs.Faults.{use_fault}
use Rattle.clap.specs.declared.error.kind.ErrorKind.TheVariants.{ArgumentConflict, InvalidValue}
use Rattle.clap.specs.declared.parser.matches.ValueSource.TheVariants.{CommandLine}
use Rattle.wu_options.specs.CommandLines.{Key, max_input, flush}
use Rattle.wu_options.proofs.OptionLemmas.BuiltCommand.{built_option, built_words, name_of, rule_for, Fails}
use Rattle.wu_options.proofs.OptionLemmas.MatchedRows.{other_with_values, other_without, same_with_values, none_without, has_row_is}
use Rattle.wu_options.proofs.OptionLemmas.WalkSteps.{pending_fault, rows_with, word_pending}

-- the values so far, and the positional words
pub record Seen : Type 0 where
  pub most : Option Text
  pub flushed : Option Text
  pub words : List Text

abbrev pub given_for : Key → Seen → Option Text
given_for max_input seen = seen.most
given_for flush seen = seen.flushed

abbrev pub word_after : Text → Seen → Seen
word_after word seen = record seen { words = seen.words ++ word ∷ [] }

abbrev pub value_after : Key → Text → Seen → Seen
value_after max_input v seen = record seen { most = Some v }
value_after flush v seen = record seen { flushed = Some v }

abbrev pub listed : List Text → Option (List Text)
listed [] = None
listed (v ∷ vs) = Some (v ∷ vs)

abbrev pub alone : Option Text → Option (List Text)
alone o = option_map (λ v. v ∷ []) o

abbrev pub Holds : List Row → Seen → Type 0
Holds rows seen = (all_of (codes "max-input") rows ≡ alone seen.most) × (all_of (codes "flush") rows ≡ alone seen.flushed)
    × (all_of (codes "words") rows ≡ listed seen.words)

pub listed_more : (vs : List Text) (v : Text) → Some (unwrap_or (listed vs) [] ++ v ∷ []) ≡ listed (vs ++ v ∷ [])
listed_more [] v = refl
listed_more (x ∷ xs) v = refl

pub words_held : (word : Text) (rows : List Row) (seen : Seen) → Holds rows seen
    → Holds (rows_with rows (word_pending word)) (word_after word seen)
words_held word rows seen h = (
  other_with_values (codes "max-input") (codes "words") refl (reading_by built_words) CommandLine (word ∷ []) rows ∙ h.0,
  other_with_values (codes "flush") (codes "words") refl (reading_by built_words) CommandLine (word ∷ []) rows ∙ h.1,
  same_with_values (codes "words") (reading_by built_words) CommandLine (word ∷ []) rows
      ∙ ap (λ o. Some (unwrap_or o [] ++ word ∷ [])) h.2 ∙ listed_more seen.words word,
)

module _ (id : Text) (v : Text) (rows : List Row) where
  pub set_own : all_of id rows ≡ None → all_of id (used (built_option id) (v ∷ []) rows) ≡ Some (v ∷ [])
  set_own none = same_with_values id (reading_by (built_option id)) CommandLine (v ∷ []) (without id rows)
      ∙ ap (λ o. Some (unwrap_or o [] ++ v ∷ [])) (none_without id rows none)

  pub set_other : (other : Text) → bytes_eq id other ≡ false → all_of other (used (built_option id) (v ∷ []) rows) ≡ all_of other rows
  set_other other apart = other_with_values other id apart (reading_by (built_option id)) CommandLine (v ∷ []) (without id rows)
      ∙ other_without other id apart rows

pub option_held : (key : Key) (v : Text) (rows : List Row) (seen : Seen) → given_for key seen ≡ None → Holds rows seen
    → Holds (used (rule_for key) (v ∷ []) rows) (value_after key v seen)
option_held max_input v rows seen none h = (
  set_own (codes "max-input") v rows (h.0 ∙ ap alone none),
  set_other (codes "max-input") v rows (codes "flush") refl ∙ h.1,
  set_other (codes "max-input") v rows (codes "words") refl ∙ h.2,
)
option_held flush v rows seen none h = (
  set_other (codes "flush") v rows (codes "max-input") refl ∙ h.0,
  set_own (codes "flush") v rows (h.1 ∙ ap alone none),
  set_other (codes "flush") v rows (codes "words") refl ∙ h.2,
)

pub some_alone : (o : Option Text) → is_some (alone o) ≡ is_some o
some_alone None = refl
some_alone (Some v) = refl

pub row_given : (key : Key) (rows : List Row) (seen : Seen) → Holds rows seen → has_row (name_of key) rows ≡ is_some (given_for key seen)
row_given max_input rows seen h = has_row_is (codes "max-input") rows ∙ ap is_some h.0 ∙ some_alone seen.most
row_given flush rows seen h = has_row_is (codes "flush") rows ∙ ap is_some h.1 ∙ some_alone seen.flushed

-- a first use passes, and a second is refused
pub fresh_use : (key : Key) (v : Text) (rows : List Row) (seen : Seen) → Holds rows seen → given_for key seen ≡ None
    → use_fault false (rule_for key) (v ∷ []) rows ≡ []
fresh_use key v rows seen h none = rw (row_given key rows seen h ∙ ap is_some none) refl

pub repeated_use : (key : Key) (u v : Text) (rows : List Row) (seen : Seen) → Holds rows seen → given_for key seen ≡ Some u
    → use_fault false (rule_for key) (v ∷ []) rows ≡ ArgumentConflict ∷ []
repeated_use key u v rows seen h is = rw (row_given key rows seen h ∙ ap is_some is) refl

pub pending_is : (key : Key) (values : List Text) (rows : List Row)
    → pending_fault rows (Some (name_of key, values)) ≡ use_fault false (rule_for key) values rows
pending_is max_input values rows = refl
pending_is flush values rows = refl

pub rows_are : (key : Key) (values : List Text) (rows : List Row)
    → rows_with rows (Some (name_of key, values)) ≡ used (rule_for key) values rows
rows_are max_input values rows = refl
rows_are flush values rows = refl

pub unvalued : (key : Key) (rows : List Row) → Fails (pending_fault rows (Some (name_of key, [])))
unvalued max_input rows = (InvalidValue, [], refl)
unvalued flush rows = (InvalidValue, [], refl)
