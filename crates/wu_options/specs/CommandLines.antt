-- The command-line arguments, read from left to right, and what they ask for.
use Rattle.std.specs.Prelude.{ℕ, ◌^◌, ◌-◌, List, [], ◌∷◌, Option, Some, None, ◌==◌, nat_le, codes, if◌then◌else◌, option_map}
use Rattle.std.specs.Prelude.{option_and_then, unwrap_or, map}
use Rattle.std.specs.Borrow.{Bor}
use Rattle.std.specs.Str.{bytes_eq}
use Rattle.wu_base.specs.declared.limits.TheConstants.{INPUT_MAX, FLUSH_DEFAULT}
use Rattle.wu_fields.specs.Numbers.{number_of}
use Rattle.wu_options.specs.declared.command_lines.TheConstants.{FLUSH_MAX}
use Rattle.wu_options.specs.declared.command_lines.CommandLine.{CommandLine}
use Rattle.wu_options.specs.declared.command_lines.CommandLine.TheVariants.{Run, Demo, Check}
use Rattle.wu_options.specs.declared.command_lines.Settings.{Settings}

-- ---- what each argument is

-- the options, each of which takes one value: `--max-input` and `--flush`
pub data Key : Type 0 where
  max_input : Key
  flush : Key

-- the option as an argument
abbrev pub spelling_of : Key → List ℕ
spelling_of max_input = codes "--max-input"
spelling_of flush = codes "--flush"

-- what an argument is, where no option waits for its value: `--`, an option with its value, an option that takes the next
-- argument as its value, a fault, or a positional argument
pub data Sort : Type 0 where
  dashes : Sort
  with_value : Key → List ℕ → Sort
  needs_value : Key → Sort
  fault : Sort
  positional : Sort

-- the rest of the text after this prefix, where the text begins with it
abbrev pub rest_after : List ℕ → List ℕ → Option (List ℕ)
rest_after [] text = Some text
rest_after (x ∷ xs) [] = None
rest_after (x ∷ xs) (y ∷ ys) = if x == y then rest_after xs ys else None

-- after an option's spelling comes nothing, or `=` (61) and its value
abbrev pub use_with : Key → List ℕ → Option Sort
use_with key [] = Some (needs_value key)
use_with key (c ∷ value) = if c == 61 then Some (with_value key value) else None

-- the argument as a use of the option, if it is one
abbrev pub use_of : Key → List ℕ → Option Sort
use_of key word = option_and_then (use_with key) (rest_after (spelling_of key) word)

-- an argument that is no option: it begins with `-` (45) and is longer, or it is positional
abbrev pub other_sort : List ℕ → Sort
other_sort [] = positional
other_sort (x ∷ []) = positional
other_sort (x ∷ y ∷ rest) = if x == 45 then fault else positional

abbrev pub sort_of : List ℕ → Sort
sort_of word = if bytes_eq word (codes "--") then dashes
    else unwrap_or (use_of max_input word) (unwrap_or (use_of flush word) (other_sort word))

-- ---- what the arguments say together

-- the values of each option, and the positional arguments, in their order
pub record Said : Type 0 where
  pub max_inputs : List (List ℕ)
  pub flushes : List (List ℕ)
  pub words : List (List ℕ)

abbrev pub value_before : Key → List ℕ → Said → Said
value_before max_input value said = record said { max_inputs = value ∷ said.max_inputs }
value_before flush value said = record said { flushes = value ∷ said.flushes }

abbrev pub word_before : List ℕ → Said → Said
word_before word said = record said { words = word ∷ said.words }

-- every argument is positional
abbrev pub only_words : List (List ℕ) → Said
only_words words = record { max_inputs = []; flushes = []; words = words }

-- what an argument and those after it say; `next` is what those after it say where this option waits for its value, or none
abbrev pub said_by : Sort → List ℕ → List (List ℕ) → (Option Key → Option Said) → Option Said
said_by dashes word rest next = Some (only_words rest)
said_by (with_value key value) word rest next = option_map (value_before key value) (next None)
said_by (needs_value key) word rest next = next (Some key)
said_by fault word rest next = None
said_by positional word rest next = option_map (word_before word) (next None)

-- What the arguments say, where this option waits for its value, or none; nothing where there is a fault. An option takes
-- the next argument as its value, whatever it is.
abbrev pub said_from : Option Key → List (List ℕ) → Option Said
said_from None [] = Some (only_words [])
said_from (Some key) [] = None
said_from None (word ∷ rest) = said_by (sort_of word) word rest (λ key. said_from key rest)
said_from (Some key) (word ∷ rest) = option_map (value_before key word) (said_from None rest)

-- ---- what they ask for

abbrev pub at_least : ℕ → Option ℕ → Option ℕ
at_least least number = option_and_then (λ n. if nat_le least n then Some n else None) number

-- the number that an option gives, which is given at most once: its value, from least to most, or the default
abbrev pub number_in : ℕ → ℕ → ℕ → List (List ℕ) → Option ℕ
number_in least most default [] = Some default
number_in least most default (value ∷ []) = at_least least (number_of value most)
number_in least most default (value ∷ other ∷ more) = None

abbrev pub settings_with : Option ℕ → Option ℕ → Option Settings
settings_with max flush_at =
    option_and_then (λ m. option_map (λ f. record { max_input = m; flush_at = f }) flush_at) max

-- `--max-input` gives a number up to 2^40, which is the default too; `--flush` one from 1 to 2^32 - 1
abbrev pub settings_by : Said → Option Settings
settings_by said = settings_with (number_in 0 INPUT_MAX INPUT_MAX said.max_inputs) (number_in 1 FLUSH_MAX FLUSH_DEFAULT said.flushes)

-- that where there are no values of options
abbrev pub without_options : {X : Type 0} → List (List ℕ) → List (List ℕ) → Option X → Option X
without_options [] [] x = x
without_options [] (value ∷ more) x = None
without_options (value ∷ more) flushes x = None

-- a demo has no option, and its number is at most 2^64 - 1
abbrev pub demo_by : Said → List ℕ → Option ℕ
demo_by said number = without_options said.max_inputs said.flushes (number_of number (2 ^ 64 - 1))

-- nor has a check
abbrev pub check_by : Said → Option CommandLine
check_by said = without_options said.max_inputs said.flushes (Some Check)

-- the one positional argument is `run` or `check`
abbrev pub alone_by : Said → List ℕ → Option CommandLine
alone_by said command =
    if bytes_eq command (codes "run") then option_map Run (settings_by said)
    else if bytes_eq command (codes "check") then check_by said
    else None

-- or the positional arguments are `demo` and a number
abbrev pub asked_by : Said → List (List ℕ) → Option CommandLine
asked_by said [] = None
asked_by said (command ∷ []) = alone_by said command
asked_by said (command ∷ number ∷ []) = if bytes_eq command (codes "demo") then option_map Demo (demo_by said number) else None
asked_by said (command ∷ number ∷ other ∷ more) = None

abbrev pub command_line_by : Said → Option CommandLine
command_line_by said = asked_by said said.words

-- what the arguments ask for; nothing where they are invalid
unfoldable pub command_line_of : List (List ℕ) → Option CommandLine
command_line_of arguments = option_and_then command_line_by (said_from None arguments)

-- the bytes of the arguments
abbrev pub texts_of : List (Bor (List ℕ)) → List (List ℕ)
texts_of arguments = map (λ argument. argument.now) arguments
