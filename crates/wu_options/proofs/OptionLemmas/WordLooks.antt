-- What a word is, to the definition and to the reader of command lines.
use Rattle.std.proofs.Common.{◌≡◌, ◌∙◌, ◌&&◌, ℕ, Bool, cond, true, false, not, suc, refl, sym, ap, subst, List, [], ◌∷◌, Option, Some, None}
use Rattle.std.proofs.Common.{one-add, add-one, eqb-true, eq-eqb, true≢false}
use Rattle.std.specs.Prelude.{◌==◌, option_map, option_and_then, slice_get}
use Rattle.std.specs.List.{list_all, before_first, after_first, position_or_len}
use Rattle.std.specs.Str.{bytes_eq, chars}
use Rattle.clap.specs.Lexer.{has_byte, long_of, short_of}
use Rattle.clap.specs.Words.{Row, Text}
use Rattle.clap.specs.Walk.{bundle_met, long_or_other, plain_word, Waiting, arg_by_long}
use Rattle.clap.specs.Faults.{flags_fault, other_fault}
use Rattle.clap.specs.declared.error.kind.ErrorKind.TheVariants.{UnknownArgument}
use Rattle.wu_options.specs.CommandLines.{Key, Sort, rest_after, max_input, flush, sort_of, use_of, use_with, needs_value, with_value}
use Rattle.wu_options.specs.CommandLines.{fault, positional}
use Rattle.wu_options.proofs.OptionLemmas.BuiltCommand.{name_of, rule_for, rules_built, shape_built, held, Fails, IsHyphened}

abbrev pub is_equals : ℕ → Bool
is_equals x = x == 61

-- what comes after the name in the rest of a long word, if that is the name in it
abbrev pub named : Text → Text → Option (Option Text)
named name text = cond (bytes_eq name (before_first is_equals text))
    (Some (cond (has_byte 61 text) (Some (after_first is_equals text)) None)) None

abbrev pub value_behind : Text → Option (Option Text)
value_behind [] = Some None
value_behind (c ∷ value) = cond (c == 61) (Some (Some value)) None

abbrev pub has_no_equals : Text → Bool
has_no_equals = list_all (λ x. not (x == 61))

pub before_more : (t : ℕ) (ts : Text) → (t == 61) ≡ false → before_first is_equals (t ∷ ts) ≡ t ∷ before_first is_equals ts
before_more t ts e = rw (e, one-add (position_or_len is_equals ts)) refl

pub after_more : (t : ℕ) (ts : Text) → (t == 61) ≡ false → after_first is_equals (t ∷ ts) ≡ after_first is_equals ts
after_more t ts e = rw
    (e, one-add (position_or_len is_equals ts), add-one (suc (position_or_len is_equals ts)), add-one (position_or_len is_equals ts)) refl

pub split_and : (a b : Bool) → (a && b) ≡ true → (a ≡ true) × (b ≡ true)
split_and true b e = (refl, e)
split_and false b e = absurd (true≢false (sym e))

pub is_false : (b : Bool) → not b ≡ true → b ≡ false
is_false true e = sym e
is_false false e = refl

pub cut : (name text : Text) → has_no_equals name ≡ true → named name text ≡ option_and_then value_behind (rest_after name text)
cut [] [] none = refl
cut [] (t ∷ ts) none = go (t == 61) refl
  where
    go : (b : Bool) → (t == 61) ≡ b → named [] (t ∷ ts) ≡ value_behind (t ∷ ts)
    go true e = rw e refl
    go false e = rw (before_more t ts e, e) refl
cut (x ∷ xs) [] none = refl
cut (x ∷ xs) (t ∷ ts) none =
    go (t == 61) (x == t) refl refl (is_false (x == 61) (split_and (not (x == 61)) _ none).0)
    (cut xs ts (split_and (not (x == 61)) _ none).1)
  where
    go : (b d : Bool) → (t == 61) ≡ b → (x == t) ≡ d → (x == 61) ≡ false → named xs ts ≡ option_and_then value_behind (rest_after xs ts)
        → named (x ∷ xs) (t ∷ ts) ≡ option_and_then value_behind (rest_after (x ∷ xs) (t ∷ ts))
    go true true e d not_equals h =
        let bad : (x == 61) ≡ true = rw (eqb-true x t d) e in
        absurd (true≢false (sym bad ∙ not_equals))
    go true false e d not_equals h = rw (e, d) refl
    go false true e d not_equals h = rw (before_more t ts e, after_more t ts e, e, d) h
    go false false e d not_equals h = rw (before_more t ts e, d) refl

-- ---- what a word is, to both

-- the use of an option that has this value, or none
abbrev pub use_sort : Key → Option Text → Sort
use_sort key None = needs_value key
use_sort key (Some value) = with_value key value

pub use_sorted : (key : Key) (rest : Option Text)
    → option_and_then (use_with key) rest ≡ option_map (use_sort key) (option_and_then value_behind rest)
use_sorted key None = refl
use_sorted key (Some []) = refl
use_sorted key (Some (c ∷ value)) = go (c == 61) refl
  where
    go : (b : Bool) → (c == 61) ≡ b → use_with key (c ∷ value) ≡ option_map (use_sort key) (value_behind (c ∷ value))
    go true e = rw e refl
    go false e = rw e refl

pub use_named : (key : Key) (text : Text) → use_of key (45 ∷ 45 ∷ text) ≡ option_map (use_sort key) (named (name_of key) text)
use_named max_input text = use_sorted max_input (rest_after (name_of max_input) text)
    ∙ ap (option_map (use_sort max_input)) (sym (cut (name_of max_input) text refl))
use_named flush text = use_sorted flush (rest_after (name_of flush) text)
    ∙ ap (option_map (use_sort flush)) (sym (cut (name_of flush) text refl))

-- the reader passes the word on to what waits for a word
abbrev pub IsPlain : Text → Type 0
IsPlain word = (bytes_eq word (45 ∷ 45 ∷ []) ≡ false)
    × ((rows : List Row) (pending : Option (Text × List Text)) → other_fault shape_built None word (held rows pending) ≡ [])
    × ((rows : List Row) (pending : Option (Text × List Text)) (waiting : Waiting)
    → long_or_other rules_built waiting word (long_of word) (held rows pending) ≡ plain_word rules_built waiting word (held rows pending))

-- a word is `--`, an option, with its value or without, is refused, or is plain; bytes that begin no character are plain to
-- the reader and a fault to the definition
pub data Look (word : Text) : Type 0 where
  two_dashes : word ≡ 45 ∷ 45 ∷ [] → Look word
  option_use : (key : Key) (name : Text) (given : Option Text) → IsHyphened word → sort_of word ≡ use_sort key given
      → bytes_eq word (45 ∷ 45 ∷ []) ≡ false
      → long_of word ≡ Some (name, given) → arg_by_long rules_built name ≡ Some (rule_for key) → Look word
  refused : IsHyphened word → sort_of word ≡ fault
      → ((rows : List Row) (pending : Option (Text × List Text)) → Fails (other_fault shape_built None word (held rows pending)))
      → Look word
  plain : sort_of word ≡ positional → IsPlain word → Look word
  no_text : IsHyphened word → sort_of word ≡ fault → IsPlain word → Look word

module _ (t : ℕ) (ts : Text) where
  abbrev pub long_word : Text
  long_word = 45 ∷ 45 ∷ t ∷ ts

  abbrev pub long_name : Text
  long_name = before_first is_equals (t ∷ ts)

  abbrev pub long_value : Option Text
  long_value = cond (has_byte 61 (t ∷ ts)) (Some (after_first is_equals (t ∷ ts))) None

  pub hyphened : IsHyphened long_word
  hyphened = (45, t ∷ ts, refl)

  pub long_look : Look long_word
  long_look = go (bytes_eq (name_of max_input) long_name) (bytes_eq (name_of flush) long_name) refl refl
    where
      go : (m f : Bool) → bytes_eq (name_of max_input) long_name ≡ m → bytes_eq (name_of flush) long_name ≡ f → Look long_word
      go true f is_max is_flush = option_use max_input long_name long_value hyphened
          (rw (use_named max_input (t ∷ ts), is_max) refl) refl refl (rw is_max refl)
      go false true is_max is_flush = option_use flush long_name long_value hyphened
          (rw (use_named max_input (t ∷ ts), is_max, use_named flush (t ∷ ts), is_flush) refl) refl refl (rw (is_max, is_flush) refl)
      go false false is_max is_flush = refused hyphened
          (rw (use_named max_input (t ∷ ts), is_max, use_named flush (t ∷ ts), is_flush) refl)
          (λ rows pending. (UnknownArgument, [], rw (is_max, is_flush) refl))

pub not_same : (x y : ℕ) → (x == y) ≡ false → (y == x) ≡ false
not_same x y e = go (y == x) refl
  where
    go : (b : Bool) → (y == x) ≡ b → (y == x) ≡ false
    go false is = is
    go true is =
        let same : (x == x) ≡ false = rw (eqb-true y x is) at e in
        absurd (true≢false (sym (eq-eqb x x refl) ∙ same))

pub short_sort : (y : ℕ) (ys : Text) → (y == 45) ≡ false → sort_of (45 ∷ y ∷ ys) ≡ fault
short_sort y ys other = rw (other, not_same y 45 other) refl

pub short_look : (y : ℕ) (ys : Text) → (y == 45) ≡ false → Look (45 ∷ y ∷ ys)
unfolding flags_fault bundle_met
short_look y ys other = go (slice_get (chars (y ∷ ys)) 0) refl
  where
    go : (first : Option ℕ) → slice_get (chars (y ∷ ys)) 0 ≡ first → Look (45 ∷ y ∷ ys)
    go None e = no_text (y, ys, refl) (short_sort y ys other)
        (rw other refl, (λ rows pending. rw (other, other, e) refl), (λ rows pending waiting. rw (other, other, e) refl))
    go (Some c) e = refused (y, ys, refl) (short_sort y ys other) (λ rows pending. (UnknownArgument, [], rw (other, other, e) refl))

pub is_plain : (word : Text) → bytes_eq word (45 ∷ 45 ∷ []) ≡ false → long_of word ≡ None → short_of word ≡ None → IsPlain word
is_plain word dashes long short = (dashes, (λ rows pending. rw (dashes, long, short) refl), (λ rows pending waiting. rw (long, short) refl))

pub plain_look : (x : ℕ) (xs : Text) → (x == 45) ≡ false → Look (x ∷ xs)
plain_look x [] other = plain (rw (other, not_same x 45 other) refl) (is_plain (x ∷ []) (rw other refl) (rw other refl) (rw other refl))
plain_look x (y ∷ ys) other = plain (rw (other, not_same x 45 other) refl)
    (is_plain (x ∷ y ∷ ys) (rw other refl) (rw other refl) (rw other refl))

pub look : (word : Text) → Look word
look [] = plain refl (is_plain [] refl refl refl)
look (x ∷ []) = go (x == 45) refl
  where
    go : (b : Bool) → (x == 45) ≡ b → Look (x ∷ [])
    go true e = subst (λ (c : ℕ). Look (c ∷ [])) (sym (eqb-true x 45 e)) (plain refl (is_plain (45 ∷ []) refl refl refl))
    go false e = plain_look x [] e
look (x ∷ y ∷ ys) = go (x == 45) (y == 45) refl refl
  where
    dashed : (ys : Text) → Look (45 ∷ 45 ∷ ys)
    dashed [] = two_dashes refl
    dashed (t ∷ ts) = long_look t ts

    go : (b d : Bool) → (x == 45) ≡ b → (y == 45) ≡ d → Look (x ∷ y ∷ ys)
    go false d e f = plain_look x (y ∷ ys) e
    go true true e f = rw (eqb-true x 45 e, eqb-true y 45 f) (dashed ys)
    go true false e f = rw (eqb-true x 45 e) (short_look y ys f)
