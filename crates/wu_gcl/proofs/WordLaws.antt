-- Words joined by spaces are those words again.
use Rattle.std.proofs.Common.{◌≡◌, ◌≢◌, ℕ, zero, suc, ◌+◌, ◌<◌, ◌≤◌, Bool, true, false, cond, List, [], ◌∷◌, ◌++◌, length, take, refl, ◌∙◌}
use Rattle.std.proofs.Common.{ap, None, length-take, ltb-true, eqb-true, arith, eqb, map}
use Rattle.std.specs.Prelude.{not, nat_lt, filter}
use Rattle.std.specs.List.{AllByRecursion, slice_split, onto_first, join_with_byte}
use Rattle.std.proofs.lemmas.Bool.Decides.{nat_tests}
use Rattle.std.proofs.lemmas.List.{take_all, length-map}
use Rattle.std.proofs.lemmas.List.Elements.{All-from_recursion}
use Rattle.std.proofs.lemmas.List.Splits.{slice_split_none, slice_split_at}
use Rattle.wu_token.specs.Tokens.{file_start, file_end, line_start, line_end}
use Rattle.wu_gcl.specs.Reading.{tag_at}
use Rattle.wu_gcl.proofs.Texts.{All-append}
use Rattle.wu_token.specs.Words.{is_word_byte, is_separator, has_bytes, runs_of, word_of, words_of}
use Rattle.wu_token.proofs.OwnWords.{IsWordByte, IsWord, no_separator}

split-join : (word : List ℕ) (words : List (List ℕ)) → AllByRecursion IsWord (word ∷ words)
    → slice_split is_separator (join_with_byte 32 (word ∷ words)) ≡ word ∷ words
split-join word [] all = slice_split_none is_separator word
    (All-from_recursion (λ byte. is_separator byte ≡ false) word (no_separator word all.0.bytes))
split-join word (next ∷ words) all =
    slice_split_at is_separator word 32 (join_with_byte 32 (next ∷ words))
    (All-from_recursion (λ byte. is_separator byte ≡ false) word (no_separator word all.0.bytes)) refl
    ∙ ap (λ (rest : List (List ℕ)). word ∷ rest) (split-join next words all.1)

filter_all : (words : List (List ℕ)) → AllByRecursion IsWord words → filter has_bytes words ≡ words
filter_all [] all = refl
filter_all (word ∷ words) all =
    let some : 0 < length word = all.0.some in
    let test : has_bytes word ≡ true = grind (arith, nat_tests) in
    rw (test, filter_all words all.1) refl

map_kept : (words : List (List ℕ)) → AllByRecursion IsWord words → map word_of words ≡ words
map_kept [] all = refl
map_kept (word ∷ words) all = rw (all.0.own, map_kept words all.1) refl

-- words joined by spaces are those words again
pub words_of-join : (word : List ℕ) (words : List (List ℕ)) → AllByRecursion IsWord (word ∷ words)
    → words_of (join_with_byte 32 (word ∷ words)) ≡ word ∷ words
unfolding words_of runs_of
words_of-join word words all =
    ap (λ (pieces : List (List ℕ)). map word_of (filter has_bytes pieces)) (split-join word words all)
    ∙ ap (map word_of) (filter_all (word ∷ words) all) ∙ map_kept (word ∷ words) all

quote_is_none : (byte : ℕ) → byte ≡ 34 → is_word_byte byte ≡ true → ⊥
quote_is_none byte is word =
    let quote : is_word_byte 34 ≡ true = rw is at word in
    cc

space_is_none : ◌≡◌ {A = ℕ} 32 34 → ⊥
space_is_none is = omega arith

none_some : 0 < 0 → ⊥
none_some some = omega arith

-- no quote stands in a word
no_quote : (word : List ℕ) → AllByRecursion IsWordByte word → AllByRecursion (λ b. b ≢ 34) word
no_quote [] all = tt
no_quote (byte ∷ word) all = (λ is. quote_is_none byte is all.0, no_quote word all.1)

pub no_quote_in : (words : List (List ℕ)) → AllByRecursion IsWord words → AllByRecursion (λ b. b ≢ 34) (join_with_byte 32 words)
no_quote_in [] all = tt
no_quote_in (word ∷ []) all = no_quote word all.0.bytes
no_quote_in (word ∷ next ∷ words) all =
    All-append (λ b. b ≢ 34) word (32 ∷ join_with_byte 32 (next ∷ words)) (no_quote word all.0.bytes)
    (space_is_none, no_quote_in (next ∷ words) all.1)

other_than : (byte : ℕ) (test : Bool) → eqb byte 60 ≡ test → is_word_byte byte ≡ true → test ≡ false
other_than byte false same is = refl
other_than byte true same is =
    let tag : is_word_byte 60 ≡ true = rw (eqb-true byte 60 same) at is in
    cc

no_tag : (byte : ℕ) (rest : List ℕ) → is_word_byte byte ≡ true → tag_at (byte ∷ rest) ≡ None
unfolding file_start file_end line_start line_end
no_tag byte rest is =
    let other : eqb byte 60 ≡ false = other_than byte (eqb byte 60) refl is in
    rw other refl

-- no phrase of words is a tag
pub no_tag_in : (word : List ℕ) (words : List (List ℕ)) → AllByRecursion IsWord (word ∷ words)
    → tag_at (join_with_byte 32 (word ∷ words)) ≡ None
no_tag_in [] words all = absurd (none_some all.0.some)
no_tag_in (byte ∷ word) [] all = no_tag byte word all.0.bytes.0
no_tag_in (byte ∷ word) (next ∷ words) all = no_tag byte (word ++ (32 ∷ join_with_byte 32 (next ∷ words))) all.0.bytes.0
