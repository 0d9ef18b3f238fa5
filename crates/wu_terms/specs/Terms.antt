-- A user's terms: the words of her texts that begin with a prefix, ascending by bytes, each with the number of the texts that have it.
-- Nothing else of the index tells in them: neither a word of another text, nor how often a word stands in one.
use Rattle.std.specs.Prelude.{ℕ, Bool, ◌&&◌, ◌||◌, not, List, filter, map, nat_eq, count_by}
use Rattle.std.specs.List.{flat_map, list_any, starts_with}
use Rattle.std.specs.Ordering.{nat_cmp, on, then_cmp, flip_args}
use Rattle.std.specs.declared.cmp.Ordering.{Ordering}
use Rattle.std.specs.Cmp.Lexicographic.{pointwise, slice_cmp}
use Rattle.wu_base.specs.SortedOnce.{sorted_once}
use Rattle.wu_token.specs.Tokens.{file_start, file_end, line_start, line_end, tokens_of}
use Rattle.wu_terms.specs.declared.listing.TermFiles.{TermFiles}

-- the term is one of these two
abbrev pub is_either : List ℕ → List ℕ → List ℕ → Bool
is_either one other term = pointwise nat_eq one term || pointwise nat_eq other term

-- the term is a tag, and no word
abbrev pub is_tag : List ℕ → Bool
is_tag term = is_either file_start file_end term || is_either line_start line_end term

-- the term is a word that begins with the prefix
abbrev pub is_candidate : List ℕ → List ℕ → Bool
is_candidate prefix term = starts_with nat_eq term prefix && not (is_tag term)

-- of these terms the words that begin with the prefix, ascending by bytes, each once
abbrev pub words_with : List ℕ → List (List ℕ) → List (List ℕ)
words_with prefix terms = sorted_once (slice_cmp nat_cmp) (filter (is_candidate prefix) terms)

-- the text has the word
abbrev pub has_word : List ℕ → List ℕ → Bool
has_word word text = list_any (λ term. pointwise nat_eq term word) (tokens_of text)

-- the word, and how many of the texts have it
abbrev pub counted : List (List ℕ) → List ℕ → TermFiles
counted texts word = record { word = word; files = count_by (has_word word) texts }

-- the terms of a user who may read these texts
abbrev pub terms_of : List ℕ → List (List ℕ) → List TermFiles
terms_of prefix texts = map (counted texts) (words_with prefix (flat_map tokens_of texts))

-- the word of more texts first; of those of as many, the one whose bytes come first
abbrev pub compare_by_files : TermFiles → TermFiles → Ordering
compare_by_files = then_cmp (flip_args (on (λ line. line.files) nat_cmp)) (on (λ line. line.word) (slice_cmp nat_cmp))

-- the same terms by that order
abbrev pub top_of : List TermFiles → List TermFiles
top_of lines = sorted_once compare_by_files lines
