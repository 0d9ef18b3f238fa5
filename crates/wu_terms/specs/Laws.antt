-- A user's terms come from candidates, which may be words of other texts too.
use Rattle.std.specs.Prelude.{◌≡◌, ℕ, List, Contains, filter, map, nat_lt}
use Rattle.wu_token.specs.Tokens.{tokens_of}
use Rattle.wu_terms.specs.Terms.{counted, terms_of, words_with}

-- the terms are all those of the texts, and maybe others
abbrev pub HaveTerms : List (List ℕ) → List (List ℕ) → Type 0
HaveTerms terms texts = (text term : List ℕ) → Contains texts text → Contains (tokens_of text) term → Contains terms term

-- of the candidates among the terms those that a text has, each with the number of the texts that have it
abbrev pub CandidatesGiveTheTerms : Type 0
CandidatesGiveTheTerms = (prefix : List ℕ) (terms texts : List (List ℕ)) → HaveTerms terms texts
    → filter (λ line. nat_lt 0 line.files) (map (counted texts) (words_with prefix terms)) ≡ terms_of prefix texts
