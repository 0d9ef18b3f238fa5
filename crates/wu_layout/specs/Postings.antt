-- Postings, as in an inverted index with addresses of its own (a schema-independent index): each says that a term stands at an
-- address. See Büttcher, Clarke and Cormack, Information Retrieval, chapters 2 and 4.
use Rattle.std.specs.Prelude.{ℕ, ◌+◌, ◌≤◌, not, Bool, nat_eq, List, [], ◌∷◌, filter, map}
use Rattle.std.specs.List.{list_any}
use Rattle.std.specs.Cmp.Lexicographic.{pointwise}
use Rattle.wu_base.specs.declared.addresses.Range.{Range}
use Rattle.wu_base.specs.Ranges.{is_in}

-- the term stands at the address
pub record Posting : Type 0 where
  pub address : ℕ
  pub term : List ℕ

-- the postings of a text's terms, one address each, from start on
abbrev pub placed_from : ℕ → List (List ℕ) → List Posting
placed_from start [] = []
placed_from start (term ∷ terms) = record { address = start; term = term } ∷ placed_from (start + 1) terms

-- the posting is one of the term
abbrev pub is_of : List ℕ → Posting → Bool
is_of term posting = pointwise nat_eq posting.term term

-- the addresses at which the term stands, in the order of the postings
abbrev pub addresses_of : List ℕ → List Posting → List ℕ
addresses_of term postings = map (λ posting. posting.address) (filter (is_of term) postings)

-- the postings whose addresses are in the range
abbrev pub cut : Range → List Posting → List Posting
cut range postings = filter (λ posting. is_in range posting.address) postings

-- some of the postings have addresses in the range
abbrev pub has_some : Range → List Posting → Bool
has_some range postings = list_any (λ posting. is_in range posting.address) postings

-- the address is in one of the live ranges
abbrev pub is_live : List Range → ℕ → Bool
is_live ranges address = list_any (λ range. is_in range address) ranges

-- The live postings: the others are dead, for the texts that they were made of are gone or were replaced.
abbrev pub live_of : List Range → List Posting → List Posting
live_of ranges postings = filter (λ posting. is_live ranges posting.address) postings

abbrev pub dead_of : List Range → List Posting → List Posting
dead_of ranges postings = filter (λ posting. not (is_live ranges posting.address)) postings

-- what a search is given of a term: its addresses within the frames, which are the live ranges of the files that a user may read
abbrev pub fetched : List Range → List Posting → List ℕ → List ℕ
fetched frames postings term = filter (is_live frames) (addresses_of term postings)

-- the addresses ascend strictly, none below the low one, and all below the high one
abbrev pub Ascend : ℕ → ℕ → List Posting → Type 0
Ascend low high [] = low ≤ high
Ascend low high (posting ∷ postings) = (low ≤ posting.address) × Ascend (posting.address + 1) high postings
