-- The postings in memory: for each term the addresses at which it stands, ascending. It is the in-memory index of an indexer
-- that writes parts; see Büttcher, Clarke and Cormack, Information Retrieval, chapter 4.
use Rattle.std.specs.Prelude.{◌≡◌, ℕ, ◌+◌, ◌==◌, if◌then◌else◌, List, [], ◌++◌, length, nat_eq, unwrap_or}
use Rattle.std.specs.Map.{lookup}
use Rattle.std.specs.Cmp.Lexicographic.{pointwise}
use Rattle.wu_layout.specs.Postings.{Posting, Ascend, addresses_of, placed_from}

-- terms, each once, with the addresses at which it stands
abbrev pub Lists : Type 0
Lists = List (List ℕ × List ℕ)

-- the lists, how many postings they have, an address that isn't above theirs, where the last flush ended, and one that is
pub record Memory : Type 0 where
  pub lists : Lists
  pub stored : ℕ
  pub low : ℕ
  pub end : ℕ

abbrev pub no_postings : Memory
no_postings = record { lists = []; stored = 0; low = 0; end = 0 }

-- without the postings: the end stays, since no address is used twice
abbrev pub emptied : Memory → Memory
emptied memory = record { lists = []; stored = 0; low = memory.end; end = memory.end }

-- the addresses at which memory has the term
abbrev pub held : Memory → List ℕ → List ℕ
held memory term = unwrap_or (lookup (pointwise nat_eq term) memory.lists) []

-- these are memory's postings, in the order of their addresses, which are below the high one and none below the low one
pub record HasPostings (low high : ℕ) (memory : Memory) (postings : List Posting) : Type 0 where
  pub addresses : (term : List ℕ) → held memory term ≡ addresses_of term postings
  pub stored : memory.stored ≡ length postings
  pub ascend : Ascend low high postings

-- what there was stays, and the terms stand at the addresses from start on besides, one address each
pub record Gains (start : ℕ) (terms : List (List ℕ)) (old new : Memory) : Type 0 where
  pub addresses : (term : List ℕ) → held new term ≡ held old term ++ addresses_of term (placed_from start terms)
  pub stored : new.stored ≡ old.stored + length terms
  pub end : new.end ≡ (if length terms == 0 then old.end else start + length terms)
