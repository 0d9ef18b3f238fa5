-- Chains of places, as in a hash table with chains whose links lie in one vector: each posting has a place, all terms share one list
-- of links, and a place's link is the place before it of the same term. A new posting adds one link at the end, and changes none.
-- They are the linked lists of postings of an in-memory index; see Büttcher, Clarke and Cormack, Information Retrieval, chapter 4.
use Rattle.std.specs.Prelude.{ℕ, zero, suc, ◌^◌, ◌<◌, ◌≤◌, List, [], ◌∷◌, ◌++◌, length, map, slice_index}
use Rattle.std.specs.List.{AllByRecursion}
use Rattle.std.specs.declared.vec.Vec.{Vec}
use Rattle.std.specs.declared.alloc.Global.{Global}
use Rattle.wu_base.specs.declared.limits.TheConstants.{ADDRESSES_MAX}
use Rattle.wu_parts.specs.declared.addressing.Addressing.{Addressing}
use Rattle.wu_parts.specs.declared.chains.Chain.{Chain}
use Rattle.wu_layout.specs.Postings.{Posting}
use Rattle.wu_parts.specs.Memory.{HasPostings, Lists, Memory}
use Rattle.wu_parts.specs.Addressing.{AreBy, IsRising, address_of}
use Rattle.wu_parts.specs.Lists.{IsList}

-- so many places, ascending: the newest last, and before it those from the place on that its link names; the first one's link names
-- none, and isn't asked
abbrev pub places_from : List ℕ → ℕ → ℕ → List ℕ
places_from links zero newest = []
places_from links (suc older) newest = places_from links older (slice_index links newest) ++ newest ∷ []

abbrev pub places_of : List ℕ → Chain → List ℕ
places_of links chain = places_from links chain.count chain.newest

-- what a map's entries say: of each term its places
abbrev pub list_of : List ℕ → Vec ℕ Global × Chain → List ℕ × List ℕ
list_of links entry = (entry.0.items, places_of links entry.1)

abbrev pub lists_of : List ℕ → List (Vec ℕ Global × Chain) → Lists
lists_of links entries = map (list_of links) entries

-- the addresses of places
abbrev pub moved : Addressing → List ℕ → List ℕ
moved addressing places = map (address_of addressing) places

-- a term and its chain
abbrev pub Chained : Type 0
Chained = List ℕ × Chain

abbrev pub chained : Vec ℕ Global × Chain → Chained
chained entry = (entry.0.items, entry.1)

-- a term and its addresses
abbrev pub addressed : Addressing → List ℕ → Chained → List ℕ × List ℕ
addressed addressing links entry = (entry.0, moved addressing (places_of links entry.1))

-- the places ascend below the end of the links, so each link names a place before its own
abbrev pub AreChains : List ℕ → List (Vec ℕ Global × Chain) → Type 0
AreChains links entries = AllByRecursion (IsList (length links)) (lists_of links entries)

abbrev pub all_moved : Addressing → Lists → Lists
all_moved addressing lists = map (λ list. (list.0, moved addressing list.1)) lists

-- the address behind all of the places
abbrev pub end_of : Addressing → List ℕ → ℕ
end_of addressing links = address_of addressing (length links)

-- what contracts see of postings in chains, one at each place, where no address is below low
abbrev pub memory_of : ℕ → Addressing → List ℕ → List (Vec ℕ Global × Chain) → Memory
memory_of low addressing links entries = record {
  lists = all_moved addressing (lists_of links entries);
  stored = length links;
  low = low;
  end = end_of addressing links;
}

-- what memory keeps at every moment
pub record IsKept (low : ℕ) (addressing : Addressing) (links : List ℕ) (entries : List (Vec ℕ Global × Chain)) : Type 0 where
  pub chains : AreChains links entries
  pub places : length links < 2 ^ 32
  pub rising : IsRising addressing
  pub breaks : AreBy (length links) addressing.breaks.items
  pub bounded : end_of addressing links ≤ ADDRESSES_MAX
  pub postings : List Posting
  pub has : HasPostings low (end_of addressing links) (memory_of low addressing links entries) postings
