-- Chains of places: what a new link leaves, what the map of chains says once it has a place more, and a chain walked back.
use Rattle.std.proofs.Common.{◌≡◌, ℕ, zero, suc, ◌+◌, ◌-◌, ◌<◌, ◌≤◌, nat_eq, nat_le, Bool, true, false, cond, List, [], ◌∷◌, ◌++◌, length}
use Rattle.std.proofs.Common.{filter, reverse, get_or, refl, ap, ap₂, sym, ◌∙◌, subst, arith, unwrap_or, None, Some, Vec}
use Rattle.std.proofs.Common.{Global, append_assoc}
use Rattle.std.specs.List.{AllByRecursion}
use Rattle.std.specs.Map.{lookup, set_value}
use Rattle.std.specs.Cmp.Lexicographic.{pointwise}
use Rattle.std.proofs.lemmas.Bool.{le-leb, lt-leb}
use Rattle.std.proofs.lemmas.List.{get_or_append_left, get_or_push, length_push, map-append, reverse-append}
use Rattle.std.proofs.lemmas.List.Elements.{filter-append}
use Rattle.indexmap.specs.IndexMap.{insert_entry}
use Rattle.wu_base.specs.declared.limits.TheConstants.{ADDRESSES_MAX}
use Rattle.wu_parts.specs.declared.addressing.Addressing.{Addressing}
use Rattle.wu_parts.specs.declared.addressing.Break.{Break}
use Rattle.wu_parts.specs.declared.chains.Chain.{Chain}
use Rattle.wu_token.specs.Words.{IsTerm}
use Rattle.wu_parts.specs.Memory.{Lists, Memory}
use Rattle.wu_lists.specs.Ascending.{AscendBetween}
use Rattle.wu_parts.specs.Lists.{IsList, with_address, with_posting}
use Rattle.wu_parts.specs.Addressing.{AreBy, IsRising, NeverFall, address_of, counted}
use Rattle.wu_parts.specs.Chains.{places_from, places_of, list_of, lists_of, AreChains, moved, all_moved, end_of, memory_of}
use Rattle.wu_lists.proofs.Ascending.{ascend-bounds, ascend-filter, ascend-higher, ascend-last, ascend-length, ascend-lower, ascend-push}
use Rattle.wu_parts.proofs.Moving.{ascend-moved}
use Rattle.wu_parts.proofs.Putting.{found_in, lists-with_address}
use Rattle.wu_parts.proofs.RisingAddresses.{are_by-push, at_break, before_break, counted_from, never_fall-push, one_further}

abbrev Entries : Type 0
Entries = List (Vec ℕ Global × Chain)

-- the test of a key of the map
abbrev pub is_key : List ℕ → Vec ℕ Global → Bool
is_key term key = pointwise nat_eq term key.items

-- the test of keys, as the map has it
abbrev pub same_key : Vec ℕ Global → Vec ℕ Global → Bool
same_key k other = pointwise nat_eq k.items other.items

-- ---- more links change no chain

places_from-append : (links more : List ℕ) (count newest : ℕ) → AscendBetween 0 (length links) (places_from links count newest)
    → places_from (links ++ more) count newest ≡ places_from links count newest
places_from-append links more zero newest a = refl
places_from-append links more (suc older) newest a =
    let link : ℕ = get_or links newest 0 in
    let parts = ascend-last 0 (length links) newest (places_from links older link) a in
    ap (λ (n : ℕ). places_from (links ++ more) older n ++ newest ∷ []) (get_or_append_left links more 0 newest parts.1)
    ∙ ap (λ (l : List ℕ). l ++ newest ∷ [])
    (places_from-append links more older link
    (ascend-higher 0 newest (length links) (places_from links older link) (omega (arith, parts.1)) parts.0))

pub lists_of-append : (links more : List ℕ) (es : Entries) → AreChains links es → lists_of (links ++ more) es ≡ lists_of links es
lists_of-append links more [] a = refl
lists_of-append links more (e ∷ es) a =
    ap₂ ◌∷◌ (ap (λ (l : List ℕ). (e.0.items, l)) (places_from-append links more e.1.count e.1.newest a.0.ascend))
    (lists_of-append links more es a.1)

length-places_from : (links : List ℕ) (count newest : ℕ) → length (places_from links count newest) ≡ count
length-places_from links zero newest = refl
length-places_from links (suc older) newest =
    let link : ℕ = get_or links newest 0 in
    omega (arith, length_push (places_from links older link) newest, length-places_from links older link)

-- without links there are no chains
pub no_chains : (es : Entries) → AreChains [] es → es ≡ []
no_chains [] a = refl
no_chains (e ∷ es) a = absurd (omega (arith, a.0.filled, ascend-length 0 0 (places_of [] e.1) a.0.ascend))

-- ---- the chain that a look-up finds

pub found_chain : (links : List ℕ) (term : List ℕ) (es : Entries) (chain : Chain) → AreChains links es
    → lookup (is_key term) es ≡ Some chain → AscendBetween 0 (length links) (places_of links chain)
found_chain links term [] chain a h = absurd cc
found_chain links term (e ∷ es) chain a h =
    elim (is_key term e.0) as
    (λ b. cond b (Some e.1) (lookup (is_key term) es) ≡ Some chain → AscendBetween 0 (length links) (places_of links chain)) [
      | true ↦ λ q.
          let same : e.1 ≡ chain = cc in
          subst (λ (c : Chain). AscendBetween 0 (length links) (places_of links c)) same a.0.ascend
      | false ↦ λ q. found_chain links term es chain a.1 q
    ] h

-- a chain has at most as many places as there are links
pub few_places : (links : List ℕ) (chain : Chain) → AscendBetween 0 (length links) (places_of links chain) → chain.count ≤ length links
few_places links chain a =
    omega (arith, ascend-length 0 (length links) (places_of links chain) a, length-places_from links chain.count chain.newest)

pub held-found : (addressing : Addressing) (links : List ℕ) (term : List ℕ) (es : Entries) (chain : Chain)
    → lookup (is_key term) es ≡ Some chain
    → found_in term (all_moved addressing (lists_of links es)) ≡ moved addressing (places_of links chain)
held-found addressing links term [] chain h = absurd cc
held-found addressing links term (e ∷ es) chain h =
    elim (is_key term e.0) as
    (λ b. cond b (Some e.1) (lookup (is_key term) es) ≡ Some chain
    → unwrap_or (cond b (Some (moved addressing (places_of links e.1)))
    (lookup (pointwise nat_eq term) (all_moved addressing (lists_of links es))))
    []
    ≡ moved addressing (places_of links chain)) [
      | true ↦ λ q. let same : e.1 ≡ chain = cc in ap (λ (c : Chain). moved addressing (places_of links c)) same
      | false ↦ λ q. held-found addressing links term es chain q
    ] h

pub held-absent : (addressing : Addressing) (links : List ℕ) (term : List ℕ) (es : Entries) → lookup (is_key term) es ≡ None
    → found_in term (all_moved addressing (lists_of links es)) ≡ []
held-absent addressing links term [] h = refl
held-absent addressing links term (e ∷ es) h =
    elim (is_key term e.0) as
    (λ b. cond b (Some e.1) (lookup (is_key term) es) ≡ None
    → unwrap_or (cond b (Some (moved addressing (places_of links e.1)))
    (lookup (pointwise nat_eq term) (all_moved addressing (lists_of links es))))
    []
    ≡ []) [
      | true ↦ λ q. absurd cc
      | false ↦ λ q. held-absent addressing links term es q
    ] h

-- ---- a chain is written back

-- one that has another place at its end
pushed-lists_of : (links : List ℕ) (term : List ℕ) (place : ℕ) (es : Entries) (chain more : Chain) → lookup (is_key term) es ≡ Some chain
    → places_of links more ≡ places_of links chain ++ place ∷ []
    → lists_of links (set_value (is_key term) es more) ≡ with_address term place (lists_of links es)
pushed-lists_of links term place [] chain more h s = absurd cc
pushed-lists_of links term place (e ∷ es) chain more h s =
    elim (is_key term e.0) as
    (λ b. cond b (Some e.1) (lookup (is_key term) es) ≡ Some chain
    → lists_of links (cond b ((e.0, more) ∷ es) (e ∷ set_value (is_key term) es more))
    ≡ cond b ((e.0.items, places_of links e.1 ++ place ∷ []) ∷ lists_of links es)
    (list_of links e ∷ with_address term place (lists_of links es))) [
      | true ↦ λ q.
          let same : e.1 ≡ chain = cc in
          let places : places_of links more ≡ places_of links e.1 ++ place ∷ [] =
          s ∙ ap (λ (c : Chain). places_of links c ++ place ∷ []) (sym same) in
          ap (λ (l : List ℕ). (e.0.items, l) ∷ lists_of links es) places
      | false ↦ λ q. ap (λ (l : Lists). list_of links e ∷ l) (pushed-lists_of links term place es chain more q s)
    ] h

-- one that is as it was
pub same-lists_of : (links : List ℕ) (term : List ℕ) (es : Entries) (chain : Chain) → lookup (is_key term) es ≡ Some chain
    → lists_of links (set_value (is_key term) es chain) ≡ lists_of links es
same-lists_of links term [] chain h = refl
same-lists_of links term (e ∷ es) chain h =
    elim (is_key term e.0) as
    (λ b. cond b (Some e.1) (lookup (is_key term) es) ≡ Some chain
    → lists_of links (cond b ((e.0, chain) ∷ es) (e ∷ set_value (is_key term) es chain)) ≡ lists_of links (e ∷ es)) [
      | true ↦ λ q.
          let same : e.1 ≡ chain = cc in
          ap (λ (c : Chain). (e.0.items, places_of links c) ∷ lists_of links es) (sym same)
      | false ↦ λ q. ap (λ (l : Lists). list_of links e ∷ l) (same-lists_of links term es chain q)
    ] h

-- a chain of a new term goes last
new-lists_of : (links : List ℕ) (place : ℕ) (es : Entries) (k : Vec ℕ Global) (chain : Chain) → lookup (is_key k.items) es ≡ None
    → places_of links chain ≡ place ∷ []
    → lists_of links (insert_entry same_key es k chain) ≡ with_address k.items place (lists_of links es)
new-lists_of links place [] k chain h t = ap (λ (l : List ℕ). (k.items, l) ∷ []) t
new-lists_of links place (e ∷ es) k chain h t =
    elim (same_key k e.0) as
    (λ b. cond b (Some e.1) (lookup (is_key k.items) es) ≡ None
    → lists_of links (cond b ((e.0, chain) ∷ es) (e ∷ insert_entry same_key es k chain))
    ≡ cond b ((e.0.items, places_of links e.1 ++ place ∷ []) ∷ lists_of links es)
    (list_of links e ∷ with_address k.items place (lists_of links es))) [
      | true ↦ λ q. absurd cc
      | false ↦ λ q. ap (λ (l : Lists). list_of links e ∷ l) (new-lists_of links place es k chain q t)
    ] h

-- ---- a place is given to a term

one_more : (links : List ℕ) (chain : Chain) → AscendBetween 0 (length links) (places_of links chain)
    → places_of (links ++ chain.newest ∷ []) (record { newest = length links; count = chain.count + 1 })
    ≡ places_of links chain ++ length links ∷ []
one_more links chain a =
    let longer : List ℕ = links ++ chain.newest ∷ [] in
    let next : chain.count + 1 ≡ suc chain.count = omega arith in
    ap (λ (n : ℕ). places_from longer n (length links)) next
    ∙ ap (λ (n : ℕ). places_from longer chain.count n ++ length links ∷ []) (get_or_push links chain.newest 0 (length links) refl)
    ∙ ap (λ (l : List ℕ). l ++ length links ∷ []) (places_from-append links (chain.newest ∷ []) chain.count chain.newest a)

-- a term that has a chain
pub given_to_chain : (links : List ℕ) (term : List ℕ) (es : Entries) (chain : Chain) → AreChains links es
    → lookup (is_key term) es ≡ Some chain
    → lists_of (links ++ chain.newest ∷ []) (set_value (is_key term) es (record { newest = length links; count = chain.count + 1 }))
    ≡ with_address term (length links) (lists_of links es)
given_to_chain links term es chain a h =
    let longer : List ℕ = links ++ chain.newest ∷ [] in
    let ascend = found_chain links term es chain a h in
    let places = one_more links chain ascend
    ∙ ap (λ (l : List ℕ). l ++ length links ∷ []) (sym (places_from-append links (chain.newest ∷ []) chain.count chain.newest ascend)) in
    pushed-lists_of longer term (length links) es chain (record { newest = length links; count = chain.count + 1 }) h places
    ∙ ap (with_address term (length links)) (lists_of-append links (chain.newest ∷ []) es a)

-- a new term
pub given_to_term : (links : List ℕ) (link : ℕ) (term : List ℕ) (es : Entries) (k : Vec ℕ Global) → AreChains links es
    → lookup (is_key term) es ≡ None → k.items ≡ term
    → lists_of (links ++ link ∷ []) (insert_entry same_key es k (record { newest = length links; count = 1 }))
    ≡ with_address term (length links) (lists_of links es)
given_to_term links link term es k a h s =
    new-lists_of (links ++ link ∷ []) (length links) es k (record { newest = length links; count = 1 })
    (ap (λ (l : List ℕ). lookup (is_key l) es) s ∙ h) refl
    ∙ ap₂ (λ (l : List ℕ) (ls : Lists). with_address l (length links) ls) s (lists_of-append links (link ∷ []) es a)

-- ---- places as addresses

pub all_moved-with_address : (addressing : Addressing) (term : List ℕ) (place : ℕ) (lists : Lists)
    → all_moved addressing (with_address term place lists) ≡ with_address term (address_of addressing place) (all_moved addressing lists)
all_moved-with_address addressing term place [] = refl
all_moved-with_address addressing term place (list ∷ lists) =
    let address : ℕ = address_of addressing place in
    elim (pointwise nat_eq term list.0) as
    (λ b. all_moved addressing (cond b ((list.0, list.1 ++ place ∷ []) ∷ lists) (list ∷ with_address term place lists))
    ≡ cond b ((list.0, moved addressing list.1 ++ address ∷ []) ∷ all_moved addressing lists)
    ((list.0, moved addressing list.1) ∷ with_address term address (all_moved addressing lists))) [
      | true ↦ ap (λ (l : List ℕ). (list.0, l) ∷ all_moved addressing lists) (map-append (address_of addressing) list.1 (place ∷ []))
      | false ↦ ap (λ (l : Lists). (list.0, moved addressing list.1) ∷ l) (all_moved-with_address addressing term place lists)
    ]

-- ---- a chain is walked back

pub places_of-older : (links : List ℕ) (chain : Chain) (count : ℕ) → chain.count ≡ count + 1
    → places_of links chain ≡ places_of links (record { newest = get_or links chain.newest 0; count = count }) ++ chain.newest ∷ []
places_of-older links chain count e =
    let next : chain.count ≡ suc count = omega arith in
    ap (λ (n : ℕ). places_from links n chain.newest) next

-- none of the addresses is the low one or above it
filter-below : (low first high : ℕ) (xs : List ℕ) → high ≤ low → AscendBetween first high xs → filter (nat_le low) xs ≡ []
filter-below low first high [] l a = refl
filter-below low first high (x ∷ xs) l a =
    let end : x + 1 ≤ high = ascend-bounds (x + 1) high xs a.1 in
    rw (lt-leb low x (omega arith)) (filter-below low (x + 1) high xs l a.1)

module _ (addressing : Addressing) (low : ℕ) where
  abbrev pub from_low : List ℕ → List ℕ
  from_low places = filter (nat_le low) (moved addressing places)

  -- the newest place is taken over
  pub walk_more : (whole places older : List ℕ) (place : ℕ) (found more : List ℕ) → places ≡ older ++ place ∷ []
      → low ≤ address_of addressing place → more ≡ found ++ address_of addressing place ∷ []
      → from_low places ++ reverse found ≡ whole → from_low older ++ reverse more ≡ whole
  walk_more whole places older place found more e l m h =
      let address : ℕ = address_of addressing place in
      let kept : from_low (older ++ place ∷ []) ≡ from_low older ++ address ∷ [] =
      ap (filter (nat_le low)) (map-append (address_of addressing) older (place ∷ []))
      ∙ filter-append (nat_le low) (moved addressing older) (address ∷ [])
      ∙ ap (λ (b : Bool). from_low older ++ cond b (address ∷ []) []) (le-leb low address l) in
      ap (λ (l : List ℕ). from_low older ++ reverse l) m
      ∙ ap (λ (l : List ℕ). from_low older ++ l) (reverse-append found (address ∷ []))
      ∙ sym (append_assoc (from_low older) (address ∷ []) (reverse found))
      ∙ ap (λ (l : List ℕ). l ++ reverse found) (sym kept ∙ ap from_low (sym e))
      ∙ h

  -- where the newest place is below the low address, all are
  pub walk_stops : (links : List ℕ) (chain : Chain) → 0 < chain.count → AscendBetween 0 (length links) (places_of links chain)
      → IsRising addressing → address_of addressing chain.newest < low → from_low (places_of links chain) ≡ []
  walk_stops links chain c a r l =
      let older : List ℕ = places_of links (record { newest = get_or links chain.newest 0; count = chain.count - 1 }) in
      let parts : places_of links chain ≡ older ++ chain.newest ∷ [] = places_of-older links chain (chain.count - 1) (omega arith) in
      let before = ascend-last 0 (length links) chain.newest older (subst (AscendBetween 0 (length links)) parts a) in
      let first : ℕ = address_of addressing 0 in
      let newest : ℕ = address_of addressing chain.newest in
      let ascend : AscendBetween first (newest + 1) (moved addressing older ++ newest ∷ []) =
      ascend-push first newest newest (moved addressing older) (omega arith) (ascend-moved addressing 0 chain.newest older r before.0) in
      ap from_low parts
      ∙ ap (filter (nat_le low)) (map-append (address_of addressing) older (chain.newest ∷ []))
      ∙ filter-below low first (newest + 1) (moved addressing older ++ newest ∷ []) (omega arith) ascend

pub newest_below : (links : List ℕ) (chain : Chain) → 0 < chain.count → AscendBetween 0 (length links) (places_of links chain)
    → chain.newest < length links
newest_below links chain c a =
    let older : List ℕ = places_of links (record { newest = get_or links chain.newest 0; count = chain.count - 1 }) in
    let parts : places_of links chain ≡ older ++ chain.newest ∷ [] = places_of-older links chain (chain.count - 1) (omega arith) in
    (ascend-last 0 (length links) chain.newest older (subst (AscendBetween 0 (length links)) parts a)).1

-- the chain without its newest place ascends too
pub older_ascends : (high place : ℕ) (places older : List ℕ) → places ≡ older ++ place ∷ [] → AscendBetween 0 high places
    → AscendBetween 0 high older
older_ascends high place places older e a =
    let parts = ascend-last 0 high place older (subst (AscendBetween 0 high) e a) in
    ascend-higher 0 place high older (omega (arith, parts.1)) parts.0

-- what is found in a walk ascends
pub walk_ascends : (addressing : Addressing) (low : ℕ) (links : List ℕ) (chain : Chain)
    → AscendBetween 0 (length links) (places_of links chain) → IsRising addressing → end_of addressing links ≤ ADDRESSES_MAX
    → AscendBetween 0 ADDRESSES_MAX (from_low addressing low (places_of links chain))
walk_ascends addressing low links chain a r b =
    let all : List ℕ = moved addressing (places_of links chain) in
    let first : ℕ = address_of addressing 0 in
    ascend-filter (nat_le low) 0 ADDRESSES_MAX all
    (ascend-lower 0 first ADDRESSES_MAX all (omega arith)
    (ascend-higher first (end_of addressing links) ADDRESSES_MAX all b
    (ascend-moved addressing 0 (length links) (places_of links chain) r a)))

pub no_places : (links : List ℕ) (chain : Chain) → chain.count ≡ 0 → places_of links chain ≡ []
no_places links chain e = ap (λ (n : ℕ). places_from links n chain.newest) e

-- ---- what memory keeps

pub chains-given : (links longer : List ℕ) (term : List ℕ) (es more : Entries) → IsTerm term → AreChains links es
    → length longer ≡ length links + 1 → lists_of longer more ≡ with_address term (length links) (lists_of links es)
    → AreChains longer more
chains-given links longer term es more t a n h =
    let given : AllByRecursion (IsList (length links + 1)) (lists_of longer more) =
    subst (AllByRecursion (IsList (length links + 1))) (sym h)
    (lists-with_address term (length links) (length links) (lists_of links es) t (omega arith) a) in
    subst (λ (end : ℕ). AllByRecursion (IsList end) (lists_of longer more)) (sym n) given

pub memory-given : (low : ℕ) (addressing : Addressing) (links longer : List ℕ) (term : List ℕ) (es more : Entries)
    → AreBy (length links) addressing.breaks.items → length longer ≡ length links + 1
    → lists_of longer more ≡ with_address term (length links) (lists_of links es)
    → memory_of low addressing longer more ≡ with_posting (memory_of low addressing links es) (end_of addressing links) term
memory-given low addressing links longer term es more b n h =
    let make : Lists → ℕ → ℕ → Memory = λ lists stored end. record { lists = lists; stored = stored; low = low; end = end } in
    let end : end_of addressing longer ≡ end_of addressing links + 1 =
    ap (address_of addressing) n ∙ one_further addressing.start addressing.breaks.items (length links) b in
    ap₂ (λ (lists : Lists) (stored : ℕ). make lists stored (end_of addressing longer))
    (ap (all_moved addressing) h ∙ all_moved-with_address addressing term (length links) (lists_of links es)) n
    ∙ ap (make (with_address term (end_of addressing links) (all_moved addressing (lists_of links es))) (length links + 1)) end

-- without links there are no postings, and the first address may be any
pub memory-empty : (low : ℕ) (addressing other : Addressing) (links : List ℕ) (es : Entries) → length links ≡ 0 → AreChains links es
    → memory_of low other links es ≡ record (memory_of low addressing links es) { end = end_of other links }
memory-empty low addressing other [] es n a =
    let make : Lists → Memory = λ lists. record { lists = lists; stored = 0; low = low; end = end_of other [] } in
    let none : es ≡ [] = no_chains es a in
    ap make
    (ap (λ (l : Entries). all_moved other (lists_of [] l)) none
    ∙ sym (ap (λ (l : Entries). all_moved addressing (lists_of [] l)) none))
memory-empty low addressing other (link ∷ links) es n a = absurd (omega arith)

-- addresses that are counted from one start on
pub end-fresh : (addressing : Addressing) (links : List ℕ) (address : ℕ) → addressing.start ≡ address → addressing.breaks.items ≡ []
    → length links ≡ 0 → end_of addressing links ≡ address
end-fresh addressing links address s b n =
    ap₂ (λ (start : ℕ) (bs : List Break). counted start bs (length links)) s b ∙ omega (arith, n)

pub rising-fresh : (addressing : Addressing) → addressing.breaks.items ≡ [] → IsRising addressing
rising-fresh addressing b = subst (NeverFall 0 addressing.start) (sym b) tt

pub breaks-fresh : (addressing : Addressing) (place : ℕ) → addressing.breaks.items ≡ [] → AreBy place addressing.breaks.items
breaks-fresh addressing place b = subst (AreBy place) (sym b) tt

-- a break behind all places
module _ (addressing broken : Addressing) (links : List ℕ) (address : ℕ) (start : broken.start ≡ addressing.start)
    (more : broken.breaks.items ≡ addressing.breaks.items ++ record { place = length links; start = address - length links } ∷ []) where
  abbrev next : Break
  next = record { place = length links; start = address - length links }

  same_address : (place : ℕ) → place < length links → address_of broken place ≡ address_of addressing place
  same_address place l =
      ap₂ (λ (s : ℕ) (bs : List Break). counted s bs place) start more
      ∙ before_break addressing.start addressing.breaks.items next place l

  all_moved_alike : (places : List ℕ) (low : ℕ) → AscendBetween low (length links) places → moved broken places ≡ moved addressing places
  all_moved_alike [] low a = refl
  all_moved_alike (place ∷ places) low a =
      let top : place + 1 ≤ length links = ascend-bounds (place + 1) (length links) places a.1 in
      ap₂ ◌∷◌ (same_address place (omega arith)) (all_moved_alike places (place + 1) a.1)

  same_lists : (lists : Lists) → AllByRecursion (IsList (length links)) lists → all_moved broken lists ≡ all_moved addressing lists
  same_lists [] a = refl
  same_lists (list ∷ lists) a =
      ap₂ ◌∷◌ (ap (λ (l : List ℕ). (list.0, l)) (all_moved_alike list.1 0 a.0.ascend)) (same_lists lists a.1)

  pub end-broken : AreBy (length links) addressing.breaks.items → end_of addressing links ≤ address → IsRising addressing
      → end_of broken links ≡ address
  end-broken b l r =
      let from : addressing.start + length links ≤ end_of addressing links =
      counted_from 0 addressing.start addressing.breaks.items (length links) r in
      ap₂ (λ (s : ℕ) (bs : List Break). counted s bs (length links)) start more
      ∙ at_break addressing.start addressing.breaks.items next b
      ∙ omega (arith, from, l)

  pub memory-broken : (low : ℕ) (es : Entries) → AreChains links es
      → memory_of low broken links es ≡ record (memory_of low addressing links es) { end = end_of broken links }
  memory-broken low es a =
      let make : Lists → Memory = λ lists. record { lists = lists; stored = length links; low = low; end = end_of broken links } in
      ap make (same_lists (lists_of links es) a)

  pub rising-broken : AreBy (length links) addressing.breaks.items → end_of addressing links ≤ address → IsRising addressing
      → IsRising broken
  rising-broken b l r =
      let from : addressing.start + length links ≤ end_of addressing links =
      counted_from 0 addressing.start addressing.breaks.items (length links) r in
      subst (λ (s : ℕ). NeverFall 0 s broken.breaks.items) (sym start)
      (subst (NeverFall 0 addressing.start) (sym more)
      (never_fall-push 0 addressing.start addressing.breaks.items next r (omega arith) b (omega (arith, from, l))))

  pub breaks-broken : AreBy (length links) addressing.breaks.items → AreBy (length links) broken.breaks.items
  breaks-broken b = subst (AreBy (length links)) (sym more) (are_by-push (length links) addressing.breaks.items next b (omega arith))
