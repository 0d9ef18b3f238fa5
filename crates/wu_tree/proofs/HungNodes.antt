-- Nodes with how they hang by links: their order, the search of one of them, and one link more.
use Rattle.std.proofs.Common.{◌≡◌, ◌≢◌, ℕ, zero, suc, ◌+◌, ◌<◌, List, [], ◌∷◌, ◌++◌, length, get_or, set, refl, ap, sym, ◌∙◌, subst, Bool}
use Rattle.std.proofs.Common.{true, false, not, ◌&&◌, arith, ⊎_elim, Result, Ok, Err}
use Rattle.std.specs.Prelude.{Option, Some, map, ◌==◌, MatchOption}
use Rattle.std.specs.Result.{result_ok}
use Rattle.std.specs.declared.cmp.Ordering.TheVariants.{Less, Greater}
use Rattle.std.specs.Ordering.{nat_cmp, is_eq, is_lt, ordering_index, ordering_reverse}
use Rattle.std.specs.Cmp.{nat_cmp_total}
use Rattle.std.specs.List.{AllByRecursion, HoldsAt, list_any}
use Rattle.std.specs.List.Sorted.{IsStrictlySortedBy, IsNonDecreasingBy, IsPartitionPoint, IsBinarySearchResult, IsSearchInRange}
use Rattle.std.specs.Map.{keys_of}
use Rattle.std.specs.BTreeMap.{is_at}
use Rattle.std.proofs.lemmas.List.Sorted.{searchable_from_sorted}
use Rattle.std.proofs.lemmas.Bool.{cases_lt, or_right}
use Rattle.std.proofs.lemmas.Map.Lookups.{exact_unsigned}
use Rattle.std.proofs.lemmas.Map.Made.{is_some-lookup}
use borrow.Author.Tests.{eq-eqb, ne_eqb}
use Rattle.wu_tree.specs.declared.events.Node.{Node}
use Rattle.wu_tree.specs.declared.tallies.Hung.{Hung}
use Rattle.wu_tree.specs.declared.tallies.LinkedNode.{LinkedNode}
use Rattle.wu_tree.specs.FileSystems.{Link}
use Rattle.wu_tree.specs.Lists.{child_test, has_number, hung_node, listed, one_more, with_link}
use Rattle.wu_base.proofs.MapEntries.{number_itself}
use Rattle.wu_tree.proofs.ListTests.{neighbours}
use Rattle.wu_tree.proofs.ReachedDirectories.{hung-append}

-- the numbers of nodes
abbrev pub numbers : List LinkedNode → List ℕ
numbers nodes = map (λ n. n.ino) nodes

-- ---- the search by number
reversed : (a b : ℕ) → nat_cmp b a ≡ ordering_reverse (nat_cmp a b)
reversed a b = nat_cmp_total.antisymm b a

pub searchable : (nodes : List LinkedNode) (ino : ℕ) → IsStrictlySortedBy nat_cmp (numbers nodes)
    → IsNonDecreasingBy (λ n. ordering_index (nat_cmp n.ino ino)) nodes
searchable nodes ino s =
    searchable_from_sorted nat_cmp_total (λ (n : LinkedNode). n.ino) nodes ino
    (λ k d l h. ap is_lt (reversed (get_or nodes k d).ino (get_or nodes (k + 1) d).ino
    ∙ ap ordering_reverse (neighbours nat_cmp_total (λ (n : LinkedNode). n.ino) nodes s k d h)))

module _ (ino : ℕ) where
  none : (nodes : List LinkedNode) → ((k : ℕ) (d : LinkedNode) → k < length nodes → is_eq (nat_cmp ino (get_or nodes k d).ino) ≡ false)
      → has_number nodes ino ≡ false
  none [] h = refl
  none (n ∷ nodes) h = let f : is_eq (nat_cmp ino n.ino) ≡ false = h zero n (omega arith) in rw f
      (none nodes (λ k d l. h (suc k) d (omega arith)))

  not_found : (nodes : List LinkedNode) (i : ℕ)
      → IsPartitionPoint (λ (n : LinkedNode). nat_cmp n.ino ino ≡ Less) (λ (n : LinkedNode). nat_cmp n.ino ino ≡ Greater) nodes i
      → has_number nodes ino ≡ false
  not_found nodes i p = none nodes
      (λ k d l. ap is_eq (reversed (get_or nodes k d).ino ino)
      ∙ ⊎_elim (λ a. ap (λ o. is_eq (ordering_reverse o)) (p.0 k d (omega arith) a))
      (λ b. ap (λ o. is_eq (ordering_reverse o)) (p.1 k d b l)) (cases_lt k i))

  pub found : (nodes : List LinkedNode) (k : ℕ) → k < length nodes → HoldsAt (λ (n : LinkedNode). n.ino ≡ ino) nodes k
      → has_number nodes ino ≡ true
  found [] k l h = absurd (omega arith)
  found (n ∷ nodes) zero l h = let f : is_eq (nat_cmp ino n.ino) ≡ true = subst (λ (q : ℕ). is_eq (nat_cmp ino q) ≡ true) (sym (h n))
      (number_itself ino) in rw f refl
  found (n ∷ nodes) (suc k) l h = or_right (is_eq (nat_cmp ino n.ino)) (list_any (is_at (nat_cmp ino)) (numbers nodes))
      (found nodes k (omega arith) (λ d. h d))

  pub search_tells : (nodes : List LinkedNode) (r : Result ℕ ℕ) → IsStrictlySortedBy nat_cmp (numbers nodes)
      → IsSearchInRange r (length nodes)
      → IsBinarySearchResult (λ (n : LinkedNode). nat_cmp n.ino ino) nodes r
      → MatchOption (result_ok r) (has_number nodes ino ≡ false)
      (λ place. (place < length nodes) × HoldsAt (λ (n : LinkedNode). n.ino ≡ ino) nodes place)
  search_tells nodes (Ok k) s b p = (b, λ d. exact_unsigned (get_or nodes k d).ino ino (p d))
  search_tells nodes (Err i) s b p = not_found nodes i (p (searchable nodes ino s))

-- ---- one link more
less_apart : (a b : ℕ) → nat_cmp a b ≡ Less → a ≢ b
less_apart a b h = λ e.
    let g : is_eq (nat_cmp a a) ≡ false = subst (λ (q : ℕ). is_eq (nat_cmp a q) ≡ false) (sym e) (ap is_eq h) in let f : is_eq (nat_cmp a a)
    ≡ true = number_itself a in cc

module _ (parent child : ℕ) where
  -- nodes past the child
  past : (ino : ℕ) (nodes : List LinkedNode) → ino ≡ child → AllByRecursion (λ q. nat_cmp ino q ≡ Less) (numbers nodes)
      → nodes ≡ map (with_link parent child) nodes
  past ino [] e a = refl
  past ino (n ∷ nodes) e a =
      let f : (child == n.ino) ≡ false = ne_eqb child n.ino (λ q. less_apart ino n.ino a.0 (e ∙ q)) in rw f
      (ap (λ (l : List LinkedNode). n ∷ l) (past ino nodes e a.1))

  before : (nodes : List LinkedNode) (k : ℕ) (d : LinkedNode) (ino : ℕ) → k < length nodes → (get_or nodes k d).ino ≡ child
      → AllByRecursion (λ q. nat_cmp ino q ≡ Less) (numbers nodes) → (child == ino) ≡ false
  before [] k d ino l e a = absurd (omega arith)
  before (n ∷ nodes) zero d ino l e a = ne_eqb child ino (λ q. less_apart ino n.ino a.0 (sym q ∙ sym e))
  before (n ∷ nodes) (suc k) d ino l e a = before nodes k d ino (omega arith) e a.1

  pub hung_more : (nodes : List LinkedNode) (k : ℕ) (d : LinkedNode) (more : Hung) → IsStrictlySortedBy nat_cmp (numbers nodes)
      → k < length nodes → (get_or nodes k d).ino ≡ child → more ≡ one_more (get_or nodes k d).hung parent
      → set nodes k (record { ino = (get_or nodes k d).ino; node = (get_or nodes k d).node; hung = Some more })
      ≡ map (with_link parent child) nodes
  unfolding IsStrictlySortedBy
  hung_more [] k d more s l e h = absurd (omega arith)
  hung_more (n ∷ nodes) zero d more s l e h =
      let f : (child == n.ino) ≡ true = eq-eqb child n.ino (sym e) in rw (f, h)
      (ap (λ (l : List LinkedNode). record { ino = n.ino; node = n.node; hung = Some (one_more n.hung parent) } ∷ l)
      (past n.ino nodes e s.0))
  hung_more (n ∷ nodes) (suc k) d more s l e h =
      let f : (child == n.ino) ≡ false = before nodes k d n.ino (omega arith) e s.0 in rw f
      (ap (λ (l : List LinkedNode). n ∷ l) (hung_more nodes k d more s.1 (omega arith) e h))

pub one_link_more : (links : List Link) (l : Link) (nodes : List (ℕ × Node))
    → map (with_link l.0.0 l.1) (map (hung_node links) nodes) ≡ map (hung_node (links ++ l ∷ [])) nodes
one_link_more links l [] = refl
one_link_more links l (n ∷ nodes) =
    ap (λ (h : Option Hung). record { ino = n.0; node = n.1; hung = h } ∷ map (with_link l.0.0 l.1) (map (hung_node links) nodes))
    (sym (hung-append links l n.0))
    ∙ ap (λ (ns : List LinkedNode). hung_node (links ++ l ∷ []) n ∷ ns) (one_link_more links l nodes)

pub same_numbers : (links : List Link) (nodes : List (ℕ × Node)) → numbers (map (hung_node links) nodes) ≡ keys_of nodes
same_numbers links [] = refl
same_numbers links (n ∷ nodes) = ap (λ (l : List ℕ). n.0 ∷ l) (same_numbers links nodes)

-- whether a link names a node that is there and isn't the root
pub told_child : (links : List Link) (nodes : List (ℕ × Node)) (hung : List LinkedNode) (child : ℕ) → hung ≡ map (hung_node links) nodes
    → (has_number hung child && not (child == 1)) ≡ child_test (listed nodes [] [] []) child
told_child links nodes hung child h =
    ap (λ (l : List ℕ). list_any (is_at (nat_cmp child)) l && not (child == 1)) (ap numbers h ∙ same_numbers links nodes)
    ∙ ap (λ (b : Bool). b && not (child == 1)) (sym (is_some-lookup (is_at (nat_cmp child)) nodes))
