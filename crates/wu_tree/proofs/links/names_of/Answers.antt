use Rattle.std.proofs.Common.{◌≡◌, ◌∙◌, ℕ, List, [], ◌∷◌, refl, sym, ap, subst, Vec, Global, arith}
use Rattle.std.specs.Prelude.{map, IfOk}
use Rattle.std.specs.declared.cmp.Ordering.{Ordering}
use Rattle.std.specs.Ordering.{nat_cmp}
use Rattle.std.specs.Cmp.Lexicographic.{slice_cmp}
use Rattle.std.specs.List.Sorted.{IsStrictlySortedBy}
use Rattle.std.specs.Map.{keys_of}
use Rattle.std.specs.BTreeMap.{IsFromIterResult}
use Rattle.std.proofs.lemmas.Cmp.{nat_list_cmp_total, on_total}
use Rattle.std.proofs.lemmas.Iterator.Adapters.{fact_from_collect, YieldsList-from_vec}
use Rattle.std.proofs.lemmas.List.{take_all}
use Rattle.std.proofs.lemmas.Map.Lookups.{exact_bytes}
use Rattle.wu_tree.specs.declared.events.LinkRec.{LinkRec}
use Rattle.wu_tree.specs.Lists.{named_child}
use Rattle.wu_tree.proofs.LinkRuns.{sorted_by}
use Rattle.wu_tree.proofs.MadeMaps.{made_read}
use Rattle.wu_tree.proofs.links.names_of.Goals as goal

abbrev Name : Type 0
Name = Vec ℕ Global

abbrev name_cmp : Name → Name → Ordering
name_cmp x y = slice_cmp nat_cmp x.items y.items

in_order : (names : List (Name × ℕ)) (links : List LinkRec) → map (λ (e : Name × ℕ). (e.0.items, e.1)) names ≡ map named_child links
    → IsStrictlySortedBy (slice_cmp nat_cmp) (map (λ (l : LinkRec). l.name) links)
    → IsStrictlySortedBy (slice_cmp nat_cmp) (map (λ (n : Name). n.items) (keys_of names))
in_order names links h s =
    subst (λ (l : List (List ℕ)). IsStrictlySortedBy (slice_cmp nat_cmp) l)
    (sym (firsts names ∙ ap (map (λ (p : List ℕ × ℕ). p.0)) h ∙ named links)) s
  where
    firsts : (names : List (Name × ℕ)) → map (λ (n : Name). n.items) (keys_of names)
        ≡ map (λ (p : List ℕ × ℕ). p.0) (map (λ (e : Name × ℕ). (e.0.items, e.1)) names)
    firsts [] = refl
    firsts (n ∷ names) = ap (λ (l : List (List ℕ)). n.0.items ∷ l) (firsts names)

    named : (links : List LinkRec) → map (λ (p : List ℕ × ℕ). p.0) (map named_child links) ≡ map (λ (l : LinkRec). l.name) links
    named [] = refl
    named (l ∷ links) = ap (λ (r : List (List ℕ)). l.name ∷ r) (named links)

pub returns : goal.returns
returns c =
    let names : List (Name × ℕ) = c.loop-link.names.items in
    let made = fact_from_collect (IsFromIterResult name_cmp) c.collect.result c.collect.ensures.ran
    (YieldsList-from_vec names c.into_iter.ensures.rest (c.into_iter.ensures.len ∙ c.loop-link.names.ok.0)) in
    let all : map (λ (e : Name × ℕ). (e.0.items, e.1)) names ≡ map named_child c.args.links.now = c.loop-link.invariant
    ∙ ap (map named_child) (take_all c.loop-link.link-index c.args.links.now (omega arith)) in
    made_read (on_total (λ (n : Name). n.items) nat_list_cmp_total) (λ (n : Name). n.items) (λ x y. exact_bytes x.items y.items) names
    c.in_ok-names-2.names (sorted_by (slice_cmp nat_cmp) (λ (n : Name). n.items) (keys_of names)
    (in_order names c.args.links.now all c.requires))
    (subst (λ o. IfOk o (IsFromIterResult name_cmp names)) c.in_ok-names-2.was made)
    ∙ all
