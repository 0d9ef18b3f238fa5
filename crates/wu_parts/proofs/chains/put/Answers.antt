use Rattle.std.proofs.Common.{◌≡◌, ◌≤◌, ℕ, List, [], ◌∷◌, ◌++◌, length, ◌∙◌, sym, ap, arith, rules, ◌+◌}
use Rattle.wu_parts.specs.declared.chains.Chain.{Chain}
use Rattle.wu_parts.specs.Chains.{lists_of}
use Rattle.wu_parts.proofs.Chaining.{is_key, given_to_chain, given_to_term, same-lists_of, found_chain, few_places}
use Rattle.std.specs.Map.{set_value}
use Rattle.wu_parts.proofs.chains.put.Goals as goal

pub returns-in_err-push_link-in-Some-clause-same_lists : goal.returns-in_err-push_link-in-Some-clause-same_lists
returns-in_err-push_link-in-Some-clause-same_lists c =
    let links = c.in_err-push_link-in-Some.ensures.err in
    let same : lists_of c.push_link.new.links.items (c.get_mut.follows.lender c.in-Some.chain.now).entries
    ≡ lists_of c.args.links.now.items c.args.chains.now.entries =
    ap (λ (l : List ℕ). lists_of l (c.get_mut.follows.lender c.in-Some.chain.now).entries) links
    ∙ ap (lists_of c.args.links.now.items) (c.get_mut.follows.holds c.in-Some.chain.now).0
    ∙ same-lists_of c.args.links.now.items c.args.term.now c.args.chains.now.entries c.in-Some.chain.now (sym c.in-Some.ensures.value) in
    search (same, rules)

pub with-requires : goal.with-requires
with-requires c =
    let links : List ℕ = c.args.links.now.items in
    let place : c.in_ok-place.place ≡ length links = search rules in
    let few : c.in-Some.chain.now.count ≤ length links =
    few_places links c.in-Some.chain.now
    (found_chain links c.args.term.now c.args.chains.now.entries c.in-Some.chain.now c.requires (sym c.in-Some.ensures.value)) in
    omega (arith, place, few, c.in_ok-place.ensures.bounded)

pub returns-in_ok-push_link-in-Some-clause-lists : goal.returns-in_ok-push_link-in-Some-clause-lists
returns-in_ok-push_link-in-Some-clause-lists c =
    let links : List ℕ = c.args.links.now.items in
    let chain : Chain = c.in-Some.chain.now in
    let place : c.in_ok-place.place ≡ length links = search rules in
    let more : c.with.result ≡ record { newest = length links; count = chain.count + 1 } =
    c.with.ensures ∙ ap (λ (n : ℕ). record { newest = n; count = chain.count + 1 }) place in
    ap (λ (l : List ℕ). lists_of l (c.get_mut.follows.lender c.with.result).entries) c.in_ok-push_link-in-Some.ensures.ok
    ∙ ap (lists_of (links ++ chain.newest ∷ [])) (c.get_mut.follows.holds c.with.result).0
    ∙ ap (λ (w : Chain). lists_of (links ++ chain.newest ∷ []) (set_value (is_key c.args.term.now) c.args.chains.now.entries w)) more
    ∙ given_to_chain links c.args.term.now c.args.chains.now.entries chain c.requires (sym c.in-Some.ensures.value)

pub returns-in_ok-push-in-None-clause-lists : goal.returns-in_ok-push-in-None-clause-lists
returns-in_ok-push-in-None-clause-lists c =
    let links : List ℕ = c.args.links.now.items in
    let place : c.in_ok-place.place ≡ length links = search rules in
    let longer : c.push.new.self.items ≡ links ++ c.in_ok-place.place ∷ [] =
    c.in_ok-push-in-None.ensures.items ∙ ap (λ (l : List ℕ). l ++ c.in_ok-place.place ∷ []) c.in_ok-make_room-in-None.ensures.items in
    rw (c.in_ok-insert-in-None.ensures.entries, c.get_mut.follows.holds-at-none, longer, place)
    (given_to_term links (length links) c.args.term.now c.args.chains.now.entries c.in_ok-from_slice-in-None.field-0 c.requires
    (sym c.in-None.ensures.value) c.in_ok-from_slice-in-None.ensures.items)
