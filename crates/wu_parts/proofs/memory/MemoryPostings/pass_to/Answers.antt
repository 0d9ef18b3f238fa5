use Rattle.std.proofs.Common.{◌≡◌, ◌≤◌, ℕ, ◌-◌, List, [], ◌∷◌, ◌++◌, length, ap, ap₂, ◌∙◌, arith, rules}
use Rattle.wu_parts.specs.declared.addressing.Addressing.{Addressing}
use Rattle.wu_parts.specs.Memory.{Memory}
use Rattle.wu_parts.specs.Chains.{end_of, memory_of}
use Rattle.wu_parts.proofs.Chaining.{breaks-broken, breaks-fresh, end-broken, end-fresh, memory-broken, memory-empty, rising-broken}
use Rattle.wu_parts.proofs.Chaining.{rising-fresh}
use Rattle.wu_parts.proofs.Putting.{has-raised}
use Rattle.wu_parts.proofs.memory.MemoryPostings.pass_to.Goals as goal
use Rattle.wu_parts.proofs.memory.MemoryPostings.pass_to.Goals.{In_ok-break_at}

pub returns-then-is_empty-clause-ok : goal.returns-then-is_empty-clause-ok
returns-then-is_empty-clause-ok c =
    let links : List ℕ = c.self.inside.before.items in
    let other : Addressing = c.from_start.result in
    let none : length links ≡ 0 = search rules in
    memory-empty c.self.inside.low c.self.inside.addressing other links c.self.inside.chains.entries none c.self.invariant.chains
    ∙ ap₂ (λ (m : Memory) (n : ℕ). record m { end = n }) c.self.view_is
    (end-fresh other links c.args.address c.from_start.ensures.start c.from_start.ensures.breaks none)

pub invariant_of-self : goal.invariant_of-self
invariant_of-self c =
    let links : List ℕ = c.self.inside.before.items in
    let addressing : Addressing = c.self.inside.addressing in
    let other : Addressing = c.from_start.result in
    let none : length links ≡ 0 = search rules in
    let end : end_of other links ≡ c.args.address =
    end-fresh other links c.args.address c.from_start.ensures.start c.from_start.ensures.breaks none in
    record {
      chains = c.self.invariant.chains;
      places = c.self.invariant.places;
      rising = rising-fresh other c.from_start.ensures.breaks;
      breaks = breaks-fresh other (length links) c.from_start.ensures.breaks;
      bounded = omega (arith, end, c.requires.bounded);
      postings = c.self.invariant.postings;
      has = has-raised c.self.inside.low (end_of addressing links) (end_of other links) (end_of other links) _ _ c.self.invariant.postings
          (memory-empty c.self.inside.low addressing other links c.self.inside.chains.entries none c.self.invariant.chains)
          (omega (arith, end, ap (λ (m : Memory). m.end) c.self.view_is, c.requires.after)) c.self.invariant.has;
    }

-- the break is behind all places
broken : (c : In_ok-break_at) → c.break_at.new.self.breaks.items ≡ c.self.inside.addressing.breaks.items
    ++ record { place = length c.self.inside.before.items; start = c.args.address - length c.self.inside.before.items } ∷ []
broken c =
    let place : c.len.result ≡ length c.self.inside.before.items = search rules in
    c.in_ok-break_at.ensures.ok
    ∙ ap (λ (n : ℕ). c.self.inside.addressing.breaks.items ++ record { place = n; start = c.args.address - n } ∷ []) place

after : (c : In_ok-break_at) → end_of c.self.inside.addressing c.self.inside.before.items ≤ c.args.address
after c = omega (arith, ap (λ (m : Memory). m.end) c.self.view_is, c.requires.after)

end : (c : In_ok-break_at) → end_of c.break_at.new.self c.self.inside.before.items ≡ c.args.address
end c =
    end-broken c.self.inside.addressing c.break_at.new.self c.self.inside.before.items c.args.address c.in_ok-break_at.ensures.start
    (broken c) c.self.invariant.breaks (after c) c.self.invariant.rising

same : (c : In_ok-break_at) → memory_of c.self.inside.low c.break_at.new.self c.self.inside.before.items c.self.inside.chains.entries
    ≡ record (memory_of c.self.inside.low c.self.inside.addressing c.self.inside.before.items c.self.inside.chains.entries) {
      end = end_of c.break_at.new.self c.self.inside.before.items;
    }
same c =
    memory-broken c.self.inside.addressing c.break_at.new.self c.self.inside.before.items c.args.address c.in_ok-break_at.ensures.start
    (broken c) c.self.inside.low c.self.inside.chains.entries c.self.invariant.chains

pub invariant_of-self-2 : goal.invariant_of-self-2
invariant_of-self-2 c =
    let links : List ℕ = c.self.inside.before.items in
    let addressing : Addressing = c.self.inside.addressing in
    let other : Addressing = c.break_at.new.self in
    let start = c.in_ok-break_at.ensures.start in
    let to_end : end_of other links ≡ c.args.address = end c in
    record {
      chains = c.self.invariant.chains;
      places = c.self.invariant.places;
      rising = rising-broken addressing other links c.args.address start (broken c) c.self.invariant.breaks (after c)
          c.self.invariant.rising;
      breaks = breaks-broken addressing other links c.args.address start (broken c) c.self.invariant.breaks;
      bounded = omega (arith, to_end, c.requires.bounded);
      postings = c.self.invariant.postings;
      has = has-raised c.self.inside.low (end_of addressing links) (end_of other links) (end_of other links) _ _ c.self.invariant.postings
          (same c) (omega (arith, to_end, after c)) c.self.invariant.has;
    }

pub returns-clause-ok : goal.returns-clause-ok
returns-clause-ok c = same c ∙ ap₂ (λ (m : Memory) (n : ℕ). record m { end = n }) c.self.view_is (end c)
