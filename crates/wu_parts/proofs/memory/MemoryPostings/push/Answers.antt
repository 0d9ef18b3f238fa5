use Rattle.std.proofs.Common.{◌≡◌, ℕ, ◌+◌, List, [], ◌∷◌, ◌++◌, length, refl, ap, sym, subst, arith, ◌∙◌}
use Rattle.wu_layout.specs.Postings.{Posting}
use Rattle.wu_parts.specs.declared.addressing.Addressing.{Addressing}
use Rattle.wu_parts.specs.Memory.{HasPostings, Memory}
use Rattle.wu_parts.specs.Chains.{end_of, memory_of}
use Rattle.wu_parts.specs.Lists.{with_posting}
use Rattle.wu_parts.proofs.Chaining.{chains-given, memory-given}
use Rattle.wu_parts.proofs.Putting.{has-with_posting}
use Rattle.wu_parts.proofs.RisingAddresses.{are_by-higher}
use Rattle.wu_parts.proofs.memory.MemoryPostings.push.Goals as goal

pub invariant_of-self-2 : goal.invariant_of-self-2
invariant_of-self-2 c =
    let low : ℕ = c.self.inside.low in
    let addressing : Addressing = c.self.inside.addressing in
    let links : List ℕ = c.self.inside.before.items in
    let longer : List ℕ = c.put.new.links.items in
    let next : ℕ = end_of addressing links in
    let before : Memory = memory_of low addressing links c.self.inside.chains.entries in
    let given : memory_of low addressing longer c.put.new.chains.entries ≡ with_posting before next c.args.term.now =
    memory-given low addressing links longer c.args.term.now c.self.inside.chains.entries
    c.put.new.chains.entries c.self.invariant.breaks c.in_ok-put.ensures.links c.in_ok-put.ensures.lists in
    let end : next + 1 ≡ end_of addressing longer = sym (ap (λ (m : Memory). m.end) given) in
    let postings : List Posting = c.self.invariant.postings ++ record { address = next; term = c.args.term.now } ∷ [] in
    record {
      chains = chains-given links longer c.args.term.now c.self.inside.chains.entries
          c.put.new.chains.entries c.requires.term c.self.invariant.chains c.in_ok-put.ensures.links c.in_ok-put.ensures.lists;
      places = c.in_ok-put.ensures.bounded;
      rising = c.self.invariant.rising;
      breaks = are_by-higher (length links) (length longer) addressing.breaks.items (omega (arith, c.in_ok-put.ensures.links))
          c.self.invariant.breaks;
      postings = postings;
      has =
          subst (λ (n : ℕ). HasPostings low n (memory_of low addressing longer c.put.new.chains.entries) postings) end
          (subst (λ (m : Memory). HasPostings low (next + 1) m postings) (sym given)
          (has-with_posting low next before c.args.term.now c.self.invariant.postings refl c.self.invariant.has));
      bounded = omega (arith, end, ap (λ (m : Memory). m.end) c.self.view_is, c.requires.bounded);
    }

pub returns-clause-ok : goal.returns-clause-ok
returns-clause-ok c =
    memory-given c.self.inside.low c.self.inside.addressing c.self.inside.before.items c.put.new.links.items c.args.term.now
    c.self.inside.chains.entries c.put.new.chains.entries c.self.invariant.breaks c.in_ok-put.ensures.links c.in_ok-put.ensures.lists
    ∙ ap (λ (m : Memory). with_posting m m.end c.args.term.now) c.self.view_is
