use Rattle.std.proofs.Common.{ℕ, List, ◌∷◌, ap, sym, ◌∙◌}
use Rattle.std.specs.Map.{keys_of}
use Rattle.wu_parts.specs.Memory.{Memory}
use Rattle.wu_parts.proofs.MoreCandidates.{adding_begins, adding_ends, adding_goes_on, names_are_keys, names_of}
use Rattle.wu_parts.proofs.memory.MemoryPostings.add_terms.Goals as goal

pub loop-term-init : goal.loop-term-init
loop-term-init c =
    adding_begins c.args.words.now (keys_of c.args.self.now.lists) (names_of c.into_iter-term-iterator.result)
    (ap names_of (c.into_iter-term-iterator.ensures.into_iter_gives ∙ c.iter-term-items.ensures.rest)
    ∙ sym (names_are_keys c.self.inside.addressing c.self.inside.before.items c.self.inside.chains.entries)
    ∙ ap (λ (m : Memory). keys_of m.lists) c.self.view_is)

pub loop-term-preserved : goal.loop-term-preserved
loop-term-preserved c =
    adding_goes_on c.args.words.now c.loop-term.words c.add_term.new.self (keys_of c.args.self.now.lists)
    (names_of c.loop-term.term-iterator) (names_of c.next.new.self) c.as_slice.result.now c.loop-term.invariant
    (ap names_of c.in-Some.ensures.steps ∙ ap (λ (term : List ℕ). term ∷ names_of c.next.new.self) (sym c.as_slice.ensures.value))
    c.in_ok-add_term.ensures.ok

pub returns : goal.returns
returns c =
    adding_ends c.args.words.now c.loop-term.words (keys_of c.args.self.now.lists) (names_of c.loop-term.term-iterator)
    c.loop-term.invariant (ap names_of c.in-None.ensures.steps.0)
