use Rattle.std.proofs.Common.{◌≡◌, ◌-◌, ◌^◌, ◌++◌, ℕ, List, filter, ap, ap₂, sym, ◌∙◌, subst}
use Rattle.std.proofs.lemmas.List.Elements.{filter-append}
use Rattle.wu_layout.specs.Postings.{is_live}
use Rattle.wu_lists.specs.Ascending.{AscendBetween}
use Rattle.wu_lists.proofs.Ascending.{addresses_increase, ascend-filter, frames_in_order}
use Rattle.wu_lists.proofs.Copies.{ascend-back}
use Rattle.wu_lists.proofs.Tallying.{ascend-front}
use Rattle.wu_parts.proofs.gathered.Gathered.within.Goals as goal

pub put_within-requires-clause-ascend : goal.put_within-requires-clause-ascend
put_within-requires-clause-ascend c =
    ascend-front 0 (2 ^ 64 - 1) c.self.inside.blocks c.self.inside.memory c.self.invariant

pub put_within-requires-clause-order : goal.put_within-requires-clause-order
put_within-requires-clause-order c = frames_in_order c.args.frames.now c.requires.apart c.requires.bounded

pub put_within-requires-2-clause-ascend : goal.put_within-requires-2-clause-ascend
put_within-requires-2-clause-ascend c =
    subst (AscendBetween 0 (2 ^ 64 - 1)) (sym c.as_slice.ensures)
    (ascend-back 0 (2 ^ 64 - 1) c.self.inside.blocks c.self.inside.memory c.self.invariant)

pub put_within-requires-2-clause-order : goal.put_within-requires-2-clause-order
put_within-requires-2-clause-order c = frames_in_order c.args.frames.now c.requires.apart c.requires.bounded

pub returns-clause-ascending : goal.returns-clause-ascending
returns-clause-ascending c =
    let frames = c.args.frames.now in
    let live : List ℕ → List ℕ = filter (is_live frames) in
    let blocks : List ℕ = c.self.inside.blocks in
    let memory : List ℕ = c.self.inside.memory in
    let made : c.from.result ≡ live (blocks ++ memory) =
    c.from.ensures
    ∙ c.in_ok-put_within-2.ensures.ok
    ∙ ap₂ (λ (xs ys : List ℕ). xs ++ live ys)
    (c.in_ok-put_within.ensures ∙ ap (λ (l : List ℕ). l ++ live blocks) c.new-found.ensures.items) c.as_slice.ensures
    ∙ sym (filter-append (is_live frames) blocks memory) in
    addresses_increase 0 (2 ^ 64 - 1) c.from.result
    (subst (AscendBetween 0 (2 ^ 64 - 1)) (sym made) (ascend-filter (is_live frames) 0 (2 ^ 64 - 1) (blocks ++ memory) c.self.invariant))
