use Rattle.std.proofs.Common.{◌≡◌, ℕ, ◌-◌, ◌^◌, List, [], filter, nat_le, ap, sym, subst, ◌∙◌, arith, Vec, Global}
use Rattle.std.proofs.lemmas.Result.{IfOk-weaker}
use Rattle.wu_base.specs.declared.limits.TheConstants.{ADDRESSES_MAX}
use Rattle.wu_base.specs.declared.addresses.Range.{Range}
use Rattle.wu_layout.specs.Postings.{Posting, is_live}
use Rattle.wu_parts.specs.Memory.{HasPostings, Memory, held}
use Rattle.wu_parts.specs.declared.addressing.Addressing.{Addressing}
use Rattle.wu_parts.specs.Chains.{moved, places_of}
use Rattle.wu_lists.specs.Ascending.{AscendBetween}
use Rattle.wu_lists.proofs.Ascending.{ascend-filter, ascend-higher, frames_in_order}
use Rattle.wu_parts.proofs.Moving.{addresses-ascend}
use Rattle.wu_lists.proofs.Cutting.{filter-from}
use Rattle.wu_parts.proofs.Chaining.{found_chain, held-found, held-absent}
use Rattle.wu_parts.proofs.memory.MemoryPostings.addresses_near.Goals as goal

pub first_start-low-requires : goal.first_start-low-requires
first_start-low-requires c = frames_in_order c.args.frames.now c.requires.apart c.requires.bounded

pub addresses_from-requires-clause-chain : goal.addresses_from-requires-clause-chain
addresses_from-requires-clause-chain c =
    rw c.deref.ensures.value
    (found_chain c.self.inside.before.items c.args.term.now c.self.inside.chains.entries c.in-Some.chain.now c.self.invariant.chains
    (sym c.in-Some.ensures.value))

pub returns-in-Some-clause-order : goal.returns-in-Some-clause-order
returns-in-Some-clause-order c = frames_in_order c.args.frames.now c.requires.apart c.requires.bounded

pub returns-in-None-clause-order : goal.returns-in-None-clause-order
returns-in-None-clause-order c = frames_in_order c.args.frames.now c.requires.apart c.requires.bounded

pub returns-in-Some-clause-near : goal.returns-in-Some-clause-near
returns-in-Some-clause-near c =
    IfOk-weaker c.addresses_from.result (λ (found : Vec ℕ Global). AscendBetween 0 ADDRESSES_MAX found.items)
    (λ (found : Vec ℕ Global). AscendBetween 0 (2 ^ 64 - 1) found.items)
    (λ found a. ascend-higher 0 ADDRESSES_MAX (2 ^ 64 - 1) found.items (omega arith) a) c.addresses_from.ensures.ascend

pub returns-in-Some-clause-live : goal.returns-in-Some-clause-live
returns-in-Some-clause-live c =
    let low : ℕ = c.first_start-low.result in
    let addressing : Addressing = c.self.inside.addressing in
    let links : List ℕ = c.self.inside.before.items in
    let live : List ℕ → List ℕ = filter (is_live c.args.frames.now) in
    let near : List ℕ → List ℕ = λ l. filter (nat_le low) (moved addressing (places_of l c.in-Some.chain.now)) in
    let all : moved addressing (places_of links c.in-Some.chain.now) ≡ held c.args.self.now c.args.term.now =
    sym (held-found addressing links c.args.term.now c.self.inside.chains.entries c.in-Some.chain.now (sym c.in-Some.ensures.value))
    ∙ ap (λ (m : Memory). held m c.args.term.now) c.self.view_is in
    let same : live (near links) ≡ live (held c.args.self.now c.args.term.now) =
    filter-from low (2 ^ 64 - 1) c.args.frames.now c.first_start-low.ensures.order (moved addressing (places_of links c.in-Some.chain.now))
    ∙ ap live all in
    IfOk-weaker c.addresses_from.result (λ (found : Vec ℕ Global). found.items ≡ near c.deref.result.now)
    (λ (found : Vec ℕ Global). live found.items ≡ live (held c.args.self.now c.args.term.now))
    (λ found e. ap live (e ∙ ap near c.deref.ensures.value) ∙ same) c.addresses_from.ensures.addresses

pub returns-in-None-clause-live : goal.returns-in-None-clause-live
returns-in-None-clause-live c =
    let none : held c.args.self.now c.args.term.now ≡ [] =
    ap (λ (m : Memory). held m c.args.term.now) (sym c.self.view_is)
    ∙ held-absent c.self.inside.addressing c.self.inside.before.items c.args.term.now c.self.inside.chains.entries
    (sym c.in-None.ensures.value) in
    ap (filter (is_live c.args.frames.now)) (c.new.ensures.items ∙ sym none)

-- the term's addresses ascend from low to the end
found_ascend : (kept memory : Memory) (postings : List Posting) (term : List ℕ) (frames : List Range) → kept ≡ memory
    → HasPostings kept.low kept.end kept postings → AscendBetween memory.low memory.end (filter (is_live frames) (held memory term))
found_ascend kept memory postings term frames same has =
    let h : HasPostings memory.low memory.end memory postings = subst (λ (m : Memory). HasPostings m.low m.end m postings) same has in
    ascend-filter (is_live frames) memory.low memory.end (held memory term)
    (subst (AscendBetween memory.low memory.end) (sym (h.addresses term))
    (addresses-ascend memory.low memory.end term postings h.ascend))

pub returns-in-Some-clause-ascend : goal.returns-in-Some-clause-ascend
returns-in-Some-clause-ascend c =
    found_ascend _ c.args.self.now c.self.invariant.postings c.args.term.now c.args.frames.now c.self.view_is c.self.invariant.has

pub returns-in-None-clause-ascend : goal.returns-in-None-clause-ascend
returns-in-None-clause-ascend c =
    found_ascend _ c.args.self.now c.self.invariant.postings c.args.term.now c.args.frames.now c.self.view_is c.self.invariant.has
