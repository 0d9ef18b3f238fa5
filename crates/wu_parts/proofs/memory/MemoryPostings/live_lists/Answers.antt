use Rattle.std.proofs.Common.{◌≡◌, ℕ, List, map, ap, sym, subst, ◌∙◌}
use Rattle.std.specs.Prelude.{IsPermutation}
use Rattle.std.proofs.lemmas.Result.{IfOk-weaker}
use Rattle.wu_base.specs.declared.addresses.Range.{Range}
use Rattle.wu_base.specs.declared.addresses.TermList.{TermList}
use Rattle.wu_layout.specs.Layouts.{lists_of}
use Rattle.wu_layout.specs.Postings.{Posting, live_of}
use Rattle.wu_space.specs.Addresses.{live_ranges}
use Rattle.wu_parts.specs.declared.addressing.Addressing.{Addressing}
use Rattle.wu_parts.specs.Chains.{addressed, end_of}
use Rattle.wu_parts.specs.LeadingBytes.{Numbered, behind}
use Rattle.wu_parts.specs.LiveLists.{AreEncodable, live_lists}
use Rattle.wu_parts.specs.Memory.{HasPostings, Memory}
use Rattle.wu_parts.proofs.MemoryLists.{chains_ascend, chains_terms, lists_can_be_encoded, lists_made, live_in_order}
use Rattle.wu_parts.proofs.memory.MemoryPostings.live_lists.Goals as goal

pub cut_to_live-requires-clause-chains : goal.cut_to_live-requires-clause-chains
cut_to_live-requires-clause-chains c =
    rw (c.deref.ensures.value, c.deref-2.ensures.value)
    (chains_ascend c.self.inside.before.items c.self.inside.chains.entries c.in_ok-entries.entries.items c.self.invariant.chains
    c.in_ok-entries.ensures.entries)

pub cut_to_live-requires-clause-terms : goal.cut_to_live-requires-clause-terms
cut_to_live-requires-clause-terms c =
    rw c.deref.ensures.value
    (chains_terms c.self.inside.before.items c.self.inside.chains.entries c.in_ok-entries.entries.items c.self.invariant.chains
    c.in_ok-entries.ensures.entries)

pub cut_to_live-requires-clause-order : goal.cut_to_live-requires-clause-order
cut_to_live-requires-clause-order c =
    rw c.deref-3.ensures.value
    (live_in_order c.args.space.now.next c.start.result c.end.result c.args.space.now.ranges c.in_ok-live.live.items
    c.keeps_the_rules.ensures.small c.keeps_the_rules.ensures.live.given c.in_ok-live.ensures.ranges c.in_ok-live.ensures.ascending)

abbrev made : Addressing → List Range → List ℕ → List Numbered → List TermList
made addressing live links entries = live_lists live (map (addressed addressing links) (map behind entries))

pub returns-clause-lists : goal.returns-clause-lists
returns-clause-lists c =
    let addressing : Addressing = c.self.inside.addressing in
    let links : List ℕ = c.self.inside.before.items in
    let live : List Range = c.in_ok-live.live.items in
    let entries : List Numbered = c.in_ok-entries.entries.items in
    let same : made addressing c.deref-3.result.now c.deref-2.result.now c.deref.result.now ≡ made addressing live links entries =
    ap (λ (l : List Range). made addressing l c.deref-2.result.now c.deref.result.now) c.deref-3.ensures.value
    ∙ ap (λ (l : List ℕ). made addressing live l c.deref.result.now) c.deref-2.ensures.value
    ∙ ap (made addressing live links) c.deref.ensures.value in
    let end : c.end.result ≡ end_of addressing links = c.end.ensures ∙ sym (ap (λ (m : Memory). m.end) c.self.view_is) in
    let met : IsPermutation (live_ranges c.args.space.now.ranges addressing.start (end_of addressing links)) live =
    subst (λ (n : ℕ). IsPermutation (live_ranges c.args.space.now.ranges addressing.start n) live) end
    (subst (λ (n : ℕ). IsPermutation (live_ranges c.args.space.now.ranges n c.end.result) live) c.start.ensures
    c.in_ok-live.ensures.ranges) in
    IfOk-weaker c.cut_to_live.result
    (λ lists. lists.lists ≡ made addressing c.deref-3.result.now c.deref-2.result.now c.deref.result.now)
    (λ lists. (low high : ℕ) (postings : List Posting) → HasPostings low high c.args.self.now postings
    → lists.lists ≡ lists_of (live_of (map (λ file. file.1) c.args.space.now.ranges) postings))
    (λ lists e low high postings h.
    e ∙ same
    ∙ lists_made c.self.inside.low addressing links c.self.inside.chains.entries entries live c.args.space.now.ranges
    c.self.invariant.chains c.self.invariant.rising c.in_ok-entries.ensures.entries c.in_ok-entries.ensures.distinct
    c.in_ok-entries.ensures.ascending met low high postings (subst (λ (m : Memory). HasPostings low high m postings) (sym c.self.view_is) h))
    c.cut_to_live.ensures

pub returns-clause-encodable : goal.returns-clause-encodable
returns-clause-encodable c =
    let addressing : Addressing = c.self.inside.addressing in
    let links : List ℕ = c.self.inside.before.items in
    let live : List Range = c.in_ok-live.live.items in
    let entries : List Numbered = c.in_ok-entries.entries.items in
    let same : made addressing c.deref-3.result.now c.deref-2.result.now c.deref.result.now ≡ made addressing live links entries =
    ap (λ (l : List Range). made addressing l c.deref-2.result.now c.deref.result.now) c.deref-3.ensures.value
    ∙ ap (λ (l : List ℕ). made addressing live l c.deref.result.now) c.deref-2.ensures.value
    ∙ ap (made addressing live links) c.deref.ensures.value in
    let end : c.end.result ≡ end_of addressing links = c.end.ensures ∙ sym (ap (λ (m : Memory). m.end) c.self.view_is) in
    let met : IsPermutation (live_ranges c.args.space.now.ranges addressing.start (end_of addressing links)) live =
    subst (λ (n : ℕ). IsPermutation (live_ranges c.args.space.now.ranges addressing.start n) live) end
    (subst (λ (n : ℕ). IsPermutation (live_ranges c.args.space.now.ranges n c.end.result) live) c.start.ensures
    c.in_ok-live.ensures.ranges) in
    IfOk-weaker c.cut_to_live.result
    (λ lists. lists.lists ≡ made addressing c.deref-3.result.now c.deref-2.result.now c.deref.result.now)
    (λ lists. AreEncodable lists.lists)
    (λ lists e.
    subst AreEncodable (sym (e ∙ same))
    (lists_can_be_encoded c.self.inside.low addressing links c.self.inside.chains.entries entries live
    c.args.space.now.ranges c.self.invariant.chains c.self.invariant.rising c.in_ok-entries.ensures.entries
    c.in_ok-entries.ensures.distinct c.in_ok-entries.ensures.ascending met c.self.inside.low (end_of addressing links)
    c.self.invariant.postings c.self.invariant.has))
    c.cut_to_live.ensures

pub returns-clause-has : goal.returns-clause-has
returns-clause-has c = (
  c.self.invariant.postings,
  subst (λ (m : Memory). HasPostings m.low m.end m c.self.invariant.postings) c.self.view_is c.self.invariant.has,
)
