use Rattle.std.proofs.Common.{◌≡◌, ℕ, ◌-◌, ◌^◌, ◌≤◌, true, map, ap, ◌∙◌, arith}
use Rattle.std.proofs.lemmas.List.{take_all}
use Rattle.wu_layout.specs.Postings.{is_live}
use Rattle.wu_part.specs.Buildings.{Building}
use Rattle.wu_parts.specs.Chains.{addressed}
use Rattle.wu_parts.specs.LeadingBytes.{behind}
use Rattle.wu_parts.specs.LiveLists.{live_lists}
use Rattle.wu_parts.proofs.Covering.{live_from, walked_all}
use Rattle.wu_parts.proofs.MemoryLists.{more_live}
use Rattle.wu_parts.proofs.flushing.cut_to_live.Goals as goal

pub put_live-requires-clause-all : goal.put_live-requires-clause-all
put_live-requires-clause-all c t =
    walked_all (λ (address : ℕ). is_live c.args.live.now address ≡ true) c.args.addressing.now c.args.links.now
    c.args.entries.now c.loop-entry.entry-index _ c.in_ok-addresses.addresses.items c.requires.chains c.requires.rising (omega arith)
    c.in_ok-addresses.ensures.addresses
    (λ address from below.
    c.are_covered-all_live.ensures.0 t address (omega (arith, c.start.ensures)) (omega (arith, c.address_of-end.ensures)))

pub put_live-requires-clause-low : goal.put_live-requires-clause-low
put_live-requires-clause-low c =
    let live = c.args.live.now in
    walked_all (λ (address : ℕ). is_live live address ≡ true → c.loop-entry.lists.low ≤ address) c.args.addressing.now
    c.args.links.now c.args.entries.now c.loop-entry.entry-index _ c.in_ok-addresses.addresses.items c.requires.chains
    c.requires.rising (omega arith) c.in_ok-addresses.ensures.addresses
    (λ address from below alive.
    let first : c.first_start.result ≤ address = live_from c.first_start.result (2 ^ 64 - 1) live address c.first_start.ensures.order alive in
    omega (arith, c.loop-entry.invariant.low, c.max-low.ensures, c.start-2.ensures))

pub loop-entry-preserved : goal.loop-entry-preserved
loop-entry-preserved c = record {
  low = ap (λ (b : Building). b.low) c.in_ok-put_live.ensures ∙ c.loop-entry.invariant.low;
  lists =
      more_live c.args.addressing.now c.args.links.now c.args.live.now c.args.entries.now c.loop-entry.entry-index _
      c.in_ok-addresses.addresses.items c.loop-entry.lists.lists c.put_live.new.lists.lists (omega arith)
      c.in_ok-addresses.ensures.addresses c.loop-entry.invariant.lists (ap (λ (b : Building). b.lists) c.in_ok-put_live.ensures);
}

pub returns : goal.returns
returns c =
    c.loop-entry.invariant.lists
    ∙ ap (λ l. live_lists c.args.live.now (map (addressed c.args.addressing.now c.args.links.now) (map behind l)))
    (take_all c.loop-entry.entry-index c.args.entries.now (omega arith))
