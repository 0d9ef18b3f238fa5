use Rattle.std.proofs.Common.{◌≡◌, ◌<◌, ◌++◌, length, ◌∷◌, [], ap, sym, ◌∙◌, reverse, arith, rules}
use Rattle.wu_parts.specs.declared.addressing.Addressing.{Addressing}
use Rattle.wu_parts.specs.Addressing.{address_of}
use Rattle.wu_parts.specs.Chains.{places_of}
use Rattle.wu_parts.proofs.RisingAddresses.{never_falls}
use Rattle.wu_parts.proofs.Chaining.{from_low, newest_below, older_ascends, walk_more, walk_stops}
use Rattle.wu_parts.proofs.chains.addresses_back_to.Goals as goal

pub returns-then-address-low : goal.returns-then-address-low
returns-then-address-low c =
    let none : from_low c.args.addressing.now c.args.low (places_of c.args.links.now c.loop-left.left) ≡ [] =
    walk_stops c.args.addressing.now c.args.low c.args.links.now c.loop-left.left (omega arith) c.loop-left.invariant.chain
    c.requires.rising (omega (arith, c.address_of-address.ensures)) in
    ap (λ l. l ++ reverse c.loop-left.found.items) (sym none) ∙ c.loop-left.invariant.made

pub address_of-address-requires-clause-bounded : goal.address_of-address-requires-clause-bounded
address_of-address-requires-clause-bounded c =
    let addressing : Addressing = c.args.addressing.now in
    let below : c.loop-left.left.newest < length c.args.links.now =
    newest_below c.args.links.now c.loop-left.left (omega arith) c.loop-left.invariant.chain in
    let by = never_falls 0 addressing.start addressing.breaks.items c.loop-left.left.newest (length c.args.links.now) c.requires.rising
    (omega (arith, below)) in
    omega (arith, by, c.requires.bounded)

pub older-left-requires-clause-place : goal.older-left-requires-clause-place
older-left-requires-clause-place c =
    newest_below c.args.links.now c.loop-left.left (omega arith) c.loop-left.invariant.chain

pub loop-left-preserved : goal.loop-left-preserved
loop-left-preserved c =
    let more : c.push.new.self.items ≡ c.loop-left.found.items ++ (address_of c.args.addressing.now c.loop-left.left.newest) ∷ [] =
    search rules in
    record {
      made = walk_more c.args.addressing.now c.args.low (from_low c.args.addressing.now c.args.low (places_of c.args.links.now c.args.chain))
          (places_of c.args.links.now c.loop-left.left) (places_of c.args.links.now c.older-left.result) c.loop-left.left.newest
          c.loop-left.found.items c.push.new.self.items c.older-left.ensures.places (omega arith) more c.loop-left.invariant.made;
      chain = older_ascends _ c.loop-left.left.newest (places_of c.args.links.now c.loop-left.left)
          (places_of c.args.links.now c.older-left.result) c.older-left.ensures.places c.loop-left.invariant.chain;
    }
