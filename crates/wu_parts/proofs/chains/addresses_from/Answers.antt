use Rattle.std.proofs.Common.{◌≡◌, sym, subst, rules}
use Rattle.wu_base.specs.declared.limits.TheConstants.{ADDRESSES_MAX}
use Rattle.wu_parts.specs.Chains.{places_of}
use Rattle.wu_lists.specs.Ascending.{AscendBetween}
use Rattle.wu_parts.proofs.Chaining.{from_low, walk_ascends}
use Rattle.wu_parts.proofs.chains.addresses_from.Goals as goal

pub returns-clause-ascend : goal.returns-clause-ascend
returns-clause-ascend c =
    let found : c.reverse.new.self.items ≡ from_low c.args.addressing.now c.args.low (places_of c.args.links.now c.args.chain) =
    search rules in
    subst (AscendBetween 0 ADDRESSES_MAX) (sym found)
    (walk_ascends c.args.addressing.now c.args.low c.args.links.now c.args.chain c.requires.chain c.requires.rising c.requires.bounded)
