use Rattle.wu_base.specs.declared.limits.TheConstants.{ADDRESSES_MAX}
use Rattle.wu_job.specs.Live.{AreInOrder}
use Rattle.wu_job.proofs.Ranks.{IsCutTo}
use Rattle.wu_job.proofs.live.cut_to_live.Given as goal

-- the addresses so far are cut, and the ranges that are left have the places of the others
abbrev pub invariant-loop-address : goal.invariant-loop-address
invariant-loop-address l = record {
  cut : IsCutTo ADDRESSES_MAX l.live l.left l.addresses l.address-index l.cut.addresses.items l.cut.places.items;
  order : AreInOrder 0 ADDRESSES_MAX l.left;
}
