use Rattle.std.proofs.Common.{◌≡◌, ◌∙◌, List, length, ap, sym, arith}
use Rattle.std.specs.List.{IsDistinct}
use Rattle.std.proofs.lemmas.List.{length-replicate}
use Rattle.wu_base.specs.declared.addresses.Range.{Range}
use Rattle.wu_base.specs.declared.limits.TheConstants.{ADDRESSES_MAX}
use Rattle.wu_check.specs.Placed.{ranges_of}
use Rattle.wu_check.specs.Places.{total_of}
use Rattle.wu_check.proofs.Placing.{alone_placed, total_within}
use Rattle.wu_check.proofs.NumberedLists.{none_numbered}
use Rattle.wu_check.proofs.numbering.Numbering.new.Goals as goal

pub total-requires : goal.total-requires
total-requires c = omega (arith, total_within ADDRESSES_MAX c.args.ranges.now c.requires.apart c.requires.bounded)

pub returns : goal.returns
unfolding IsDistinct
returns c =
    let ranges : List Range = c.args.ranges.now in
    let are : ranges_of c.in_ok-placed.field-0.items ≡ ranges = ap ranges_of c.in_ok-placed.ensures.placed ∙ alone_placed 0 ranges in
    let zeros = c.in_ok-vec.ensures.items_if_clones_equal (λ y h. h) in
    let long : length c.in_ok-vec.field-0.items ≡ total_of ranges =
    ap length zeros ∙ length-replicate c.total.result 0 ∙ c.total.ensures in
    record {
      places = record { placed = c.in_ok-placed.ensures.are; long = long ∙ ap total_of (sym are) };
      ranges_are = are;
      terms = c.new.ensures.items;
      numbers = none_numbered ranges c.total.result c.in_ok-vec.field-0.items zeros c.total.ensures;
      others = c.new-2.ensures.items;
      distinct = tt;
    }
