use Rattle.wu_gcl.specs.Regions.{region_of}
use Rattle.wu_cursor.specs.Directions.{Reaches}
use Rattle.wu_cursor.specs.Memory.{AreRight}
use Rattle.wu_cursor.specs.Within.{set_in}
use Rattle.wu_cursor.proofs.Kept.{ArePassed}
use Rattle.wu_cursor.proofs.Orders.{left_below}
use Rattle.wu_cursor.proofs.access.+access.Given as goal

abbrev pub invariant-sought-loop-known : goal.invariant-sought-loop-known
invariant-sought-loop-known l = record {
  memory : AreRight l.text.lists.now l.text.frame l.memory;
  on : Reaches l.direction l.place l.from;
  passed : ArePassed l.direction l.text.frame.len (set_in (region_of l.expr) l.text.lists.now l.text.frame) l.place l.from;
}

abbrev pub decreases-sought-loop-known : goal.decreases-sought-loop-known
decreases-sought-loop-known l = left_below l.direction l.text.frame.len l.from
