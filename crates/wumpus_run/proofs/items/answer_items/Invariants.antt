use Rattle.std.proofs.Common.{◌≡◌, ◌+◌, ◌≤◌, max, List, [], length, Option, Some}
use Rattle.wu_outside.specs.Content.{Content}
use Rattle.wu_outside.specs.Crash.{Moments}
use Rattle.wu_outside.specs.Surviving.{IsLeft, Leaves}
use Rattle.wu_outside.specs.declared.ranges.ReadRange.{ReadRange}
use Rattle.wu_base.specs.declared.limits.TheConstants.{READ_MAX}
use Rattle.wu_script.specs.Holding.{Follows}
use Rattle.wu_engine.specs.Earlier.{KeepsCheckpoint}
use Rattle.wu_engine.specs.Going.{Goes}
use Rattle.wu_engine.specs.Opening.{IsOpen}
use Rattle.wumpus_run.specs.Kept.{NamesDrawn}
use Rattle.wumpus_run.specs.Session.{FromImage, UnlessTaken, moment}
use Rattle.wumpus_run.specs.Started.{settings_by}
use Rattle.wumpus_run.proofs.Courses.CoursesUnderWay.{IsOnCourse}
use Rattle.wumpus_run.proofs.Blobs.EarlierLemmas.{HasLeft}
use Rattle.wumpus_run.proofs.Endings.StartedStates.{IsUnderWay}
use Rattle.wumpus_run.proofs.items.answer_items.Given as goal

abbrev pub invariant-items : goal.invariant-items
invariant-items g l = record {
  under_way : IsUnderWay (settings_by l.fn.reader l.fn.engine)
      (moment g.I.Source g.O.Sink g.D.Store l.fn.source l.fn.sink l.fn.store)
      (moment g.I.Source g.O.Sink g.D.Store l.source l.sink l.store)
      l.engine l.reader;
  course : (reads : Option (List ReadRange)) (moments : Option Moments)
      → IsOpen (g.D.Store.holds l.fn.store) reads (g.D.Store.reads l.fn.store)
      → Leaves moments (g.D.Store.moments l.fn.store) (IsLeft moments)
      → FromImage (g.D.Store.holds l.fn.store) (λ s. IsOnCourse (settings_by l.fn.reader l.fn.engine) s
      (record (moment g.I.Source g.O.Sink g.D.Store l.fn.source l.fn.sink l.fn.store) { reads = reads; moments = moments })
      (moment g.I.Source g.O.Sink g.D.Store l.source l.sink l.store)
      l.engine l.reader);
  goes : (content : Content) → g.D.Store.holds l.fn.store ≡ Some content → Goes l.engine content (g.D.Store.holds l.store);
  earlier : HasLeft (g.D.Store.holds l.fn.store) (g.D.Store.holds l.store) l.engine.parts.next_blob;
  checkpoint : KeepsCheckpoint 0 (g.D.Store.holds l.fn.store) (g.D.Store.holds l.store);
  rooted : NamesDrawn l.engine.parts.next_blob (g.D.Store.holds l.store);
  untaken : UnlessTaken (g.I.Source.left l.fn.source) (g.I.Source.left l.source) ((l.reader.bytes ≡ [])
      × (g.D.Store.holds l.store ≡ g.D.Store.holds l.fn.store) × (g.D.Store.moments l.store ≡ g.D.Store.moments l.fn.store));
  asked : g.I.Source.most_asked l.source ≤ max (g.I.Source.most_asked l.fn.source) READ_MAX;
  follows : Follows (g.I.Source.ended l.source) (g.I.Source.last_read l.source) l.reader;
}

-- each turn takes a byte, or ends the session
abbrev pub decreases-items : goal.decreases-items
decreases-items g l = length l.reader.bytes + l.reader.spare
