use Rattle.std.proofs.Common.{◌∙◌, ap, arith, List}
use Rattle.std.specs.Prelude.{Option, Some}
use Rattle.wu_outside.specs.declared.ranges.ReadRange.{ReadRange}
use Rattle.wu_space.specs.Addresses.{Addresses}
use Rattle.wu_parts.specs.Contents.{Contents}
use Rattle.wu_query.proofs.PassedCauses.{err_from}
use Rattle.wu_engine.specs.Opened.{AsksFound}
use Rattle.wu_engine.specs.Opening.{ReadsAtOpening}
use Rattle.wu_engine.proofs.BegunEngines.{saved_engine}
use Rattle.wu_engine.proofs.OpenedIndexes.{index_cause, index_goes, index_numbers, index_open, index_reads, index_stands}
use Rattle.wu_engine.proofs.OpenedRoots.{room_left}
use Rattle.wu_engine.proofs.OpenedStates.{asked_then_taken, reads_checkpoint}
use Rattle.wu_engine.proofs.opening.open_saved.Given as given
use Rattle.wu_engine.proofs.opening.open_saved.Goals as goal
use Rattle.wu_engine.proofs.opening.open_saved.Goals.{After-open_index}

pub open_index-requires-clause-version : goal.open_index-requires-clause-version
open_index-requires-clause-version g c = c.requires.room.version

pub open_index-requires-clause-room : goal.open_index-requires-clause-room
open_index-requires-clause-room g c =
    omega (arith, c.in_ok-checkpoint.ensures.own.next_address, (room_left c.args.root.now c.requires.room.unspent).0)

pub engine_of-requires-clause-room : goal.engine_of-requires-clause-room
engine_of-requires-clause-room g c =
    omega (arith, c.in_ok-checkpoint.ensures.own.next_address, (room_left c.args.root.now c.requires.room.unspent).0)

pub engine_of-requires-clause-drawn : goal.engine_of-requires-clause-drawn
engine_of-requires-clause-drawn g c = omega (arith, c.in_ok-checkpoint.ensures.own.next_blob, c.requires.room.drawn)

pub engine_of-requires-clause-next_blob : goal.engine_of-requires-clause-next_blob
engine_of-requires-clause-next_blob g c =
    (index_numbers c.in_ok-checkpoint.ensures.rules c.in_ok-parts.ensures.opened).next_blob

pub engine_of-requires-clause-end : goal.engine_of-requires-clause-end
engine_of-requires-clause-end g c =
    (index_numbers c.in_ok-checkpoint.ensures.rules c.in_ok-parts.ensures.opened).end

pub returns-clause-stands : goal.returns-clause-stands
returns-clause-stands g c =
    index_stands c.args.root.now c.in_ok-checkpoint.checkpoint c.open_checkpoint.ensures.store.holds c.requires.found
    c.in_ok-checkpoint.ensures.saved c.in_ok-parts.ensures.opened c.in_ok-engine_of.ensures c.open_index.ensures.store.holds

pub returns-clause-goes : goal.returns-clause-goes
returns-clause-goes g c = λ content told.
    index_goes c.args.root.now c.in_ok-checkpoint.checkpoint c.open_checkpoint.ensures.store.holds c.requires.found
    c.in_ok-checkpoint.ensures.saved c.in_ok-parts.ensures.opened c.in_ok-engine_of.ensures c.open_index.ensures.store.holds content told

pub returns-clause-open : goal.returns-clause-open
returns-clause-open g c = λ earlier asked.
    let reads = g.D.Store.reads in
    index_open c.args.root.now c.in_ok-checkpoint.checkpoint c.open_checkpoint.ensures.store.holds c.requires.found
    c.in_ok-checkpoint.ensures.saved c.in_ok-parts.ensures.opened earlier
    (asked_then_taken c.args.root.now earlier (reads c.args.store.now) (reads c.open_checkpoint.new.store) asked
    c.in_ok-checkpoint.ensures.taken)

pub returns-clause-next : goal.returns-clause-next
returns-clause-next g c =
    omega (
      arith,
      ap (λ (a : Addresses). a.next) c.in_ok-engine_of.ensures.space,
      c.in_ok-checkpoint.ensures.own.next_address,
      (room_left c.args.root.now c.requires.room.unspent).0,
    )

pub returns-clause-next_blob : goal.returns-clause-next_blob
returns-clause-next_blob g c =
    omega (
      arith,
      ap (λ (p : Contents). p.next_blob) c.in_ok-engine_of.ensures.parts_kept,
      (index_numbers c.in_ok-checkpoint.ensures.rules c.in_ok-parts.ensures.opened).next_blob,
      c.in_ok-checkpoint.ensures.own.next_blob,
      (room_left c.args.root.now c.requires.room.unspent).1,
    )

pub returns-clause-flushes : goal.returns-clause-flushes
returns-clause-flushes g c =
    omega (
      arith,
      ap (λ (p : Contents). p.flushes) c.in_ok-engine_of.ensures.parts_kept,
      (index_numbers c.in_ok-checkpoint.ensures.rules c.in_ok-parts.ensures.opened).flushes,
      c.in_ok-checkpoint.ensures.rules.layout.few,
    )

pub returns-clause-flush_at : goal.returns-clause-flush_at
returns-clause-flush_at g c =
    ap (λ (p : Contents). p.flush_at) c.in_ok-engine_of.ensures.parts_kept
    ∙ (index_numbers c.in_ok-checkpoint.ensures.rules c.in_ok-parts.ensures.opened).flush_at_same

pub returns-clause-kept : goal.returns-clause-kept
returns-clause-kept g c =
    ap (λ (p : Contents). p.kept) c.in_ok-engine_of.ensures.parts_kept
    ∙ (index_numbers c.in_ok-checkpoint.ensures.rules c.in_ok-parts.ensures.opened).kept

pub returns-clause-drawn : goal.returns-clause-drawn
returns-clause-drawn g c =
    ap (λ (p : Contents). p.next_blob) c.in_ok-engine_of.ensures.parts_kept
    ∙ (index_numbers c.in_ok-checkpoint.ensures.rules c.in_ok-parts.ensures.opened).next_blob
    ∙ c.in_ok-checkpoint.ensures.own.next_blob

pub returns-clause-saved : goal.returns-clause-saved
returns-clause-saved g c =
    saved_engine (g.D.Store.holds c.args.store.now) c.args.root.now c.in_ok-checkpoint.checkpoint c.in_ok-parts.parts
    c.in_ok-engine_of.field-0 c.in_ok-checkpoint.ensures.saved c.in_ok-engine_of.ensures

pub returns-clause-goes_on : goal.returns-clause-goes_on
returns-clause-goes_on g c = c.in_ok-engine_of.ensures.goes_on

pub returns-clause-store : goal.returns-clause-store
returns-clause-store g c = record {
  holds = c.open_index.ensures.store.holds ∙ c.open_checkpoint.ensures.store.holds;
  moments = c.open_index.ensures.store.moments ∙ c.open_checkpoint.ensures.store.moments;
  calm = c.in_ok-parts.ensures.store.calm ∙ c.in_ok-checkpoint.ensures.store.calm;
}

-- once the index was asked for, what was read are the checkpoint and some of its ranges
reads_then : (g : given.Over) (c : After-open_index g) (earlier : Option (List ReadRange))
    → AsksFound (Some c.args.root.now) earlier (g.D.Store.reads c.args.store.now)
    → ReadsAtOpening (g.D.Store.holds c.args.store.now) earlier (g.D.Store.reads c.open_index.new.store)
reads_then g c earlier asked =
    let reads = g.D.Store.reads in
    index_reads c.args.root.now c.in_ok-checkpoint.checkpoint c.open_checkpoint.ensures.store.holds c.requires.found
    c.in_ok-checkpoint.ensures.saved earlier (reads c.open_checkpoint.new.store) (reads c.open_index.new.store)
    (asked_then_taken c.args.root.now earlier (reads c.args.store.now) (reads c.open_checkpoint.new.store) asked
    c.in_ok-checkpoint.ensures.taken) c.open_index.ensures.reads

pub returns-clause-reads : goal.returns-clause-reads
returns-clause-reads g c = reads_then g (goal.at.returns-clause-reads g c).After-open_index

pub returns-in_err-checkpoint-clause-reads : goal.returns-in_err-checkpoint-clause-reads
returns-in_err-checkpoint-clause-reads g c = λ earlier asked.
    reads_checkpoint c.args.root.now (g.D.Store.holds c.args.store.now) earlier (g.D.Store.reads c.args.store.now)
    (g.D.Store.reads c.open_checkpoint.new.store) c.requires.found asked c.open_checkpoint.ensures.reads

pub returns-in_err-parts-clause-reads : goal.returns-in_err-parts-clause-reads
returns-in_err-parts-clause-reads g c = reads_then g (goal.at.returns-in_err-parts-clause-reads g c).After-open_index

pub returns-in_err-parts-clause-cause : goal.returns-in_err-parts-clause-cause
returns-in_err-parts-clause-cause g c =
    err_from _ c.from_residual-in_err-parts.result _ c.from_residual-in_err-parts.ensures.1
    (index_cause c.args.root.now c.in_ok-checkpoint.checkpoint c.open_checkpoint.ensures.store.holds c.requires.found
    c.in_ok-checkpoint.ensures.saved c.in_ok-checkpoint.ensures.store.calm c.in_err-parts.field-0.0 c.in_err-parts.ensures.cause)

pub returns-in_err-engine_of-clause-reads : goal.returns-in_err-engine_of-clause-reads
returns-in_err-engine_of-clause-reads g c = reads_then g (goal.at.returns-in_err-engine_of-clause-reads g c).After-open_index
