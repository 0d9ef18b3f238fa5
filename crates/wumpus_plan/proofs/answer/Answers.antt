use Rattle.std.proofs.Common.{rules, ◌≡◌, ℕ, List, ◌++◌, length}
use Rattle.std.specs.Io.KnownBytes.{Appends}
use Rattle.std.specs.List.{flat_map}
use Rattle.wu_mirror.specs.declared.batches.Batch.{Batch}
use Rattle.wu_mirror.specs.Plans.{head_of, tail_of}
use Rattle.wumpus_plan.specs.Lines.{Passes, header_of, line_of}
use Rattle.wumpus_plan.proofs.Pieces.{appends_kept, passes_both, passes_ended}
use Rattle.wumpus_plan.proofs.answer.Goals as goal

pub returns-clause-written : goal.returns-clause-written
returns-clause-written g c =
    let batch : Batch = c.args.batch.now in
    let header : List ℕ = header_of (length (head_of batch)) (length (tail_of batch)) in
    let before : List ℕ = flat_map line_of (head_of batch) in
    let after : List ℕ = flat_map line_of (tail_of batch) in
    let first : Passes (g.W.Write.contents c.args.out.now) (header_of (length (head_of c.args.batch.now)) (length (tail_of c.args.batch.now)))
    (g.W.Write.contents c.write_events.new.out) c.write_events.new.bytes.items (flat_map line_of (head_of c.args.batch.now)) = search rules in
    let second : Passes (g.W.Write.contents c.write_events.new.out) c.write_events.new.bytes.items (g.W.Write.contents c.write_events-2.new.out)
    c.write_events-2.new.bytes.items (flat_map line_of (tail_of c.args.batch.now)) = search rules in
    let last : Appends (g.W.Write.contents c.write_events-2.new.out) (g.W.Write.contents c.write_all.new.self) c.write_events-2.new.bytes.items =
    search rules in
    appends_kept (g.W.Write.contents c.args.out.now) (g.W.Write.contents c.write_all.new.self) (g.W.Write.contents c.flush.new.self)
    (header ++ (before ++ after))
    (passes_ended (g.W.Write.contents c.args.out.now) (g.W.Write.contents c.write_events-2.new.out) (g.W.Write.contents c.write_all.new.self)
    header c.write_events-2.new.bytes.items (before ++ after)
    (passes_both (g.W.Write.contents c.args.out.now) (g.W.Write.contents c.write_events.new.out) (g.W.Write.contents c.write_events-2.new.out)
    header c.write_events.new.bytes.items c.write_events-2.new.bytes.items before after first second) last)
    c.flush.ensures.bytes
