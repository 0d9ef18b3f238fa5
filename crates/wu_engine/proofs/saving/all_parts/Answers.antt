use Rattle.std.proofs.Common.{◌≡◌, length, rules}
use Rattle.std.specs.Prelude.{None, Some, slice_get}
use Rattle.wu_engine.proofs.SavedSteps.{taken_all, taken_more}
use Rattle.wu_engine.proofs.saving.all_parts.Goals as goal

pub loop-recorded-preserved : goal.loop-recorded-preserved
loop-recorded-preserved c =
    let parts = c.args.parts.now.parts in
    let many : c.len.result ≡ length c.loop-recorded.records.items = search rules in
    let there : Some c.in-Some.recorded ≡ slice_get parts c.len.result = search rules in
    taken_more parts c.loop-recorded.records.items c.push.new.self.items c.len.result c.in-Some.recorded many there
    c.in_ok-push.ensures.items c.loop-recorded.invariant

pub returns : goal.returns
returns c =
    let parts = c.args.parts.now.parts in
    let many : c.len.result ≡ length c.loop-recorded.records.items = search rules in
    let none : None ≡ slice_get parts c.len.result = search rules in
    taken_all parts c.loop-recorded.records.items c.len.result many none c.loop-recorded.invariant
