use Rattle.std.proofs.Common.{◌≡◌, ◌-◌, ◌++◌, ℕ, length, ap, ◌∙◌, arith}
use Rattle.std.specs.List.{range_with_len}
use Rattle.wu_export.specs.Exports.{before_slashes}
use Rattle.wu_export.proofs.FoundDirectories.{slashes_more}
use Rattle.wu_export.proofs.directories.add_from.Goals as goal

pub loop-place-preserved : goal.loop-place-preserved
loop-place-preserved c =
    slashes_more c.args.path.now c.args.start c.loop-place.place c.args.found.now.items c.loop-place.found.items c.add_at.new.found.items
    (omega arith) c.loop-place.invariant c.in_ok-add_at.ensures

pub returns : goal.returns
returns c =
    let e : c.loop-place.place ≡ length c.args.path.now = omega arith in
    c.loop-place.invariant
    ∙ ap (λ (n : ℕ). c.args.found.now.items ++ before_slashes (range_with_len c.args.start (n - c.args.start)) c.args.path.now) e
