use Rattle.std.proofs.Common.{◌≤◌, length, slice_range, ap, ◌∙◌, drop, subst, sym}
use Rattle.wu_script.specs.Holding.{Held}
use Rattle.wu_script.proofs.InputLemmas.{window_left}
use Rattle.wu_script.proofs.input.Input.use_first.Goals as goal

pub returns : goal.returns
returns c =
    let s = c.self.inside in
    let n = c.args.count in
    let within : n ≤ length (slice_range s.buffer.items s.at s.end) = subst (λ (h : Held). n ≤ length h.bytes)
    (sym c.self.view_is) c.requires in
    ap (λ bytes. record { bytes = bytes; spare = s.spare; ended = s.ended }) (window_left s.buffer.items s.at s.end n within)
    ∙ ap (λ (h : Held). record { bytes = drop n h.bytes; spare = h.spare; ended = h.ended }) c.self.view_is
