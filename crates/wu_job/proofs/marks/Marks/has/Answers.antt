use Rattle.std.proofs.Common.{◌≡◌, ◌<◌, ◌/◌, ◌%◌, ◌+◌, ◌==◌, ◌∙◌, ℕ, Bool, List, length, get_or, false, ap, sym, arith}
use Rattle.std.specs.Int.{bit_at}
use Rattle.std.proofs.lemmas.List.{get_or_read}
use Rattle.std.proofs.lemmas.Nat.Bits.{shr_and_one}
use Rattle.wu_job.specs.Marks.{is_set}
use Rattle.wu_job.proofs.Bits.{length-marks, mark_at}
use Rattle.wu_job.proofs.marks.Marks.has.Goals as goal

pub index-requires : goal.index-requires
index-requires c =
    let i = c.self.inside in
    omega (arith, length-marks i.words.items 0 i.count, ap (λ (ms : List Bool). length ms) c.self.view_is, c.self.invariant, i.words.ok.0)

pub returns : goal.returns
returns c =
    let i = c.self.inside in
    let place = c.args.place in
    let within : place < i.count =
    omega (arith, length-marks i.words.items 0 i.count, ap (λ (ms : List Bool). length ms) c.self.view_is) in
    let start : 0 + place ≡ place = omega arith in
    let read : c.index.result.now ≡ get_or i.words.items (place / 64) 0 =
    get_or_read i.words.items _ _ (omega (arith, c.self.invariant)) c.index.ensures 0 in
    ap (λ (n : ℕ). n == 1) (shr_and_one c.index.result.now (place % 64) ∙ ap (λ (w : ℕ). bit_at w (place % 64)) read)
    ∙ (sym (mark_at i.words.items 0 i.count place within ∙ ap (is_set i.words.items) start)
    ∙ ap (λ (ms : List Bool). get_or ms place false) c.self.view_is)
