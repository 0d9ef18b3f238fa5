use Rattle.std.proofs.Common.{◌≡◌, ◌<◌, ◌/◌, ◌%◌, ◌*◌, ◌^◌, ◌==◌, ◌||◌, ◌∙◌, ℕ, Bool, List, length, get_or, false, ap, sym, arith}
use Rattle.std.specs.Int.Bits.{bit_or}
use Rattle.std.proofs.Math.ListN.{set}
use Rattle.std.proofs.lemmas.List.{get_or_read}
use Rattle.wu_job.specs.Marks.{is_set}
use Rattle.wu_job.proofs.Bits.{length-marks, marked_one, one_set}
use Rattle.wu_job.proofs.marks.Marks.mark.Goals as goal

pub index-requires : goal.index-requires
index-requires c =
    let i = c.self.inside in
    omega (arith, length-marks i.words.items 0 i.count, ap (λ (ms : List Bool). length ms) c.self.view_is, c.self.invariant, i.words.ok.0)

pub index_mut-requires : goal.index_mut-requires
index_mut-requires c =
    let i = c.self.inside in
    omega (arith, length-marks i.words.items 0 i.count, ap (λ (ms : List Bool). length ms) c.self.view_is, c.self.invariant, i.words.ok.0)

pub returns-clause-long : goal.returns-clause-long
returns-clause-long c =
    let i = c.self.inside in
    length-marks (set i.words.items (c.args.place / 64) _) 0 i.count
    ∙ (sym (length-marks i.words.items 0 i.count) ∙ ap (λ (ms : List Bool). length ms) c.self.view_is)

pub returns-clause-marked : goal.returns-clause-marked
returns-clause-marked c = λ k.
    let i = c.self.inside in
    let place = c.args.place in
    let words = i.words.items in
    let within : place < i.count = omega (arith, length-marks words 0 i.count, ap (λ (ms : List Bool). length ms) c.self.view_is) in
    let room : place / 64 < length words = omega (arith, c.self.invariant) in
    let read : c.index.result.now ≡ get_or words (place / 64) 0 = get_or_read words _ _ room c.index.ensures 0 in
    let new : List ℕ = set words (place / 64) (bit_or c.index.result.now (1 * 2 ^ (place % 64) % 2 ^ 64)) in
    let is : (j : ℕ) → is_set new j ≡ (place == j || is_set words j) = λ j.
    ap (λ (w : ℕ). is_set (set words (place / 64) (bit_or w (1 * 2 ^ (place % 64) % 2 ^ 64))) j) read ∙ one_set words place j room in
    marked_one words new i.count place within is k
    ∙ ap (λ (ms : List Bool). place == k || get_or ms k false) c.self.view_is
