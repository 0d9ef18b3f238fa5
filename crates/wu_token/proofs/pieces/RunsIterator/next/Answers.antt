use Rattle.std.proofs.Common.{◌≡◌, ◌∷◌, ◌∙◌, length, ap, sym, rules}
use Rattle.wu_token.specs.Places.{runs_at}
use Rattle.wu_token.specs.Pieces.{piece_of}
use Rattle.wu_token.proofs.CutLemmas.{runs_at-none, runs_at-first}
use Rattle.wu_token.proofs.pieces.RunsIterator.next.Goals as goal

pub returns-in_err-word_byte_at-clause-steps : goal.returns-in_err-word_byte_at-clause-steps
returns-in_err-word_byte_at-clause-steps c =
    let rest = c.self.inside.rest in
    let none = sym c.self.view_is ∙ runs_at-none rest.start rest.bytes.now (search rules) in
    rw c.from_residual.ensures (none, none)

pub returns-clause-steps : goal.returns-clause-steps
returns-clause-steps c =
    let s = c.self.inside.rest in
    let cut = c.split_at.ensures in
    let rest = c.split_at-2.ensures in
    let first : runs_at (piece_of s) ≡ piece_of c.split_at-2.result.0 ∷ runs_at (piece_of c.split_at-2.result.1) =
    rw (rest.front_start, rest.front, rest.back_start, rest.back, cut.back_start, cut.back)
    (runs_at-first s.start s.bytes.now _ _ (search rules) (search rules)) in
    sym c.self.view_is ∙ first

pub returns-clause-goes : goal.returns-clause-goes
returns-clause-goes c =
    let shorter = ap length (returns-clause-steps c) in
    search rules
