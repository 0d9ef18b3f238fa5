use Rattle.std.proofs.Common.{◌≡◌, [], ◌∷◌, ◌∙◌}
use Rattle.std.specs.Prelude.{filter}
use Rattle.std.proofs.lemmas.Result.{IfOk-weaker}
use Rattle.wu_gcl.specs.Regions.{Phrase}
use Rattle.wu_solve.specs.Frames.{lies_in_one}
use Rattle.wu_solve.specs.Operands.{runs_around}
use Rattle.wu_solve.specs.Solving.{frames_hits}
use Rattle.wu_solve.proofs.PhrasesInFrames.{term_whole}
use Rattle.wu_solve.proofs.operands.term.Goals as goal

pub returns : goal.returns
returns c =
    let frames = c.args.frames.now in
    let lists = c.args.lists.now in
    let addresses = c.addresses_of.result.now in
    IfOk-weaker c.runs_in.result (λ v. v.items ≡ filter (lies_in_one frames) (runs_around 0 0 addresses))
    (λ v. v.items ≡ frames_hits (Phrase (c.args.term.now ∷ [])) lists frames)
    (λ v same. same ∙ term_whole lists frames c.requires.apart c.args.term.now addresses
    (record { ascending = c.addresses_of.ensures.ascending; same = c.addresses_of.ensures.same })) c.runs_in.ensures
