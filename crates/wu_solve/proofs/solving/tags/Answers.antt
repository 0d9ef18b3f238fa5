use Rattle.std.proofs.Common.{◌≡◌, [], ◌∷◌, ◌∙◌}
use Rattle.std.proofs.lemmas.Result.{IfOk-weaker}
use Rattle.wu_gcl.specs.Regions.{Phrase, Mark}
use Rattle.wu_gcl.specs.Reading.{tag_text}
use Rattle.wu_solve.specs.Solving.{frames_hits}
use Rattle.wu_solve.proofs.SameRegions.{tag_whole}
use Rattle.wu_solve.proofs.solving.tags.Goals as goal

pub returns : goal.returns
returns c =
    let frames = c.args.frames.now in
    let lists = c.args.lists.now in
    IfOk-weaker c.term.result (λ v. v.items ≡ frames_hits (Phrase (tag_text c.args.tag ∷ [])) lists frames)
    (λ v. v.items ≡ frames_hits (Mark c.args.tag) lists frames)
    (λ v same. same ∙ tag_whole lists frames c.args.tag) (rw c.tag_bytes.ensures at c.term.ensures)
