use Rattle.std.proofs.Common.{◌≤◌, ◌+◌, ◌<◌, List, length, take, take_all, rules, subst}
use Rattle.wu_parts.specs.Candidates.{GainsCandidates, terms_listed}
use Rattle.wu_parts.specs.declared.writing.StoredPart.{StoredPart}
use Rattle.wu_parts.proofs.MoreCandidates.{gains_more, gains_none, listed_in, next_listed}
use Rattle.wu_parts.proofs.candidates.add_directories.Goals as goal

pub loop-part-init : goal.loop-part-init
loop-part-init c = gains_none c.args.words.now

pub loop-part-preserved : goal.loop-part-preserved
loop-part-preserved c =
    let parts = c.args.parts.now in
    let i = c.loop-part.part-index in
    let part = c.part-item.result in
    let within : i < length parts = search rules in
    gains_more (listed_in (take i parts)) (terms_listed part.directory) (listed_in (take (i + 1) parts)) c.args.words.now
    c.loop-part.words c.add_directory.new.self c.loop-part.invariant c.in_ok-add_directory.ensures.ok
    (next_listed parts i part within c.part-item.is)

pub returns : goal.returns
returns c =
    let all : length c.args.parts.now ≤ c.loop-part.part-index = search rules in
    subst (λ (parts : List StoredPart). GainsCandidates (listed_in parts) c.args.words.now c.loop-part.words)
    (take_all c.loop-part.part-index c.args.parts.now all) c.loop-part.invariant
