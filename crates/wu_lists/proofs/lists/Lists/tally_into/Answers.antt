use Rattle.std.proofs.Common.{◌+◌, refl}
use Rattle.std.proofs.lemmas.Result.{on_err_weaker, on_ok_weaker}
use Rattle.wu_base.proofs.EachLemmas.{each-filter}
use Rattle.wu_layout.specs.Postings.{is_live}
use Rattle.wu_lists.specs.Fetching.{AreFetched, AreInFrames, HasTerm}
use Rattle.wu_lists.proofs.Ascending.{frames_in_order}
use Rattle.wu_lists.proofs.Fetches.{fetched-from_gathered}
use Rattle.wu_lists.proofs.Tallying.{tallied}
use Rattle.wu_lists.proofs.lists.Lists.tally_into.Goals as goal

pub returns-clause-addresses : goal.returns-clause-addresses
returns-clause-addresses g c =
    let frames = c.args.frames.now in
    let directory = c.args.dir.now in
    let holds = g.D.Store.holds c.args.store.now in
    on_ok_weaker c.walk.result
    (λ gains.
    let g = gains refl in
    tallied frames
    (frames_in_order frames c.requires.apart c.requires.bounded)
    (AreFetched (HasTerm directory c.args.term.now) frames c.args.blob directory.low (directory.high + 1) holds c.args.self.now)
    g.more c.args.tally.now c.walk.new.found g.gained
    (fetched-from_gathered (HasTerm directory c.args.term.now) frames c.args.blob directory.low (directory.high + 1) holds c.args.self.now
    g.more g.kind))
    c.walk.ensures.addresses

pub returns-clause-some : goal.returns-clause-some
returns-clause-some g c =
    let frames = c.args.frames.now in
    on_err_weaker c.walk.result
    (λ gains.
    let g = gains refl in
    tallied frames (frames_in_order frames c.requires.apart c.requires.bounded) (AreInFrames frames)
    g.0 c.args.tally.now c.walk.new.found g.1 (each-filter (is_live frames) g.0))
    c.walk.ensures.some
