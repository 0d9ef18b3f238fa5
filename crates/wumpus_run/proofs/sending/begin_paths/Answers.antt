use Rattle.wu_engine.specs.Listing.{files_kept}
use Rattle.wumpus_run.proofs.Exports.ListedLines.{whole_reply}
use Rattle.wumpus_run.proofs.sending.begin_paths.Goals as goal

pub returns-clause-answer : goal.returns-clause-answer
returns-clause-answer c = λ holds s stands.
    let listed = c.in_ok-count.ensures.answer holds s stands in (
      whole_reply s c.args.uid c.args.out.now.items c.put_count.new.out.items (files_kept c.ask_paths.new.self.frames c.args.uid) c.in_ok-count.count
          c.in_ok-count.ensures.count c.in_ok-put_count.ensures listed.0,
      listed.1,
    )
