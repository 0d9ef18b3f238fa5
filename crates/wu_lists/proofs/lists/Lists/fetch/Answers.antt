use Rattle.std.proofs.Common.{◌+◌, ℕ, List, ◌++◌, filter, refl, ap, sym, ◌∙◌, subst}
use Rattle.wu_layout.specs.Postings.{is_live}
use Rattle.wu_lists.specs.Fetching.{AreFetched, HasTerm}
use Rattle.wu_lists.proofs.Fetches.{fetched-from_gathered}
use Rattle.wu_lists.proofs.lists.Lists.fetch.Goals as goal

pub returns-clause-addresses : goal.returns-clause-addresses
returns-clause-addresses g c =
    let frames = c.args.frames.now in
    let holds = g.D.Store.holds c.args.store.now in
    let directory = c.args.dir.now in
    let gains = c.in_ok-walk.ensures.addresses refl in
    subst
    (AreFetched (HasTerm directory c.args.term.now) frames c.args.blob directory.low (directory.high + 1) holds c.args.self.now)
    (sym (c.from.ensures ∙ gains.gained
    ∙ ap (λ (found : List ℕ). found ++ filter (is_live frames) gains.more) c.new-found.ensures.items))
    (fetched-from_gathered (HasTerm directory c.args.term.now) frames c.args.blob directory.low (directory.high + 1) holds c.args.self.now
    gains.more gains.kind)
