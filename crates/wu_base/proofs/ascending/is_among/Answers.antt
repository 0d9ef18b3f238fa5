use Rattle.std.proofs.Common.{◌∙◌}
use Rattle.wu_base.proofs.SortedLists.{found_is_any}
use Rattle.wu_base.proofs.ascending.is_among.Goals as goal

pub returns : goal.returns
returns g c =
    let found = c.binary_search.ensures in
    c.is_ok.ensures.value ∙ found_is_any g.met.T.Ord.total g.met.T.Ord.matches_eq _ _ _ c.requires.ascending found.bound found.position
