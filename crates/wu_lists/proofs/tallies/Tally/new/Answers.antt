use Rattle.std.proofs.Common.{ap, sym}
use Rattle.wu_lists.proofs.Tallying.{frames_with-none, tally_with}
use Rattle.wu_lists.proofs.tallies.Tally.new.Goals as goal

pub returns : goal.returns
returns c = λ frames. ap (λ n. tally_with 0 n 0) (sym (frames_with-none frames))
