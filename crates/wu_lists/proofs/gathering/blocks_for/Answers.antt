use Rattle.std.proofs.Common.{length, take, sym, arith}
use Rattle.std.proofs.lemmas.List.{drop_all}
use Rattle.wu_lists.proofs.Copies.{before_frames, no_frames_left}
use Rattle.wu_lists.proofs.gathering.blocks_for.Goals as goal

pub returns-in-len1-up : goal.returns-in-len1-up
returns-in-len1-up c = record {
  out = c.count_before.result;
  rest = c.split_at.ensures.back;
  unneeded =
      before_frames c.args.frames.now (record { start = 0; len = 0 }) (take c.count_before.result c.args.blocks.now) (omega arith)
      c.requires.order c.count_before.ensures.before;
}

pub returns-in-empty : goal.returns-in-empty
returns-in-empty c =
    let blocks = c.args.blocks.now in
    record {
      out = length blocks;
      rest = sym (drop_all (length blocks) blocks (omega arith));
      unneeded = no_frames_left c.args.frames.now (take (length blocks) blocks) (omega arith);
    }
