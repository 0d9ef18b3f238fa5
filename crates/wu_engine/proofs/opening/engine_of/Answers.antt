use Rattle.wu_engine.proofs.OpenedFiles.{sound_engine}
use Rattle.wu_engine.proofs.opening.engine_of.Goals as goal

pub invariant_of-result : goal.invariant_of-result
invariant_of-result c = record {
  sound = λ _.
      rw (c.in_ok-space.ensures.space, c.in_ok-space.ensures.files, c.in_ok-space.ensures.frames)
      (sound_engine c.args.checkpoint c.args.parts c.requires.rules c.requires.room c.requires.drawn c.requires.next_blob c.requires.end);
}
