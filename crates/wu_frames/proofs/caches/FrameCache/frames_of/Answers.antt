use Rattle.std.proofs.Common.{refl, sym}
use Rattle.wu_frames.proofs.Keeping.{right-found}
use Rattle.wu_frames.proofs.caches.FrameCache.frames_of.Goals as goal

pub returns : goal.returns
returns c = (
  (refl, λ _. tt, (c.prepare.ensures.right, (c.in_ok-prepare.ensures.asked, sym c.in-Some.ensures, c.in_ok-prepare.ensures.entries))),
  record {
    frames = right-found _ _ c.args.uid c.prepare.new.self c.in-Some.frames.now c.prepare.ensures.right c.in-Some.ensures;
    ready = λ _. refl;
    right = tt;
  },
)
