use Rattle.std.proofs.Common.{sym, subst}
use Rattle.wu_frames.specs.UserFrames.{CacheMatchesTree, Kept}
use Rattle.wu_frames.proofs.Rechecking.{right-forgotten}
use Rattle.wu_frames.proofs.SeldomMended.{seldom-without}
use Rattle.wu_frames.proofs.caches.FrameCache.forget.Goals as goal

pub returns-clause-right : goal.returns-clause-right
returns-clause-right c = λ before after live change right.
    let old : CacheMatchesTree before live c.self.inside.kept.entries = subst (λ (k : Kept). CacheMatchesTree before live k) (sym c.self.view_is) right in
    rw c.pop.ensures.entries
    (right-forgotten before after live c.args.uid c.self.inside.kept.entries c.len.ensures.valid.0 change old)

pub invariant_of-self : goal.invariant_of-self
invariant_of-self c =
    rw c.pop.ensures.entries (c.self.invariant.0, seldom-without _ _ c.self.invariant.1)
