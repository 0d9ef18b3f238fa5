use Rattle.std.proofs.Common.{sym, ◌∙◌, subst}
use Rattle.wu_frames.specs.UserFrames.{CacheMatchesTree, Kept}
use Rattle.wu_frames.specs.Permissions.{grants_as_before}
use Rattle.wu_frames.proofs.Rechecking.{right-rechecked}
use Rattle.wu_frames.proofs.SeldomMended.{seldom-filtered}
use Rattle.wu_frames.proofs.caches.FrameCache.recheck.Goals as goal

pub returns-clause-right : goal.returns-clause-right
returns-clause-right c = λ fs live change right.
    let old : CacheMatchesTree fs live c.self.inside.kept.entries = subst (λ (k : Kept). CacheMatchesTree fs live k) (sym c.self.view_is) right in
    rw c.forget_changed.ensures.entries
    (right-rechecked fs c.args.ino c.args.before c.args.acl c.args.tree.now change live c.self.inside.kept.entries
    c.keeps_the_rules.ensures old)

pub invariant_of-self : goal.invariant_of-self
invariant_of-self c = (
  c.forget_changed.ensures.cap ∙ c.self.invariant.0,
  rw c.forget_changed.ensures.entries
      (seldom-filtered (grants_as_before c.args.tree.now c.args.ino c.args.before c.args.acl) c.self.inside.kept.entries c.self.invariant.1),
)
