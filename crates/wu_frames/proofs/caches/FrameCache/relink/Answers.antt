use Rattle.std.proofs.Common.{rules, sym, ◌∙◌, subst}
use Rattle.wu_frames.specs.UserFrames.{CacheMatchesTree, Kept}
use Rattle.wu_frames.specs.Links.{sees_none}
use Rattle.wu_frames.proofs.Relinking.{right-unshown, unshown-none}
use Rattle.wu_frames.proofs.SeldomMended.{seldom-filtered}
use Rattle.wu_frames.proofs.caches.FrameCache.relink.Goals as goal

pub returns-clause-right : goal.returns-clause-right
returns-clause-right c = λ fs live now change same right.
    let old : CacheMatchesTree fs live c.self.inside.kept.entries = subst (λ (k : Kept). CacheMatchesTree fs live k) (sym c.self.view_is) right in
    rw c.forget_changed.ensures.entries
    (right-unshown live now fs c.args.tree.now c.keeps_the_rules.ensures c.args.links change same c.self.inside.kept.entries old)

pub returns-in-None-clause-right : goal.returns-in-None-clause-right
returns-in-None-clause-right c = λ fs live now change same right.
    subst (λ (k : Kept). CacheMatchesTree c.args.tree.now now k)
    (unshown-none c.args.tree.now c.args.links c.args.self.now (search rules) (search rules) (search rules))
    (right-unshown live now fs c.args.tree.now c.keeps_the_rules.ensures c.args.links change same c.args.self.now right)

pub returns-in-None-clause-stays : goal.returns-in-None-clause-stays
returns-in-None-clause-stays c =
    sym (unshown-none c.args.tree.now c.args.links c.args.self.now (search rules) (search rules) (search rules))

pub invariant_of-self : goal.invariant_of-self
invariant_of-self c = (
  c.forget_changed.ensures.cap ∙ c.self.invariant.0,
  rw c.forget_changed.ensures.entries
      (seldom-filtered (sees_none c.args.tree.now c.args.links) c.self.inside.kept.entries c.self.invariant.1),
)
