use Rattle.std.proofs.Common.{ℕ, ◌≤◌, length, nat_eq, refl, sym, subst}
use Rattle.std.specs.Map.{set_value}
use Rattle.lru.specs.LruCache.{promoted, put_entries}
use Rattle.wu_frames.specs.UserFrames.{CacheMatchesTree, HasAsked, Kept}
use Rattle.wu_frames.proofs.Keeping.{absent, asked-again, asked-put, has-asked-again, has-asked-put, kept-asked, kept-put, right-asked}
use Rattle.wu_frames.proofs.Keeping.{right-put}
use Rattle.wu_frames.proofs.SeldomMended.{seldom-asked, seldom-put}
use Rattle.wu_frames.proofs.caches.FrameCache.prepare.Goals as goal

pub returns-in-Some-clause-right : goal.returns-in-Some-clause-right
returns-in-Some-clause-right c =
    let old : CacheMatchesTree c.args.tree.now c.args.space.now.ranges c.self.inside.kept.entries =
    subst (λ (k : Kept). CacheMatchesTree c.args.tree.now c.args.space.now.ranges k) (sym c.self.view_is) c.requires in
    right-asked _ _ c.args.uid _ c.in-Some.frames.now old c.in-Some.ensures.value

pub returns-in-Some-clause-kept : goal.returns-in-Some-clause-kept
returns-in-Some-clause-kept c = kept-asked c.args.uid _ c.in-Some.frames.now _ c.in-Some.ensures.value

pub returns-in_err-frames-clause-right : goal.returns-in_err-frames-clause-right
returns-in_err-frames-clause-right c =
    subst (λ (k : Kept). CacheMatchesTree c.args.tree.now c.args.space.now.ranges k) (sym c.self.view_is) c.requires

pub returns-in_err-put-clause-right : goal.returns-in_err-put-clause-right
returns-in_err-put-clause-right c =
    rw c.in_err-put.ensures.err
    (subst (λ (k : Kept). CacheMatchesTree c.args.tree.now c.args.space.now.ranges k) (sym c.self.view_is) c.requires)

pub returns-clause-right : goal.returns-clause-right
returns-clause-right c =
    let old : CacheMatchesTree c.args.tree.now c.args.space.now.ranges c.self.inside.kept.entries =
    subst (λ (k : Kept). CacheMatchesTree c.args.tree.now c.args.space.now.ranges k) (sym c.self.view_is) c.requires in
    rw c.in_ok-put.ensures.entries (right-put _ _ c.self.inside.kept c.args.uid c.in_ok-frames.frames old c.in_ok-frames.ensures.right)

pub returns-clause-kept : goal.returns-clause-kept
returns-clause-kept c = rw c.in_ok-put.ensures.entries (kept-put c.self.inside.kept c.args.uid c.in_ok-frames.frames)

pub returns-in-Some-clause-asked : goal.returns-in-Some-clause-asked
returns-in-Some-clause-asked c = asked-again c.args.uid _ c.in-Some.frames.now _ c.in-Some.ensures.value refl

pub returns-clause-asked : goal.returns-clause-asked
returns-clause-asked c =
    rw c.in_ok-put.ensures.entries (asked-put c.self.inside.kept c.args.uid c.in_ok-frames.frames c.in_ok-frames.ensures.anew)

pub returns-in-Some-clause-entries : goal.returns-in-Some-clause-entries
returns-in-Some-clause-entries c =
    let old = c.self.inside.kept.entries in
    let hers = record c.in-Some.frames.now { mends = 0 } in
    subst (λ (k : Kept). HasAsked c.args.uid k (set_value (nat_eq c.args.uid) (promoted (nat_eq c.args.uid) old) hers)) c.self.view_is
    (has-asked-again c.args.uid old c.in-Some.frames.now c.in-Some.ensures.value
    (subst (λ (n : ℕ). length old ≤ n) c.self.invariant.0 c.len.ensures.valid.1))

pub returns-clause-entries : goal.returns-clause-entries
returns-clause-entries c =
    let cache = c.self.inside.kept in
    rw c.in_ok-put.ensures.entries
    (subst (λ (k : Kept). HasAsked c.args.uid k (put_entries nat_eq cache c.args.uid c.in_ok-frames.frames)) c.self.view_is
    (has-asked-put cache c.args.uid c.in_ok-frames.frames c.self.invariant.0 c.in_ok-frames.ensures.anew c.in_default.ensures.value))

pub returns-in_err-frames-clause-ready : goal.returns-in_err-frames-clause-ready
returns-in_err-frames-clause-ready c = λ some.
    absurd (absent c.args.uid c.self.inside.kept.entries c.args.self.now c.in_default.ensures.value c.self.view_is some)

pub returns-in_err-put-clause-ready : goal.returns-in_err-put-clause-ready
returns-in_err-put-clause-ready c = λ some.
    absurd (absent c.args.uid c.self.inside.kept.entries c.args.self.now c.in_default.ensures.value c.self.view_is some)

pub invariant_of-self : goal.invariant_of-self
invariant_of-self c = (
  c.self.invariant.0,
  seldom-asked c.args.uid c.self.inside.kept.entries c.in-Some.frames.now c.self.invariant.1,
)

pub invariant_of-self-2 : goal.invariant_of-self-2
invariant_of-self-2 c =
    rw c.in_ok-put.ensures.entries (
      c.self.invariant.0,
      seldom-put c.self.inside.kept c.args.uid c.in_ok-frames.frames c.self.invariant.1 c.in_ok-frames.ensures.anew,
    )
