use Rattle.std.proofs.Common.{◌≡◌, ◌+◌, min, subst, ap, arith}
use Rattle.wu_space.specs.Addresses.{Addresses, IsSpace}
use Rattle.wu_space.proofs.Live.{space-from_sound, live_in-is}
use Rattle.wu_space.proofs.spaces.Space.live_in.Goals as goal

pub returns : goal.returns
returns c =
    let s : IsSpace c.args.self.now = subst (λ (s : Addresses). IsSpace s) c.self.view_is (space-from_sound _ _ _ _ c.self.invariant (omega arith)) in
    let e : c.min-end.result ≡ min c.args.self.now.next (c.args.high + 1) =
    omega (arith, c.min-end.ensures, c.saturating_add.ensures, ap (λ (s : Addresses). s.next) c.self.view_is) in
    rw (c.saturating_sub.ensures, c.live_below.ensures, c.live_below-2.ensures) (live_in-is _ _ _ _ e c.args.self.now.ranges s.live.given)
