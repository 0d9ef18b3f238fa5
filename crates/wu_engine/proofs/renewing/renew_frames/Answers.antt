use Rattle.std.proofs.Common.{◌≡◌, sym, ◌∙◌}
use Rattle.std.specs.Prelude.{None}
use Rattle.wu_space.specs.Addresses.{range_of}
use Rattle.wu_engine.proofs.KeptFrames.{given_range, renewed, who_stays}
use Rattle.wu_engine.proofs.renewing.renew_frames.Goals as goal

pub returns-in-Some-clause-right : goal.returns-in-Some-clause-right
returns-in-Some-clause-right c =
    rw c.in-RangeOf.is
    (λ fs before changed right.
    rw changed.0
    (renewed fs before c.args.space.now c.in-RangeOf.ino c.in-RangeOf.old c.in-Some.new c.args.frames.now c.move_range.new.self changed.1
    (sym c.range_of.ensures ∙ c.in-Some.is) c.move_range.ensures.right right))

pub returns-in-PermOf-clause-right : goal.returns-in-PermOf-clause-right
returns-in-PermOf-clause-right c =
    rw c.in-PermOf.is (λ fs before changed right. rw changed.0 (c.recheck.ensures.right fs before.ranges changed.1 right))

pub returns-in-GroupsOf-clause-right : goal.returns-in-GroupsOf-clause-right
returns-in-GroupsOf-clause-right c =
    rw c.in-GroupsOf.is
    (λ fs before changed right. rw changed.0 (c.forget.ensures.right fs c.args.tree.now before.ranges changed.1 right))

pub returns-in-Links-clause-right : goal.returns-in-Links-clause-right
returns-in-Links-clause-right c =
    rw c.in-Links.is
    (λ fs before changed right. c.relink.ensures.right fs before.ranges c.args.space.now.ranges changed.0 changed.1 right)

pub returns-in-Some-clause-left : goal.returns-in-Some-clause-left
returns-in-Some-clause-left c =
    rw c.in-RangeOf.is
    (λ fs before changed right. (
      c.move_range.ensures.stays,
      who_stays fs before c.args.space.now c.in-RangeOf.ino c.in-RangeOf.old c.in-Some.new c.args.frames.now c.move_range.new.self changed.1
          (sym c.range_of.ensures ∙ c.in-Some.is) c.move_range.ensures.right c.move_range.ensures.users c.keeps_the_rules.ensures right,
    ))

pub returns-in-None-clause-left : goal.returns-in-None-clause-left
returns-in-None-clause-left c =
    rw c.in-RangeOf.is
    (λ fs before changed right.
    let given = given_range before c.args.space.now c.in-RangeOf.ino c.in-RangeOf.old changed.1 in
    let none : range_of c.args.space.now.ranges c.in-RangeOf.ino ≡ None = sym c.range_of.ensures ∙ c.in-None.is in
    absurd (cc))

pub returns-in-PermOf-clause-left : goal.returns-in-PermOf-clause-left
returns-in-PermOf-clause-left c = rw c.in-PermOf.is (λ fs before touches right. c.recheck.ensures.stays)

pub returns-in-GroupsOf-clause-left : goal.returns-in-GroupsOf-clause-left
returns-in-GroupsOf-clause-left c = rw c.in-GroupsOf.is (λ fs before touches right. c.forget.ensures.others)

pub returns-in-Links-clause-left : goal.returns-in-Links-clause-left
returns-in-Links-clause-left c = rw c.in-Links.is (λ fs before touches right. c.relink.ensures.stays)
