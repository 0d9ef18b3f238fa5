use Rattle.std.proofs.Common.{◌-◌, ◌^◌, ◌≡◌, ℕ, ◌<◌, ◌≤◌, length, take, arith, subst}
use Rattle.std.specs.List.{AllByRecursion}
use Rattle.wu_base.proofs.EachLemmas.{each-drop_all, each-take_more}
use Rattle.wu_lists.proofs.Ascending.{all_from_place}
use Rattle.wu_lists.proofs.frames.count_inside.Goals as goal

pub loop-place-preserved : goal.loop-place-preserved
loop-place-preserved c =
    each-take_more (λ (x : ℕ). x < c.args.limit) c.args.addresses.now c.loop-place.place 0
    (omega arith) c.loop-place.invariant (omega arith)

pub returns-then-addresses-place-clause-others : goal.returns-then-addresses-place-clause-others
returns-then-addresses-place-clause-others c =
    all_from_place c.args.limit 0 (2 ^ 64 - 1) c.loop-place.place c.args.addresses.now 0 c.requires (omega arith) (omega arith)

pub returns-clause-below : goal.returns-clause-below
returns-clause-below c =
    let xs = c.args.addresses.now in
    let end : c.loop-place.place ≡ length xs = omega arith in
    subst (λ (n : ℕ). AllByRecursion (λ (x : ℕ). x < c.args.limit) (take n xs)) end c.loop-place.invariant

pub returns-clause-others : goal.returns-clause-others
returns-clause-others c = each-drop_all (λ (x : ℕ). c.args.limit ≤ x) c.args.addresses.now
