use Rattle.std.proofs.Common.{◌≡◌, ◌≤◌, ◌+◌, ◌-◌, ℕ, sym, ap, subst, true, arith, length}
use Rattle.wu_tree.specs.FileSystems.{ancestors, path_up}
use Rattle.wu_tree.proofs.ParentPaths.{has_root, path_is, reached, climb, climb_ends, climb_at_root, climb_low}
use Rattle.wu_tree.proofs.trees.Tree.depth.Goals as goal

pub loop-current-init : goal.loop-current-init
loop-current-init c =
    let p = path_is c.args.self.now.links c.args.directory in
    let n : length (path_up c.args.self.now.links c.args.directory)
    ≡ length (ancestors c.args.self.now.links 255 c.args.directory) = ap length p in (
      omega arith,
      omega arith,
      c.requires,
      omega arith,
      subst (λ path. has_root path ≡ true) p
          (reached c.args.self.now c.keeps_the_rules.ensures c.args.directory c.requires),
    )

pub returns-in-None : goal.returns-in-None
returns-in-None c = omega (
  arith,
  climb_ends c.args.self.now.links (256 - c.loop-current.depth) c.loop-current.current c.loop-current.invariant.4
      (sym c.in-None.ensures.parent),
  c.loop-current.invariant.3,
)

pub loop-current-preserved : goal.loop-current-preserved
loop-current-preserved c =
    let l = c.args.self.now.links in
    let up = climb l
    (256 - c.loop-current.depth) c.loop-current.current c.in-Some.parent c.loop-current.invariant.4 c.loop-current-test.true
    (sym c.in-Some.ensures.parent) in
    let e : 256 - c.loop-current.depth - 1 ≡ 256 - (c.loop-current.depth + 1) = omega arith in
    let r : has_root (ancestors l (256 - (c.loop-current.depth + 1)) c.in-Some.parent)
    ≡ true = subst (λ (k : ℕ). has_root (ancestors l k c.in-Some.parent) ≡ true) e up.1 in
    let n : length (ancestors l (256 - c.loop-current.depth) c.loop-current.current)
    ≡ length (ancestors l (256 - (c.loop-current.depth + 1)) c.in-Some.parent) + 1 =
    subst (λ (k : ℕ). length (ancestors l (256 - c.loop-current.depth) c.loop-current.current)
    ≡ length (ancestors l k c.in-Some.parent) + 1) e up.0 in
    let low : 1 ≤ 256 - (c.loop-current.depth + 1) = climb_low l (256 - (c.loop-current.depth + 1)) c.in-Some.parent r in
    (omega arith, omega arith, c.in-Some.ensures.directory, omega (arith, c.loop-current.invariant.3), r)

pub returns : goal.returns
returns c =
    let at_root : has_root (ancestors c.args.self.now.links (256 - c.loop-current.depth) 1)
    ≡ true = subst
    (λ (d : ℕ). has_root (ancestors c.args.self.now.links (256 - c.loop-current.depth) d)
    ≡ true) c.loop-current-test.false c.loop-current.invariant.4 in
    let n : length (ancestors c.args.self.now.links (256 - c.loop-current.depth) c.loop-current.current)
    ≡ 1 = rw c.loop-current-test.false (climb_at_root c.args.self.now.links (256 - c.loop-current.depth) at_root) in
    omega (arith, c.loop-current.invariant.3)
