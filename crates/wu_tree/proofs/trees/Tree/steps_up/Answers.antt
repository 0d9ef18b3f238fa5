use Rattle.std.proofs.Common.{◌≡◌, ◌≢◌, ◌≤◌, ◌+◌, ◌-◌, ◌∙◌, ℕ, refl, sym, ap, subst, true, false, arith, List}
use Rattle.std.specs.Prelude.{Some}
use Rattle.wu_tree.specs.FileSystems.{ancestors, path_up}
use Rattle.wu_tree.specs.Paths.{through, steps_to}
use Rattle.wu_tree.proofs.ParentPaths.{has_root, path_is, reached, climb, climb_low}
use Rattle.wu_tree.proofs.PathsUp.{walk_on, walk_met, walk_past_root, walk_stops}
use Rattle.wu_tree.proofs.trees.Tree.steps_up.Goals as goal

pub loop-current-init : goal.loop-current-init
loop-current-init c =
    let p = path_is c.args.self.now.links c.args.from in
    let s : steps_to c.args.to (path_up c.args.self.now.links c.args.from)
    ≡ steps_to c.args.to (ancestors c.args.self.now.links 255 c.args.from) = ap (steps_to c.args.to) p in (
      omega arith,
      c.requires,
      subst (λ (path : List ℕ). has_root path ≡ true) p
          (reached c.args.self.now c.keeps_the_rules.ensures c.args.from c.requires),
      ap (through c.args.to) p,
      omega arith,
    )

pub returns-then-current-eq-ROOT : goal.returns-then-current-eq-ROOT
returns-then-current-eq-ROOT c =
    let l = c.args.self.now.links in
    let apart : 1 ≢ c.args.to = λ e. c.loop-current-test.true (c.if-current-eq-ROOT.true ∙ e) in
    let no : through c.args.to (path_up l c.args.from) ≡ false =
    c.loop-current.invariant.3 ∙ ap (λ (d : ℕ). through c.args.to (ancestors l (255 - c.loop-current.steps) d)) c.if-current-eq-ROOT.true
    ∙ walk_past_root l c.args.to (255 - c.loop-current.steps) apart in
    rw no refl

pub returns-in-None : goal.returns-in-None
returns-in-None c =
    let no : through c.args.to (path_up c.args.self.now.links c.args.from) ≡ false = c.loop-current.invariant.3
    ∙ walk_stops c.args.self.now.links c.args.to (255 - c.loop-current.steps) c.loop-current.current c.loop-current-test.true
    (sym c.in-None.ensures.parent) in
    rw no refl

pub loop-current-preserved : goal.loop-current-preserved
loop-current-preserved c =
    let l = c.args.self.now.links in
    let root : has_root (ancestors l (255 - c.loop-current.steps) c.loop-current.current) ≡ true = c.loop-current.invariant.2 in
    let up = climb l (255 - c.loop-current.steps) c.loop-current.current c.in-Some.parent root c.if-current-eq-ROOT.false
    (sym c.in-Some.ensures.parent) in
    let on = walk_on l c.args.to (255 - c.loop-current.steps) c.loop-current.current c.in-Some.parent root c.if-current-eq-ROOT.false
    (sym c.in-Some.ensures.parent) c.loop-current-test.true in
    let e : 255 - c.loop-current.steps - 1 ≡ 255 - (c.loop-current.steps + 1) = omega arith in
    let r : has_root (ancestors l (255 - (c.loop-current.steps + 1)) c.in-Some.parent)
    ≡ true = subst (λ (k : ℕ). has_root (ancestors l k c.in-Some.parent) ≡ true) e up.1 in
    let t : through c.args.to (ancestors l (255 - c.loop-current.steps) c.loop-current.current)
    ≡ through c.args.to (ancestors l (255 - (c.loop-current.steps + 1)) c.in-Some.parent) =
    subst (λ (k : ℕ). through c.args.to (ancestors l (255 - c.loop-current.steps) c.loop-current.current)
    ≡ through c.args.to (ancestors l k c.in-Some.parent)) e on.0 in
    let n : steps_to c.args.to (ancestors l (255 - c.loop-current.steps) c.loop-current.current)
    ≡ 1 + steps_to c.args.to (ancestors l (255 - (c.loop-current.steps + 1)) c.in-Some.parent) =
    subst (λ (k : ℕ). steps_to c.args.to (ancestors l (255 - c.loop-current.steps) c.loop-current.current)
    ≡ 1 + steps_to c.args.to (ancestors l k c.in-Some.parent)) e on.1 in
    let low : 1 ≤ 255 - (c.loop-current.steps + 1) = climb_low l (255 - (c.loop-current.steps + 1)) c.in-Some.parent r in
    (omega arith, c.in-Some.ensures.directory, r, c.loop-current.invariant.3 ∙ t, omega (arith, c.loop-current.invariant.4))

pub returns : goal.returns
returns c =
    let l = c.args.self.now.links in
    let met = walk_met l (255 - c.loop-current.steps) c.loop-current.current c.loop-current.invariant.2 in
    let through_it : through c.args.to (path_up l c.args.from) ≡ true =
    c.loop-current.invariant.3
    ∙ ap (λ (d : ℕ). through d (ancestors l (255 - c.loop-current.steps) c.loop-current.current)) (sym c.loop-current-test.false)
    ∙ met.0 in
    let z : steps_to c.args.to (ancestors l (255 - c.loop-current.steps) c.loop-current.current)
    ≡ 0 = ap (λ (d : ℕ). steps_to d (ancestors l (255 - c.loop-current.steps) c.loop-current.current)) (sym c.loop-current-test.false)
    ∙ met.1 in
    let n : c.loop-current.steps ≡ steps_to c.args.to (path_up l c.args.from) = omega (arith, c.loop-current.invariant.4) in
    rw through_it (ap Some n)
