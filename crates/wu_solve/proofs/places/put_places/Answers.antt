use Rattle.std.proofs.Common.{◌≡◌, ◌++◌, ◌∷◌, [], ◌∙◌, ◌<◌, ◌≤◌, List, length, get_or, drop, sym, ap, arith, append-nil, append_assoc}
use Rattle.std.proofs.lemmas.Grind.{common_steps}
use Rattle.wu_base.specs.declared.addresses.Extent.{Extent}
use Rattle.wu_solve.specs.Spanning.{places_to}
use Rattle.wu_solve.proofs.NearPlaces.{step_places, stopped}
use Rattle.wu_solve.proofs.places.put_places.Goals as goal

pub loop-address-preserved : goal.loop-address-preserved
loop-address-preserved c =
    let rest = c.loop-address.rest.now in
    let bound = c.args.bound in
    let old = c.loop-address.found.items in
    let some : 0 < length rest = grind (arith, common_steps) in
    let first : c.in-Some.address.now ≡ get_or rest 0 0 = grind (arith, common_steps) in
    let low : get_or rest 0 0 ≤ bound = omega (arith, first, c.if-bound-address.false) in
    let inv = c.loop-address.invariant in
    let step = step_places bound rest some low in
    let here : Extent = record { start = get_or rest 0 0; end = get_or rest 0 0 } in
    let pushed : c.push.new.self.items ≡ old ++ here ∷ [] = rw (sym first) c.in_ok-push.ensures.items in
    rw (c.behind-rest.ensures, pushed) (record {
      left = sym step.1 ∙ inv.left;
      same = append_assoc old (here ∷ []) (places_to bound (drop 1 rest)) ∙ ap (λ (xs : List Extent). old ++ xs) (sym step.0) ∙ inv.same;
    })

pub returns-then-bound-address : goal.returns-then-bound-address
returns-then-bound-address c =
    let rest = c.loop-address.rest.now in
    let inv = c.loop-address.invariant in
    let over : 0 < length rest → c.args.bound < get_or rest 0 0 = λ some. grind (arith, common_steps) in
    let s = stopped c.args.bound rest over in
    record {
      rest = sym s.1 ∙ inv.left;
      put = sym (append-nil c.loop-address.found.items) ∙ ap (λ (xs : List Extent). c.loop-address.found.items ++ xs) (sym s.0) ∙ inv.same;
    }

pub returns : goal.returns
returns c =
    let rest = c.loop-address.rest.now in
    let inv = c.loop-address.invariant in
    let none : length rest ≡ 0 = grind (arith, common_steps) in
    let over : 0 < length rest → c.args.bound < get_or rest 0 0 = λ some. absurd (omega (arith, none, some)) in
    let s = stopped c.args.bound rest over in
    record {
      rest = sym s.1 ∙ inv.left;
      put = sym (append-nil c.loop-address.found.items) ∙ ap (λ (xs : List Extent). c.loop-address.found.items ++ xs) (sym s.0) ∙ inv.same;
    }
