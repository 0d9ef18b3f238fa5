use Rattle.std.proofs.Common.{◌++◌, ◌∷◌, [], refl, arith, length-append}
use Rattle.wu_vbyte.proofs.BlockLemmas.{match_weaker, taken_all, taken_first, taken_next, taken_no_next, taken_not_all}
use Rattle.wu_vbyte.proofs.blocks.are_gaps.Goals as goal

pub loop-init : goal.loop-init
loop-init c = (_, refl, taken_first _ _ _ c.requires.within)

pub loop-preserved : goal.loop-preserved
loop-preserved c =
    let i = c.loop.invariant in
    let next = c.in-Some.ensures.found in (
      i.0 ++ c.in-Some.address ∷ [],
      omega (arith, i.1, length-append i.0 (c.in-Some.address ∷ [])),
      taken_next _ _ _ _ _ _ _ _ _ i.2 next.0 next.1 next.2 refl,
    )

pub returns-in_default : goal.returns-in_default
returns-in_default c addresses b f =
    let i = c.loop.invariant in
    taken_no_next _ _ _ _ _ _ _ i.2 (omega (arith, i.1)) c.in_default.ensures.none addresses b f

pub returns : goal.returns
returns c =
    let i = c.loop.invariant in
    match_weaker c.is_complete.result
    (λ h. let all = taken_all _ _ _ _ _ _ _ (rw h.0 at i.2) (omega (arith, i.1)) h.1 in (i.0, all.0, all.1))
    (λ other addresses b f. taken_not_all _ _ _ _ _ _ _ i.2 (omega (arith, i.1)) other addresses b f) c.is_complete.ensures
