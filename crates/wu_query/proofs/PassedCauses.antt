-- Why a call fails that fetches terms: what its callees answer is passed on.
use Rattle.std.proofs.Common.{◌≡◌, ℕ, List, refl, subst, sym}
use Rattle.std.specs.Prelude.{Option, Result, Ok, Err, IfErr, IsErrAnd}
use Rattle.wu_base.specs.declared.addresses.Range.{Range}
use Rattle.wu_base.specs.declared.troubles.Trouble.{Trouble}
use Rattle.wu_base.specs.declared.troubles.Trouble.TheVariants.{NoMemory}
use Rattle.wu_outside.specs.Content.{Content}
use Rattle.wu_outside.specs.declared.ranges.ReadRange.{ReadRange}
use Rattle.wu_lists.specs.Keeping.{Asks, Kept}
use Rattle.wu_parts.specs.Contents.{Contents}
use Rattle.wu_query.specs.Asked.{blocks_for}
use Rattle.wu_query.specs.Units.{IsCauseFor}
use Rattle.wu_query.proofs.Asking.{fails_at_once, fails_last}

-- the error of a result is a callee's, which was passed on
pub err_from : {T E : Type 0} (P : E → Type 0) (r : Result T E) (error : E) → IsErrAnd r (λ passed. passed ≡ error) → P error → IfErr r P
err_from P (Ok value) error is p = absurd is
err_from P (Err passed) error is p = subst P (sym is) p

module _ {T : Type 0} (r : Result T Trouble) (contents : Contents) (frames : List Range) (terms : List (List ℕ)) where
  -- memory ran out before any block was asked for
  pub cause_at_once : (holds : Option Content) (faults : ℕ) (ranges : Option (List ReadRange)) → IsErrAnd r (λ error. error ≡ NoMemory)
      → IfErr r (IsCauseFor contents frames terms holds faults faults ranges ranges)
  cause_at_once holds faults ranges is = err_from _ r NoMemory is (fails_at_once refl)

  -- and after all of them
  pub cause_at_last : {holds : Option Content} {kept : Kept} {before now : ℕ} {ranges ranges_now : Option (List ReadRange)}
      → now ≡ before → Asks (blocks_for contents frames terms) holds contents.kept kept ranges ranges_now
      → IsErrAnd r (λ error. error ≡ NoMemory) → IfErr r (IsCauseFor contents frames terms holds before now ranges ranges_now)
  cause_at_last calm asks is = err_from _ r NoMemory is (fails_last asks calm)

  -- a trouble of the fetch
  pub cause_passed : {asked : List (List ℕ)} {holds : Option Content} {before now : ℕ} {ranges ranges_now : Option (List ReadRange)}
      {trouble : Trouble} → asked ≡ terms → IsCauseFor contents frames asked holds before now ranges ranges_now trouble
      → IsErrAnd r (λ error. error ≡ trouble) → IfErr r (IsCauseFor contents frames terms holds before now ranges ranges_now)
  cause_passed {trouble} same cause is = err_from _ r trouble is (rw same at cause)
