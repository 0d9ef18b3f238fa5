-- What several units of background work put into the store, one after another.
use Rattle.std.proofs.Common.{◌≡◌, ℕ, zero, suc, ◌+◌, ◌-◌, ◌≤◌, List, Option, Some, None, ap, sym, subst, arith, ⊎_elim, inl, inr}
use Rattle.wu_outside.specs.Content.{MayDo, with_blob}
use Rattle.wu_outside.specs.Crash.{Moments, Put, try_change}
use Rattle.wu_outside.specs.declared.ranges.ReadRange.{ReadRange}
use Rattle.wu_space.specs.Addresses.{Ranges}
use Rattle.wu_parts.specs.Contents.{Contents}
use Rattle.wu_parts.specs.Flushing.{Told}
use Rattle.wu_parts.specs.Units.{DoUnits, DoesUnit, GoesOn, IsMade, Vanishes}
use Rattle.wu_parts.specs.Working.{ChangesParts, MayChange}
use Rattle.wu_parts.proofs.UnitChains.{unit_changes, units_change}

module _ {X : Type 0} (step : ℕ → Option (List ℕ) → X → X) (low : ℕ) where
  may_wider : (high most n : ℕ) (old new : Option X) → high ≤ most → MayChange step low high n old new → MayChange step low most n old new
  may_wider high most zero old new l m = m
  may_wider high most (suc n) old new l m =
      (m.0, m.1, m.2, may_wider high most n old m.0 l m.3, (m.4.0, omega (arith, m.4.1)), m.5)

  -- the next number is drawn, and its blob may have changed, or none is
  pub may_draw : (d middle high : ℕ) (old told new : Option X) → high ≡ middle + d → d ≤ 1 → low ≤ middle
      → MayChange step low middle (middle - low) old told → (high ≡ middle → new ≡ told)
      → (written : Option (List ℕ)) × MayDo (step middle written) told new → MayChange step low high (high - low) old new
  may_draw zero middle high old told new e most l c still m =
      let same : middle ≡ high = omega (arith, e) in
      subst (λ n. MayChange step low n (n - low) old new) same
      (subst (MayChange step low middle (middle - low) old) (sym (still (sym same))) c)
  may_draw (suc zero) middle high old told new e most l c still m =
      let count : suc (middle - low) ≡ high - low = omega (arith, e, l) in
      subst (λ n. MayChange step low high n old new) count
      (told, middle, m.0, may_wider middle high (middle - low) old told (omega (arith, e)) c, (l, omega (arith, e)), m.1)
  may_draw (suc (suc d)) middle high old told new e most l c still m = absurd (omega (arith, most))

abbrev pub try_put : ℕ → Option (List ℕ) → Moments → Moments
try_put blob written = try_change (Put blob) (with_blob blob written)

-- at most as many puts as numbers were drawn, each of a blob of such a number
abbrev pub PutDrawn : Contents → Contents → Told → Told → Type 0
PutDrawn old new before after =
    MayChange with_blob old.next_blob new.next_blob (new.next_blob - old.next_blob) before.0 after.0
    × MayChange try_put old.next_blob new.next_blob (new.next_blob - old.next_blob) before.1 after.1

-- one unit more puts a blob of the next number, or none
pub puts_after : (n : ℕ) (old middle new : Contents) (before told after : Told) → PutDrawn old middle before told
    → ChangesParts n old middle → ChangesParts 1 middle new
    → (written : Option (List ℕ)) × MayDo (with_blob middle.next_blob written) told.0 after.0
    → (written : Option (List ℕ)) × MayDo (try_put middle.next_blob written) told.1 after.1
    → (new.next_blob ≡ middle.next_blob → (after.0 ≡ told.0) × (after.1 ≡ told.1)) → PutDrawn old new before after
puts_after n old middle new before told after earlier those this holds moments still =
    let d : ℕ = new.next_blob - middle.next_blob in
    let e : new.next_blob ≡ middle.next_blob + d = omega (arith, this.drawn.0) in
    let most : d ≤ 1 = omega (arith, this.drawn.1) in (
      may_draw with_blob old.next_blob d middle.next_blob new.next_blob before.0 told.0 after.0 e most those.drawn.0 earlier.0
          (λ same. (still same).0) holds,
      may_draw try_put old.next_blob d middle.next_blob new.next_blob before.1 told.1 after.1 e most those.drawn.0 earlier.1
          (λ same. (still same).1) moments,
    )

module _ (ranges : Ranges) where
  -- a unit puts a blob of the next number, or none
  unit_puts : (old new : Contents) (before after : Told) (read : List ReadRange) → DoesUnit ranges old new before after read
      → (written : Option (List ℕ))
      × (MayDo (with_blob old.next_blob written) before.0 after.0 × MayDo (try_put old.next_blob written) before.1 after.1)
  unit_puts old new before after read u =
      ⊎_elim
      (λ (g : GoesOn u.job.place u.state old new before after).
      (None, (inl (ap (λ (t : Told). t.0) g.stored), inl (ap (λ (t : Told). t.1) g.stored))))
      (λ l.
      ⊎_elim
      (λ (v : Vanishes u.job.place u.state old new before after).
      (None, (inl (ap (λ (t : Told). t.0) v.stored), inl (ap (λ (t : Told). t.1) v.stored))))
      (λ (m : IsMade u.job.place u.state old new before after).
      (Some m.bytes, (inr (ap (λ (t : Told). t.0) m.stored), inr (ap (λ (t : Told). t.1) m.stored))))
      l)
      u.leaves

  -- where no number is drawn, it puts none
  unit_undrawn : (old new : Contents) (before after : Told) (read : List ReadRange) → DoesUnit ranges old new before after read
      → new.next_blob ≡ old.next_blob → after ≡ before
  unit_undrawn old new before after read u same =
      ⊎_elim
      (λ (g : GoesOn u.job.place u.state old new before after). g.stored)
      (λ l.
      ⊎_elim
      (λ (v : Vanishes u.job.place u.state old new before after). v.stored)
      (λ (m : IsMade u.job.place u.state old new before after).
      let drawn : new.next_blob ≡ old.next_blob + 1 = ap (λ (k : Contents). k.next_blob) m.contents in
      absurd (omega (arith, same, drawn)))
      l)
      u.leaves

  pub units_put : (n : ℕ) (old new : Contents) (before after : Told) (read : List ReadRange)
      → DoUnits ranges n old new before after read → PutDrawn old new before after
  units_put zero old new before after read u =
      let none : 0 ≡ new.next_blob - old.next_blob = omega (arith, ap (λ (k : Contents). k.next_blob) u.0) in (
        subst (λ n. MayChange with_blob old.next_blob new.next_blob n before.0 after.0) none (ap (λ (t : Told). t.0) u.1.0),
        subst (λ n. MayChange try_put old.next_blob new.next_blob n before.1 after.1) none (ap (λ (t : Told). t.1) u.1.0),
      )
  units_put (suc n) old new before after read u =
      let last = unit_puts u.0 new u.1 after u.3 u.5 in
      puts_after n old u.0 new before u.1 after (units_put n old u.0 before u.1 u.2 u.4) (units_change ranges n old u.0 before u.1 u.2 u.4)
      (unit_changes ranges u.0 new u.1 after u.3 u.5) (last.0, last.1.0) (last.0, last.1.1)
      (λ same. let e = unit_undrawn u.0 new u.1 after u.3 u.5 same in (ap (λ (t : Told). t.0) e, ap (λ (t : Told). t.1) e))

-- no unit is left to do
pub puts_idle : (old middle new : Contents) (before told after : Told) → PutDrawn old middle before told → new ≡ middle → after ≡ told
    → PutDrawn old new before after
puts_idle old middle new before told after earlier same stored =
    subst (λ t. PutDrawn old new before t) (sym stored) (subst (λ k. PutDrawn old k before told) (sym same) earlier)
