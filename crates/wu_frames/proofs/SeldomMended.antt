-- Nobody's frames were mended too often, whatever was done with what is kept.
use Rattle.std.proofs.Common.{◌≡◌, ℕ, ◌≤◌, Bool, true, false, cond, [], ◌∷◌, nat_eq, sym, subst, ⊎_elim, arith}
use Rattle.std.specs.Prelude.{filter}
use Rattle.std.specs.Map.{remove_entry, set_value}
use Rattle.lru.specs.LruCache.{LruCache, promoted, put_entries}
use Rattle.wu_base.specs.declared.addresses.Range.{Range}
use Rattle.wu_base.proofs.MapEntries.{All-remove_entry, All-set_value}
use Rattle.wu_frames.specs.declared.Frames.{Frames}
use Rattle.wu_frames.specs.declared.mending.TheConstants.{MENDS_MAX}
use Rattle.wu_frames.specs.UserFrames.{AreSeldomMended, Kept, StayOrMove}
use Rattle.wu_frames.proofs.Keeping.{all-promoted, all-put}

abbrev IsSeldom : ℕ × Frames → Type 0
IsSeldom entry = entry.1.mends ≤ MENDS_MAX

-- a user asked, or was put in
pub seldom-asked : (uid : ℕ) (kept : Kept) (frames : Frames) → AreSeldomMended kept
    → AreSeldomMended (set_value (nat_eq uid) (promoted (nat_eq uid) kept) (record frames { mends = 0 }))
seldom-asked uid kept frames a =
    All-set_value IsSeldom (nat_eq uid) (promoted (nat_eq uid) kept) (record frames { mends = 0 }) (all-promoted IsSeldom uid kept a)
    (λ n q. omega arith)

pub seldom-put : (cache : LruCache ℕ Frames) (uid : ℕ) (frames : Frames) → AreSeldomMended cache.entries → frames.mends ≡ 0
    → AreSeldomMended (put_entries nat_eq cache uid frames)
seldom-put cache uid frames a anew = all-put IsSeldom cache uid frames a (omega (arith, anew))

-- a user was forgotten, or those who don't pass a test
pub seldom-without : (uid : ℕ) (kept : Kept) → AreSeldomMended kept → AreSeldomMended (remove_entry (nat_eq uid) kept)
seldom-without uid kept a = All-remove_entry IsSeldom (nat_eq uid) kept a

pub seldom-filtered : (p : ℕ → Bool) (kept : Kept) → AreSeldomMended kept → AreSeldomMended (filter (λ entry. p entry.0) kept)
seldom-filtered p [] a = tt
seldom-filtered p (entry ∷ kept) a =
    let rest : Kept = filter (λ (x : ℕ × Frames). p x.0) kept in
    elim (p entry.0) as (λ b. AreSeldomMended (cond b (entry ∷ rest) rest)) [
      | true ↦ (a.0, seldom-filtered p kept a.1)
      | false ↦ seldom-filtered p kept a.1
    ]

-- a file went from the old range
pub seldom-moved : (old : Range) (kept now : Kept) → StayOrMove old kept now → AreSeldomMended kept → AreSeldomMended now
seldom-moved old [] now s a = subst AreSeldomMended (sym s) tt
seldom-moved old (entry ∷ kept) [] s a = tt
seldom-moved old (entry ∷ kept) (first ∷ now) s a =
    ⊎_elim (λ same. (subst IsSeldom (sym same.0) a.0, seldom-moved old kept now same.1 a.1))
    (λ other.
    ⊎_elim (λ mended. (omega (arith, mended.1.0, mended.1.1), seldom-moved old kept now mended.2 a.1))
    (λ gone. seldom-moved old kept (first ∷ now) gone a.1) other.1) s
