-- Lemmas on how many bytes the last read of a source gave, and how many one asked for at most.
use Rattle.std.proofs.Common.{ℕ, ◌≤◌, max, List, Option, refl, ◌∙◌, inl, inr, arith}
use Rattle.std.proofs.KnownBytes.{Keeps-refl, Keeps-trans}
use Rattle.wu_base.specs.declared.limits.TheConstants.{READ_MAX}
use Rattle.wu_script.specs.Holding.{GivesAtMost, asked_at_once}

-- nothing was read
pub GivesAtMost-none : (most : ℕ) (left : Option (List ℕ)) (count : ℕ) → GivesAtMost most left left count count
GivesAtMost-none most left count = inr (Keeps-refl left, refl)

-- one reading after another
pub GivesAtMost-more : (most less : ℕ) (left mid left' : Option (List ℕ)) (before between now : ℕ) → less ≤ most
    → GivesAtMost most left mid before between → GivesAtMost less mid left' between now → GivesAtMost most left left' before now
GivesAtMost-more most less left mid left' before between now within first (inl few) = inl (omega (arith, within, few))
GivesAtMost-more most less left mid left' before between now within (inl few) (inr same) = inl (omega (arith, few, same.1))
GivesAtMost-more most less left mid left' before between now within (inr still) (inr same) = inr
    (Keeps-trans left mid left' still.0 same.0, same.1 ∙ still.1)

-- the same where no more bytes may be given than before
pub GivesAtMost-then : (spare later : ℕ) (left mid left' : Option (List ℕ)) (before between now : ℕ) → later ≤ spare
    → GivesAtMost (asked_at_once spare) left mid before between → GivesAtMost (asked_at_once later) mid left' between now
    → GivesAtMost (asked_at_once spare) left left' before now
GivesAtMost-then spare later left mid left' before between now within first second =
    GivesAtMost-more (asked_at_once spare) (asked_at_once later) left mid left' before between now (omega (arith, within)) first second

-- later reads ask for no more than the earlier ones might, since no more may be given later
pub asked_then : (spare later before between now : ℕ) → later ≤ spare → between ≤ max before (asked_at_once spare)
    → now ≤ max between (asked_at_once later) → now ≤ max before (asked_at_once spare)
asked_then spare later before between now within first second = omega (arith, within, first, second)

-- nothing asks for more than READ_MAX
pub asked_within : (spare before between now : ℕ) → between ≤ max before READ_MAX → now ≤ max between (asked_at_once spare)
    → now ≤ max before READ_MAX
asked_within spare before between now so_far more = omega (arith, so_far, more)
