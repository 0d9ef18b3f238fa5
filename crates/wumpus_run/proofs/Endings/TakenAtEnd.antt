-- How much a session took of its input, however it ended.
use Rattle.std.proofs.Common.{◌≡◌, ℕ, ◌+◌, ◌≤◌, List, [], ◌++◌, length, Option, None, Some, refl, ap, inl, inr, arith, length-append}
use Rattle.std.specs.Io.KnownBytes.{IsAtEnd}
use Rattle.std.proofs.KnownBytes.{Consumes-nil, Consumes-trans}
use Rattle.wu_script.specs.declared.ends.ReadEnd.{ReadEnd}
use Rattle.wu_script.specs.declared.ends.ReadEnd.TheVariants as ends
use Rattle.wu_script.specs.Holding.{Held, IsGiven}
use Rattle.wu_script.specs.Items.{EndsBeforeItem}
use Rattle.wu_options.specs.declared.command_lines.Settings.{Settings}
use Rattle.wumpus_run.specs.declared.statuses.Status.{Status}
use Rattle.wumpus_run.specs.declared.statuses.Status.TheVariants.{Done, Usage, ReadFault, WriteFault, NoMemory, InputTooLong, StoreFault}
use Rattle.wumpus_run.specs.declared.statuses.Status.TheVariants.{Damaged, Spent}
use Rattle.wumpus_run.specs.Taking.{TakesAtMost, TakesExactly}
use Rattle.wumpus_run.specs.Ended.{status_of}
use Rattle.wumpus_run.specs.Session.{Moment, IsTooLong, Completes, StaysWithin, TakesAll}
use Rattle.wumpus_run.proofs.SessionLemmas.{HasTaken}

taken_twice : (input : List ℕ) (left : Option (List ℕ)) (most : ℕ) → TakesAtMost most (Some input) left
    → TakesExactly (most + 1) (Some input) left → ⊥
taken_twice input None most few many = absurd few.1
taken_twice input (Some rest) most few many =
    omega (arith, ap length few.1, ap length many.1, length-append few.0 rest, length-append many.0 rest, few.2, many.2)

too_much : (input : List ℕ) (left : Option (List ℕ)) (most : ℕ) → TakesExactly (most + 1) (Some input) left → length input ≤ most → ⊥
too_much input None most many within = absurd many.1
too_much input (Some rest) most many within = omega (arith, ap length many.1, length-append many.0 rest, many.2)

-- so far no more was taken
pub TakesAtMost-taken : (before left : Option (List ℕ)) (spare most : ℕ) → HasTaken before left spare most → TakesAtMost most before left
TakesAtMost-taken before left spare most taken = (taken.0, taken.1, omega (arith, taken.2))

pub TakesAtMost-none : (before : Option (List ℕ)) (most : ℕ) → TakesAtMost most before before
TakesAtMost-none before most = ([], Consumes-nil before, omega arith)

pub HasTaken-none : (before : Option (List ℕ)) (most : ℕ) → HasTaken before before most most
HasTaken-none before most = ([], Consumes-nil before, omega arith)

-- ---- how much was taken

module _ (told : Settings) where
  -- no more was taken than the input may have
  pub IsTooLong-short : (status : Status) (before now : Moment) → (status ≡ InputTooLong → ⊥)
      → TakesAtMost told.max_input before.left now.left → IsTooLong status (Some told) before now
  IsTooLong-short status before now other few = by_case before.left few
    where
      by_case : (left : Option (List ℕ)) → TakesAtMost told.max_input left now.left
          → IsTooLong status (Some told) (record before { left = left }) now
      by_case None few = tt
      by_case (Some input) few = (λ long. absurd (other long), λ many. absurd (taken_twice input now.left told.max_input few many))

  -- one byte more was taken
  long : (before now : Moment) → TakesExactly (told.max_input + 1) before.left now.left → IsTooLong InputTooLong (Some told) before now
  long before now many = by_case before.left many
    where
      by_case : (left : Option (List ℕ)) → TakesExactly (told.max_input + 1) left now.left
          → IsTooLong InputTooLong (Some told) (record before { left = left }) now
      by_case None many = tt
      by_case (Some input) many = (λ same. many, λ taken. refl)

  -- reading stopped
  pub IsTooLong-stopped : (end : ReadEnd) (before now : Moment) (between : Option (List ℕ)) (old : Held)
      → HasTaken before.left between old.spare told.max_input → EndsBeforeItem between now.left now.last_read old end
      → IsTooLong (status_of end) (Some told) before now
  IsTooLong-stopped ends.ReadFault before now between old taken stops =
      IsTooLong-short ReadFault before now (λ e. (cc)) (
        taken.0 ++ stops.given,
        Consumes-trans before.left between now.left taken.0 stops.given taken.1 stops.consumed,
        omega (arith, length-append taken.0 stops.given, taken.2, stops.counted),
      )
  IsTooLong-stopped ends.InputTooLong before now between old taken stops =
      long before now (
        taken.0 ++ stops.given,
        Consumes-trans before.left between now.left taken.0 stops.given taken.1 stops.consumed,
        omega (arith, length-append taken.0 stops.given, taken.2, stops.counted),
      )
  IsTooLong-stopped ends.NoMemory before now between old taken stops =
      IsTooLong-short NoMemory before now (λ e. (cc)) (
        taken.0 ++ stops.given,
        Consumes-trans before.left between now.left taken.0 stops.given taken.1 stops.consumed,
        omega (arith, length-append taken.0 stops.given, taken.2, stops.counted),
      )

  -- then at most one byte too many was given
  one_more : (end : ReadEnd) (spare count : ℕ) → IsGiven end spare count → count ≤ spare + 1
  one_more ends.ReadFault spare count given = omega (arith, given)
  one_more ends.InputTooLong spare count given = omega (arith, given)
  one_more ends.NoMemory spare count given = omega (arith, given)

  pub StaysWithin-stopped : (end : ReadEnd) (before now : Moment) (between : Option (List ℕ)) (old : Held)
      → HasTaken before.left between old.spare told.max_input → EndsBeforeItem between now.left now.last_read old end
      → StaysWithin (Some told) before now
  StaysWithin-stopped end before now between old taken stops = (
    taken.0 ++ stops.given,
    Consumes-trans before.left between now.left taken.0 stops.given taken.1 stops.consumed,
    omega (arith, length-append taken.0 stops.given, taken.2, one_more end old.spare (length stops.given) stops.counted),
  )

  pub StaysWithin-short : (before now : Moment) → TakesAtMost told.max_input before.left now.left → StaysWithin (Some told) before now
  StaysWithin-short before now few = (few.0, few.1, omega (arith, few.2))

  ended_input : (input : List ℕ) (left : Option (List ℕ)) → IsAtEnd left → TakesAtMost told.max_input (Some input) left
      → (length input ≤ told.max_input) × (left ≡ Some [])
  ended_input input None ended few = absurd few.1
  ended_input input (Some xs) ended few = (omega (arith, ap length few.1, length-append few.0 xs, ap length ended, few.2), ap Some ended)

  -- the input was read to its end
  pub TakesAll-end : (before now : Moment) → IsAtEnd now.left → TakesAtMost told.max_input before.left now.left
      → TakesAll (Some told) before now
  TakesAll-end before now ended few = by_case before.left few
    where
      by_case : (left : Option (List ℕ)) → TakesAtMost told.max_input left now.left
          → TakesAll (Some told) (record before { left = left }) now
      by_case None few = tt
      by_case (Some input) few = ended_input input now.left ended few

-- ---- where nothing went wrong

-- where there was no usage and no fault, and the store is sound and has room
pub record IsFree (status : Status) : Type 0 where
  pub usage : status ≡ Usage → ⊥
  pub read : status ≡ ReadFault → ⊥
  pub write : status ≡ WriteFault → ⊥
  pub store : status ≡ StoreFault → ⊥
  pub damaged : (blob : ℕ) → status ≡ Damaged blob → ⊥
  pub spent : (next : ℕ) → status ≡ Spent next → ⊥

-- a session that no fault ended is done, or has too long an input, unless there was no memory
pub Completes-all : (told : Settings) (status : Status) (before now : Moment) → IsFree status
    → (status ≡ Done → TakesAll (Some told) before now) → IsTooLong status (Some told) before now
    → Completes status (Some told) before
Completes-all told status before now free all over = by_case status before.left free all over
  where
    by_case : (status : Status) (left : Option (List ℕ)) → IsFree status
        → (status ≡ Done → TakesAll (Some told) (record before { left = left }) now)
        → IsTooLong status (Some told) (record before { left = left }) now → Completes status (Some told) (record before { left = left })
    by_case status None free all over = tt
    by_case Done (Some input) free all over = (λ within. inl refl, λ beyond. let done = all refl in absurd (omega (arith, done.0)))
    by_case Usage (Some input) free all over = absurd (free.usage refl)
    by_case ReadFault (Some input) free all over = absurd (free.read refl)
    by_case WriteFault (Some input) free all over = absurd (free.write refl)
    by_case StoreFault (Some input) free all over = absurd (free.store refl)
    by_case (Damaged blob) (Some input) free all over = absurd (free.damaged blob refl)
    by_case (Spent next) (Some input) free all over = absurd (free.spent next refl)
    by_case NoMemory (Some input) free all over = (λ within. inr refl, λ beyond. inr refl)
    by_case InputTooLong (Some input) free all over =
        (λ within. absurd (too_much input now.left told.max_input (over.0 refl) within), λ beyond. inl refl)

-- nothing was taken where the arguments weren't read
pub IsTooLong-none : (status : Status) (settings : Option Settings) (before : Moment) → (status ≡ InputTooLong → ⊥)
    → IsTooLong status settings before before
IsTooLong-none status None before other = tt
IsTooLong-none status (Some told) before other = too_long told status before other
  where
    too_long : (told : Settings) (status : Status) (before : Moment) → (status ≡ InputTooLong → ⊥)
        → IsTooLong status (Some told) before before
    too_long told status before other = by_case before.left
      where
        by_case : (left : Option (List ℕ)) → IsTooLong status (Some told) (record before { left = left }) (record before { left = left })
        by_case None = tt
        by_case (Some input) = (
          λ long. absurd (other long),
          λ many. absurd
              (taken_twice input (Some input) told.max_input (TakesAtMost-none (Some input) told.max_input) many),
        )
