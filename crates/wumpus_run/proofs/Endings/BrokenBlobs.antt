-- A session that can't be opened since a blob is damaged names one that is broken.
use Rattle.std.proofs.Common.{◌≡◌, ℕ}
use Rattle.std.specs.Prelude.{Option, Some}
use Rattle.wu_outside.specs.Content.{Content}
use Rattle.wu_parts.proofs.LayoutUnits.{if_told}
use Rattle.wu_engine.specs.declared.faults.BeginFault.{BeginFault}
use Rattle.wu_engine.specs.Going.{HasBroken}
use Rattle.wu_engine.specs.Opening.{IsBeginCause, IsDamagedAtOpening}
use Rattle.wu_engine.proofs.BrokenBlobs.{opening_is_broken}
use Rattle.wumpus_run.specs.declared.statuses.Status.TheVariants.{Damaged}
use Rattle.wumpus_run.specs.Ended.{status_of_opening}
use Rattle.wumpus_run.proofs.Endings.EndStatuses.{saved_damaged}

pub opening_broken : (holds : Option Content) (fault : BeginFault) (before now : ℕ) → IsBeginCause holds before now fault
    → (content : Content) → holds ≡ Some content → (blob : ℕ) → status_of_opening fault ≡ Damaged blob → HasBroken content blob
opening_broken holds fault before now cause content told blob e =
    opening_is_broken content blob
    (if_told (λ (c : Content). IsDamagedAtOpening c blob) holds content told (cause.damaged blob (saved_damaged fault blob e)))
