-- What a call that puts blobs leaves of what a store holds, and of the changes that a crash may undo, whatever the call answers.
use Rattle.std.specs.Prelude.{ℕ, List, Option}
use Rattle.wu_outside.specs.Content.{Content, MayDo, with_blob}
use Rattle.wu_outside.specs.Crash.{Moments, Put, try_change}
use Rattle.wu_parts.specs.Working.{MayChange}

-- the blob was given some bytes or none, or nothing was changed
abbrev pub MayPut : ℕ → Option Content → Option Content → Type 0
MayPut blob before after = (written : Option (List ℕ)) × MayDo (with_blob blob written) before after

-- a put of the blob was tried
abbrev pub try_put : ℕ → Option (List ℕ) → Moments → Moments
try_put blob written = try_change (Put blob) (with_blob blob written)

-- it was, or nothing was tried
abbrev pub MayTryPut : ℕ → Option Moments → Option Moments → Type 0
MayTryPut blob before after = (written : Option (List ℕ)) × MayDo (try_put blob written) before after

-- so many puts were tried at most, of blobs from the low number on and below the high one
abbrev pub MayTryPuts : ℕ → ℕ → ℕ → Option Moments → Option Moments → Type 0
MayTryPuts low high most before after = MayChange (λ blob written. try_put blob written) low high most before after
