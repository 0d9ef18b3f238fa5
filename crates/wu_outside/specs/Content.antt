-- What a store holds, what its calls answer of that, and what a change leaves.
use Rattle.std.specs.Prelude.{◌≡◌, ℕ, ◌==◌, List, length, take, drop, cond, ◌⊎◌, Option, None, Some, option_map, Result, Err, OnOk, OnErr}
use Rattle.wu_outside.specs.declared.traits.Fault.{Fault}
use Rattle.wu_outside.specs.declared.traits.Fault.TheVariants.{NoMemory}

-- the blobs by number, and the root, each with its bytes where it is there
pub record Content : Type 0 where
  pub blobs : ℕ → Option (List ℕ)
  pub root : Option (List ℕ)

-- nothing is there
abbrev pub no_content : Content
no_content = record { blobs = λ _. None; root = None }

-- one blob has these bytes, or is absent, and all else is as it was
abbrev pub with_blob : ℕ → Option (List ℕ) → Content → Content
with_blob blob bytes content = record content { blobs = λ other. cond (other == blob) bytes (content.blobs other) }

-- the root has these bytes, and all else is as it was
abbrev pub with_root : List ℕ → Content → Content
with_root bytes content = record content { root = Some bytes }

-- the blob is there, and has so many bytes
abbrev pub HasSize : ℕ → Option (List ℕ) → Type 0
HasSize size None = ⊥
HasSize size (Some bytes) = length bytes ≡ size

-- a read from a place on fills a buffer as far as the blob goes; where the blob is absent there is nothing to count
abbrev pub ReadsFrom : Option (List ℕ) → ℕ → Option ℕ → List ℕ → Type 0
ReadsFrom None place count buffer = count ≡ None
ReadsFrom (Some bytes) place count buffer =
    let given = take (length buffer) (drop place bytes) in
    (count ≡ Some (length given)) × (take (length given) buffer ≡ given)

-- the whole length of the root is answered, and its first bytes are in the buffer
abbrev pub GivesRoot : Option (List ℕ) → Option ℕ → List ℕ → Type 0
GivesRoot None count buffer = count ≡ None
GivesRoot (Some bytes) count buffer =
    (count ≡ Some (length bytes)) × (take (length bytes) buffer ≡ take (length buffer) bytes)

-- what is told is as it was, or the step was done
abbrev pub MayDo : {X : Type 0} → (X → X) → Option X → Option X → Type 0
MayDo step old new = (new ≡ old) ⊎ (new ≡ option_map step old)

-- the step was done; after a fault it was done or not, and out of memory it was not
pub record Does {X T : Type 0} (step : X → X) (old new : Option X) (r : Result T Fault) : Type 0 where
  pub done : OnOk r (new ≡ option_map step old)
  pub failed : OnErr r (MayDo step old new)
  pub out_of_memory : r ≡ Err NoMemory → new ≡ old

-- the bytes were written; after a fault any bytes or none may have been, and out of memory nothing was
pub record Writes {X T : Type 0} (step : Option (List ℕ) → X → X) (bytes : List ℕ) (old new : Option X) (r : Result T Fault) : Type 0 where
  pub done : OnOk r (new ≡ option_map (step (Some bytes)) old)
  pub failed : OnErr r ((written : Option (List ℕ)) × MayDo (step written) old new)
  pub out_of_memory : r ≡ Err NoMemory → new ≡ old
