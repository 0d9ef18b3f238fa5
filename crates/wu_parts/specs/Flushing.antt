-- What a flush makes of the live postings in memory.
use Rattle.std.specs.Prelude.{◌≡◌, ◌⊎◌, ℕ, List, [], ◌∷◌, Option, Some, option_map}
use Rattle.wu_base.specs.declared.addresses.PartRec.{PartRec}
use Rattle.wu_outside.specs.Content.{Content, with_blob}
use Rattle.wu_outside.specs.Crash.{Moments, Put, try_change}
use Rattle.wu_layout.specs.Postings.{Posting}
use Rattle.wu_layout.specs.Layouts.{IsRecordOf, lists_of}
use Rattle.wu_part.specs.Directories.{PartDirectory}
use Rattle.wu_part.specs.Parts.{IsRecorded, SpellsPart}
use Rattle.wu_parts.specs.Contents.{Contents, without_postings, with_part}

-- what a store tells that it holds, and what a crash may leave of it
abbrev pub Told : Type 0
Told = Option Content × Option Moments

-- the blob was given these bytes
abbrev pub put_into : ℕ → List ℕ → Told → Told
put_into blob bytes told = (
  option_map (with_blob blob (Some bytes)) told.0,
  option_map (try_change (Put blob) (with_blob blob (Some bytes))) told.1,
)

-- The postings became a part of generation 0, right of all others: its bytes were put into the blob of the next number.
pub record MakesPart (postings : List Posting) (old new : Contents) (before after : Told) : Type 0 where
  pub recorded : PartRec
  pub directory : PartDirectory
  pub bytes : List ℕ
  pub record_of : IsRecordOf recorded (record { blob = old.next_blob; generation = 0; postings = postings })
  pub told : IsRecorded recorded directory
  pub spelled : SpellsPart directory (lists_of postings) bytes
  pub contents : new ≡ with_part recorded directory old
  pub stored : after ≡ put_into old.next_blob bytes before

-- What a flush does where these postings are live: they become a part, and where there are none, no part is made and the store is not
-- touched.
abbrev pub Flushes : List Posting → Contents → Contents → Told → Told → Type 0
Flushes [] old new before after = (new ≡ without_postings old) × (after ≡ before)
Flushes (posting ∷ postings) old new before after = MakesPart (posting ∷ postings) old new before after

-- a flush made a part of some postings, or none
abbrev pub EmptiesMemory : Contents → Contents → Type 0
EmptiesMemory old new =
    (new ≡ without_postings old)
    ⊎ ((recorded : PartRec) × (directory : PartDirectory) × (new ≡ with_part recorded directory old))
