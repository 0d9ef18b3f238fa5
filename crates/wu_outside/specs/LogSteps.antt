-- What one entry of a log does to a blob and to the root.
use Rattle.std.specs.Prelude.{ℕ, ◌==◌, List, cond, Option, Some, None}
use Rattle.wu_outside.specs.declared.logs.Entry.{Entry}
use Rattle.wu_outside.specs.declared.logs.Entry.TheVariants.{HasPut, HasRemoved, HasSetRoot, HasSynced}

-- the bytes of a blob after an entry, by what they were before
abbrev pub blob_after : Entry → ℕ → Option (List ℕ) → Option (List ℕ)
blob_after (HasPut other bytes) blob before = cond (blob == other) (Some bytes) before
blob_after (HasRemoved other) blob before = cond (blob == other) None before
blob_after (HasSetRoot bytes) blob before = before
blob_after HasSynced blob before = before

-- the bytes of the root after an entry
abbrev pub root_after : Entry → Option (List ℕ) → Option (List ℕ)
root_after (HasPut other bytes) before = before
root_after (HasRemoved other) before = before
root_after (HasSetRoot bytes) before = Some bytes
root_after HasSynced before = before
