-- The parts' spans: they ascend, and one more stands at the end.
use Rattle.std.proofs.Common.{◌≡◌, ℕ, ◌+◌, ◌<◌, ◌≤◌, List, [], ◌∷◌, ◌++◌, length, arith}
use Rattle.std.specs.List.{AllByRecursion}
use Rattle.std.proofs.lemmas.List.{map-append}
use Rattle.std.proofs.lemmas.List.Sums.{sum_by-cons}
use Rattle.wu_base.specs.declared.addresses.PartRec.{PartRec}
use Rattle.wu_layout.specs.Layouts.{first_address, last_address, lists_of}
use Rattle.wu_layout.specs.Postings.{Ascend, Posting}
use Rattle.wu_part.specs.Parts.{IsRecorded, SpellsPart}
use Rattle.wu_parts.specs.Contents.{stored_in_parts}
use Rattle.wu_parts.specs.StoredParts.{AreStored, SpansAscend, directories_of, records_of}
use Rattle.wu_parts.specs.declared.writing.StoredPart.{StoredPart}
use Rattle.wu_parts.proofs.NewParts.{numbers_of}

pub spans-bounds : (low high : ℕ) (parts : List StoredPart) → SpansAscend low high parts → low ≤ high
spans-bounds low high [] s = s
spans-bounds low high (part ∷ parts) s =
    let r : part.recorded.high + 1 ≤ high = spans-bounds (part.recorded.high + 1) high parts s.2 in omega (arith, s.0, s.1)

-- there are at most as many postings as addresses
pub stored_within : (low high : ℕ) (parts : List StoredPart) → SpansAscend low high parts → low + stored_in_parts (records_of parts) ≤ high
stored_within low high [] s = omega (arith, s)
stored_within low high (part ∷ parts) s =
    let r = stored_within (part.recorded.high + 1) high parts s.2 in
    omega (arith, s.0, s.1, r, sum_by-cons (λ (p : PartRec). p.stored) part.recorded (records_of parts))

pub spans-push : (low middle high : ℕ) (parts : List StoredPart) (part : StoredPart) → SpansAscend low middle parts
    → middle ≤ part.recorded.low → part.recorded.low + part.recorded.stored ≤ part.recorded.high + 1 → part.recorded.high + 1 ≤ high
    → SpansAscend low high (parts ++ part ∷ [])
spans-push low middle high [] part s l r h = (omega arith, r, h)
spans-push low middle high (first ∷ parts) part s l r h =
    (s.0, s.1, spans-push (first.recorded.high + 1) middle high parts part s.2 l r h)

spans-raised : (low middle high : ℕ) (parts : List StoredPart) → middle ≤ high → SpansAscend low middle parts → SpansAscend low high parts
spans-raised low middle high [] l s = omega arith
spans-raised low middle high (part ∷ parts) l s = (s.0, s.1, spans-raised (part.recorded.high + 1) middle high parts l s.2)

pub told-push : (parts : List StoredPart) (part : StoredPart) → AllByRecursion (λ p. IsRecorded p.recorded p.directory) parts
    → IsRecorded part.recorded part.directory → AllByRecursion (λ p. IsRecorded p.recorded p.directory) (parts ++ part ∷ [])
told-push [] part a t = (t, tt)
told-push (first ∷ parts) part a t = (a.0, told-push parts part a.1 t)

pub stored-raised : (low high : ℕ) (parts : List StoredPart) → low ≤ high → AreStored low parts → AreStored high parts
stored-raised low high parts l a = record { told = a.told; spans = spans-raised 0 low high parts l a.spans }

-- first and last address of postings that ascend
first_from : (low high : ℕ) (ps : List Posting) → 0 < length ps → Ascend low high ps → low ≤ first_address ps
first_from low high [] n a = absurd (omega arith)
first_from low high (p ∷ ps) n a = a.0

last_room : (low high : ℕ) (ps : List Posting) → 0 < length ps → Ascend low high ps
    → (low + length ps ≤ last_address ps + 1) × (last_address ps + 1 ≤ high)
last_room low high [] n a = absurd (omega arith)
last_room low high (p ∷ []) n a = (omega (arith, a.0), a.1)
last_room low high (p ∷ (q ∷ ps)) n a =
    let r = last_room (p.address + 1) high (q ∷ ps) (omega arith) a.1 in (omega (arith, a.0, r.0), r.1)

first_room : (low high : ℕ) (ps : List Posting) → 0 < length ps → Ascend low high ps → first_address ps + length ps ≤ last_address ps + 1
first_room low high [] n a = absurd (omega arith)
first_room low high (p ∷ ps) n a =
    let r = last_room p.address high (p ∷ ps) (omega arith) (omega arith, a.1) in r.0

-- one more part of postings that stand above all others
pub stored-push : (low high : ℕ) (parts : List StoredPart) (part : StoredPart) (postings : List Posting) (bytes : List ℕ)
    → AreStored low parts → 0 < length postings → Ascend low high postings → SpellsPart part.directory (lists_of postings) bytes
    → IsRecorded part.recorded part.directory → AreStored high (parts ++ part ∷ [])
stored-push low high parts part postings bytes a some up s told =
    let numbers = numbers_of low high part.directory postings bytes some up s in
    let room = first_room low high postings some up in
    let last = last_room low high postings some up in
    record {
      told = told-push parts part a.told told;
      spans =
          spans-push 0 low high parts part a.spans
          (omega (arith, first_from low high postings some up, numbers.low, told.low))
          (omega (arith, room, numbers.low, numbers.high, numbers.stored, told.low, told.high, told.stored))
          (omega (arith, last.1, numbers.high, told.high));
    }

-- ---- what contracts see

pub records-push : (parts : List StoredPart) (part : StoredPart) → records_of (parts ++ part ∷ []) ≡ records_of parts ++ part.recorded ∷ []
records-push parts part = map-append (λ (p : StoredPart). p.recorded) parts (part ∷ [])

pub directories-push : (parts : List StoredPart) (part : StoredPart)
    → directories_of (parts ++ part ∷ []) ≡ directories_of parts ++ part.directory ∷ []
directories-push parts part = map-append (λ (p : StoredPart). p.directory) parts (part ∷ [])
