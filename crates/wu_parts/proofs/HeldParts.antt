-- The parts that a content holds, cut and put together, and after a blob was put that none of them has.
use Rattle.std.proofs.Common.{◌≡◌, ◌≢◌, ℕ, zero, suc, ◌+◌, ◌<◌, ◌≤◌, ◌==◌, cond, List, [], ◌∷◌, ◌++◌, length, map, take, drop, refl, ap}
use Rattle.std.proofs.Common.{ap₂, sym, ◌∙◌, subst, arith}
use Rattle.std.specs.Prelude.{Some, Option, zip, count_by}
use Rattle.std.specs.List.{AllByRecursion, AllZip}
use Rattle.std.proofs.lemmas.Bool.{eq-eqb, ne_eqb}
use Rattle.std.proofs.lemmas.List.Sums.{sum_by-cons}
use Rattle.wu_base.specs.declared.addresses.PartRec.{PartRec}
use Rattle.wu_outside.specs.Content.{Content, with_blob}
use Rattle.wu_layout.specs.Layouts.{FileEntry, Part}
use Rattle.wu_layout.specs.Invariants.{BlobsAreDistinct}
use Rattle.wu_part.specs.Directories.{PartDirectory}
use Rattle.wu_job.specs.Postings.{HoldPostings}
use Rattle.wu_parts.specs.Holdings.{HoldParts}
use Rattle.wu_parts.specs.Units.{as_parts, parts_at}

-- ---- lists side by side

module _ {X Y : Type 0} where
  pub zip-take : (n : ℕ) (xs : List X) (ys : List Y) → take n (zip xs ys) ≡ zip (take n xs) (take n ys)
  zip-take zero xs ys = refl
  zip-take (suc n) [] ys = refl
  zip-take (suc n) (x ∷ xs) [] = refl
  zip-take (suc n) (x ∷ xs) (y ∷ ys) = ap (λ (l : List (X × Y)). (x, y) ∷ l) (zip-take n xs ys)

  zip-none : (xs : List X) → zip {K = X} {X = Y} xs [] ≡ []
  zip-none [] = refl
  zip-none (x ∷ xs) = refl

  pub zip-drop : (n : ℕ) (xs : List X) (ys : List Y) → drop n (zip xs ys) ≡ zip (drop n xs) (drop n ys)
  zip-drop zero xs ys = refl
  zip-drop (suc n) [] ys = refl
  zip-drop (suc n) (x ∷ xs) [] = sym (zip-none (drop n xs))
  zip-drop (suc n) (x ∷ xs) (y ∷ ys) = zip-drop n xs ys

  pub map-take : (f : X → Y) (n : ℕ) (xs : List X) → map f (take n xs) ≡ take n (map f xs)
  map-take f zero xs = refl
  map-take f (suc n) [] = refl
  map-take f (suc n) (x ∷ xs) = ap (λ (l : List Y). f x ∷ l) (map-take f n xs)

  pub map-drop : (f : X → Y) (n : ℕ) (xs : List X) → map f (drop n xs) ≡ drop n (map f xs)
  map-drop f zero xs = refl
  map-drop f (suc n) [] = refl
  map-drop f (suc n) (x ∷ xs) = map-drop f n xs

-- ---- cut and put together

module _ (content : Content) where
  pub hold-take : (n : ℕ) (records : List PartRec) (directories : List PartDirectory) (parts : List Part)
      → HoldParts content records directories parts → HoldParts content (take n records) (take n directories) (take n parts)
  hold-take zero records directories parts h = tt
  hold-take (suc n) [] [] [] h = tt
  hold-take (suc n) [] [] (part ∷ parts) h = absurd h
  hold-take (suc n) [] (d ∷ directories) parts h = absurd h
  hold-take (suc n) (r ∷ records) [] parts h = absurd h
  hold-take (suc n) (r ∷ records) (d ∷ directories) [] h = absurd h
  hold-take (suc n) (r ∷ records) (d ∷ directories) (part ∷ parts) h = (h.0, hold-take n records directories parts h.1)

  pub hold-drop : (n : ℕ) (records : List PartRec) (directories : List PartDirectory) (parts : List Part)
      → HoldParts content records directories parts → HoldParts content (drop n records) (drop n directories) (drop n parts)
  hold-drop zero records directories parts h = h
  hold-drop (suc n) [] [] [] h = tt
  hold-drop (suc n) [] [] (part ∷ parts) h = absurd h
  hold-drop (suc n) [] (d ∷ directories) parts h = absurd h
  hold-drop (suc n) (r ∷ records) [] parts h = absurd h
  hold-drop (suc n) (r ∷ records) (d ∷ directories) [] h = absurd h
  hold-drop (suc n) (r ∷ records) (d ∷ directories) (part ∷ parts) h = hold-drop n records directories parts h.1

  pub hold-append : (records more : List PartRec) (directories others : List PartDirectory) (parts later : List Part)
      → HoldParts content records directories parts → HoldParts content more others later
      → HoldParts content (records ++ more) (directories ++ others) (parts ++ later)
  hold-append [] more [] others [] later h k = k
  hold-append [] more [] others (part ∷ parts) later h k = absurd h
  hold-append [] more (d ∷ directories) others parts later h k = absurd h
  hold-append (r ∷ records) more [] others parts later h k = absurd h
  hold-append (r ∷ records) more (d ∷ directories) others [] later h k = absurd h
  hold-append (r ∷ records) more (d ∷ directories) others (part ∷ parts) later h k =
      (h.0, hold-append records more directories others parts later h.1 k)

  -- records tell generations and blobs
  pub hold-generations : (records : List PartRec) (directories : List PartDirectory) (parts : List Part)
      → HoldParts content records directories parts → AllZip (λ a b. a.generation ≡ b.generation) (as_parts records) parts
  hold-generations [] [] [] h = tt
  hold-generations [] [] (part ∷ parts) h = absurd h
  hold-generations [] (d ∷ directories) parts h = absurd h
  hold-generations (r ∷ records) [] parts h = absurd h
  hold-generations (r ∷ records) (d ∷ directories) [] h = absurd h
  hold-generations (r ∷ records) (d ∷ directories) (part ∷ parts) h =
      (h.0.record_of.generation, hold-generations records directories parts h.1)

  pub hold-blobs : (records : List PartRec) (directories : List PartDirectory) (parts : List Part)
      → HoldParts content records directories parts → map (λ recorded. recorded.blob) records ≡ map (λ part. part.blob) parts
  hold-blobs [] [] [] h = refl
  hold-blobs [] [] (part ∷ parts) h = absurd h
  hold-blobs [] (d ∷ directories) parts h = absurd h
  hold-blobs (r ∷ records) [] parts h = absurd h
  hold-blobs (r ∷ records) (d ∷ directories) [] h = absurd h
  hold-blobs (r ∷ records) (d ∷ directories) (part ∷ parts) h =
      ap₂ (λ (b : ℕ) (bs : List ℕ). b ∷ bs) h.0.record_of.blob (hold-blobs records directories parts h.1)

  -- they are as many
  pub hold-length : (records : List PartRec) (directories : List PartDirectory) (parts : List Part)
      → HoldParts content records directories parts → length (zip records directories) ≡ length parts
  hold-length [] [] [] h = refl
  hold-length [] [] (part ∷ parts) h = absurd h
  hold-length [] (d ∷ directories) parts h = absurd h
  hold-length (r ∷ records) [] parts h = absurd h
  hold-length (r ∷ records) (d ∷ directories) [] h = absurd h
  hold-length (r ∷ records) (d ∷ directories) (part ∷ parts) h = ap (λ (n : ℕ). suc n) (hold-length records directories parts h.1)

  -- each has its postings
  hold-postings : (records : List PartRec) (directories : List PartDirectory) (parts : List Part)
      → HoldParts content records directories parts
      → HoldPostings content (map (λ part. record { recorded = part.0; directory = part.1 }) (zip records directories))
      (map (λ part. part.postings) parts)
  hold-postings [] [] [] h = tt
  hold-postings [] [] (part ∷ parts) h = absurd h
  hold-postings [] (d ∷ directories) parts h = absurd h
  hold-postings (r ∷ records) [] parts h = absurd h
  hold-postings (r ∷ records) (d ∷ directories) [] h = absurd h
  hold-postings (r ∷ records) (d ∷ directories) (part ∷ parts) h = (
    record {
      blob = h.0.bytes;
      held = ap content.blobs h.0.record_of.blob ∙ h.0.held;
      spelled = h.0.spelled;
    },
    hold-postings records directories parts h.1,
  )

  pub taken_zipped : (place count : ℕ) (records : List PartRec) (directories : List PartDirectory)
      → take count (drop place (zip records directories)) ≡ zip (take count (drop place records)) (take count (drop place directories))
  taken_zipped place count records directories =
      ap (take count) (zip-drop place records directories) ∙ zip-take count (drop place records) (drop place directories)

  pub hold-taken : (place count : ℕ) (records : List PartRec) (directories : List PartDirectory) (parts : List Part)
      → HoldParts content records directories parts
      → HoldParts content (take count (drop place records)) (take count (drop place directories)) (take count (drop place parts))
  hold-taken place count records directories parts h =
      hold-take count (drop place records) (drop place directories) (drop place parts) (hold-drop place records directories parts h)

  pub postings_taken : (place count : ℕ) (records : List PartRec) (directories : List PartDirectory) (parts : List Part)
      → HoldParts content records directories parts
      → HoldPostings content (parts_at place count records directories) (map (λ part. part.postings) (take count (drop place parts)))
  postings_taken place count records directories parts h =
      subst
      (λ ps. HoldPostings content (map (λ part. record { recorded = part.0; directory = part.1 }) ps)
      (map (λ part. part.postings) (take count (drop place parts))))
      (sym (taken_zipped place count records directories))
      (hold-postings (take count (drop place records)) (take count (drop place directories)) (take count (drop place parts))
      (hold-taken place count records directories parts h))

-- ---- the blobs of parts were drawn

none_there : (next : ℕ) (parts : List Part) → ((number : ℕ) → next ≤ number → count_by (λ part. part.blob == number) parts ≡ 0)
    → AllByRecursion (λ part. part.blob < next) parts
none_there next [] none = tt
none_there next (part ∷ parts) none =
    let here : (number : ℕ) → next ≤ number → cond {A = ℕ} (part.blob == number) 1 0 + count_by (λ (p : Part). p.blob == number) parts ≡ 0 =
    λ number above. sym (sum_by-cons (λ (p : Part). cond {A = ℕ} (p.blob == number) 1 0) part parts) ∙ none number above in (
      (let own : cond {A = ℕ} (part.blob == part.blob) 1 0 ≡ 1 =
          ap (λ b. cond {A = ℕ} b 1 0) (eq-eqb part.blob part.blob refl) in
          let absent : next ≤ part.blob
          → cond {A = ℕ} (part.blob == part.blob) 1 0 + count_by (λ (p : Part). p.blob == part.blob) parts ≡ 0 =
          here part.blob in
          grind (arith, own, absent)),
      none_there next parts (λ number above. omega (arith, here number above)),
    )

pub parts_below : (next : ℕ) (files : List (ℕ × FileEntry)) (parts : List Part) (check : ℕ) (stale : List ℕ)
    → BlobsAreDistinct next files parts check stale → AllByRecursion (λ part. part.blob < next) parts
parts_below next files parts check stale d =
    none_there next parts (λ number above. omega (arith, d.below number above))

-- ---- a blob that was put

pub put_there : (blob : ℕ) (bytes : List ℕ) (content : Content) → (with_blob blob (Some bytes) content).blobs blob ≡ Some bytes
put_there blob bytes content = ap (λ b. cond b (Some bytes) (content.blobs blob)) (eq-eqb blob blob refl)

pub put_elsewhere : (blob other : ℕ) (bytes : Option (List ℕ)) (content : Content) → other ≢ blob
    → (with_blob blob bytes content).blobs other ≡ content.blobs other
put_elsewhere blob other bytes content h = ap (λ b. cond b bytes (content.blobs other)) (ne_eqb other blob h)

pub hold-stay : (next : ℕ) (bytes : Option (List ℕ)) (content : Content) (records : List PartRec) (directories : List PartDirectory)
    (parts : List Part) → AllByRecursion (λ part. part.blob < next) parts → HoldParts content records directories parts
    → HoldParts (with_blob next bytes content) records directories parts
hold-stay next bytes content [] [] [] below held = tt
hold-stay next bytes content [] [] (part ∷ parts) below held = held
hold-stay next bytes content [] (directory ∷ directories) parts below held = held
hold-stay next bytes content (recorded ∷ records) [] parts below held = held
hold-stay next bytes content (recorded ∷ records) (directory ∷ directories) [] below held = held
hold-stay next bytes content (recorded ∷ records) (directory ∷ directories) (part ∷ parts) below held = (
  record {
    record_of = held.0.record_of;
    told = held.0.told;
    bytes = held.0.bytes;
    held = put_elsewhere next part.blob bytes content (λ same. omega (arith, below.0)) ∙ held.0.held;
    spelled = held.0.spelled;
  },
  hold-stay next bytes content records directories parts below.1 held.1,
)
