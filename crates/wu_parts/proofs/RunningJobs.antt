-- A job that may be under way on some parts: where they stand, after a term was done, and after a part was put at the end.
use Rattle.std.proofs.Common.{◌≡◌, ℕ, zero, suc, ◌+◌, ◌<◌, ◌≤◌, List, [], ◌∷◌, ◌++◌, length, map, take, drop, refl, ap, sym, ◌∙◌, subst}
use Rattle.std.proofs.Common.{arith, length-append, length-take, length-drop}
use Rattle.std.specs.Prelude.{zip}
use Rattle.std.proofs.lemmas.List.{length-map, map-append, take-append-le}
use Rattle.wu_base.specs.declared.addresses.PartRec.{PartRec}
use Rattle.wu_layout.proofs.Flushes.{taken_some}
use Rattle.wu_layout.specs.Layouts.{Part}
use Rattle.wu_layout.specs.Invariants.{MayBeTaken}
use Rattle.wu_layout.specs.Steps.{made_generation}
use Rattle.wu_part.specs.Directories.{PartDirectory}
use Rattle.wu_job.specs.Jobs.{JobPart, JobState}
use Rattle.wu_parts.specs.Contents.{JobAt}
use Rattle.wu_parts.specs.Units.{IsRunning, as_part, as_parts, parts_at}

-- ---- lists

module _ {X : Type 0} where
  pub take_kept : (n k : ℕ) (xs ys : List X) → n + k ≤ length xs → take k (drop n (xs ++ ys)) ≡ take k (drop n xs)
  take_kept zero k xs ys l = take-append-le k xs ys (omega (arith, l))
  take_kept (suc n) k [] ys l = absurd (omega (arith, l))
  take_kept (suc n) k (x ∷ xs) ys l = take_kept n k xs ys (omega (arith, l))

module _ {X Y : Type 0} where
  pub zip-append : (xs us : List X) (ys vs : List Y) → length xs ≡ length ys → zip (xs ++ us) (ys ++ vs) ≡ zip xs ys ++ zip us vs
  zip-append [] us [] vs e = refl
  zip-append [] us (y ∷ ys) vs e = absurd (omega (arith, e))
  zip-append (x ∷ xs) us [] vs e = absurd (omega (arith, e))
  zip-append (x ∷ xs) us (y ∷ ys) vs e = ap (λ (l : List (X × Y)). (x, y) ∷ l) (zip-append xs us ys vs (omega (arith, e)))

  long_zip : (xs : List X) (ys : List Y) → length xs ≡ length ys → length (zip xs ys) ≡ length xs
  long_zip [] ys e = refl
  long_zip (x ∷ xs) [] e = absurd (omega (arith, e))
  long_zip (x ∷ xs) (y ∷ ys) e = ap (λ (n : ℕ). suc n) (long_zip xs ys (omega (arith, e)))

-- ---- the job

module _ (records : List PartRec) (directories : List PartDirectory) (job : JobAt) (r : IsRunning records directories job) where
  abbrev count : ℕ
  count = length job.state.parts

  -- its parts are there
  pub room_of_running : job.place + count ≤ length records
  room_of_running =
      let number : count ≡ length (take count (drop job.place (zip records directories))) =
      ap (λ (ps : List JobPart). length ps) r.parts ∙ length-map (take count (drop job.place (zip records directories))) _ in
      let filled : 0 < length (take count (drop job.place (as_parts records))) =
      taken_some (take job.place (as_parts records)) (take count (drop job.place (as_parts records))) r.taken in
      omega (
        arith,
        number,
        filled,
        long_zip records directories r.paired,
        length-take count (drop job.place (zip records directories)),
        length-drop job.place (zip records directories),
        length-take count (drop job.place (as_parts records)),
      )

  -- one more part at the end
  pub running_more : (recorded : PartRec) (directory : PartDirectory)
      → IsRunning (records ++ recorded ∷ []) (directories ++ directory ∷ []) job
  running_more recorded directory =
      let long : length (as_parts records) ≡ length records = length-map records as_part in
      let whole : length (zip records directories) ≡ length records = long_zip records directories r.paired in
      let room : job.place + count ≤ length records = room_of_running in
      let all : as_parts (records ++ recorded ∷ []) ≡ as_parts records ++ as_part recorded ∷ [] = map-append as_part records (recorded ∷ []) in
      let before : take job.place (as_parts (records ++ recorded ∷ [])) ≡ take job.place (as_parts records) =
      ap (take job.place) all ∙ take-append-le job.place (as_parts records) (as_part recorded ∷ []) (omega (arith, room, long)) in
      let own : take count (drop job.place (as_parts (records ++ recorded ∷ []))) ≡ take count (drop job.place (as_parts records)) =
      ap (λ (ps : List Part). take count (drop job.place ps)) all
      ∙ take_kept job.place count (as_parts records) (as_part recorded ∷ []) (omega (arith, room, long)) in
      let same : take count (drop job.place (zip (records ++ recorded ∷ []) (directories ++ directory ∷ [])))
      ≡ take count (drop job.place (zip records directories)) =
      ap (λ (ps : List (PartRec × PartDirectory)). take count (drop job.place ps))
      (zip-append records (recorded ∷ []) directories (directory ∷ []) r.paired)
      ∙ take_kept job.place count (zip records directories) ((recorded, directory) ∷ []) (omega (arith, room, whole)) in
      record {
        paired =
            let left : length (records ++ recorded ∷ []) ≡ length records + 1 = length-append records (recorded ∷ []) in
            let right : length (directories ++ directory ∷ []) ≡ length directories + 1 = length-append directories (directory ∷ []) in
            omega (arith, left, right, r.paired);
        parts =
            r.parts
            ∙ ap (map (λ (part : PartRec × PartDirectory). record { recorded = part.0; directory = part.1 })) (sym same);
        taken =
            subst (λ ps. MayBeTaken ps (take count (drop job.place (as_parts (records ++ recorded ∷ []))))) (sym before)
            (subst (λ ps. MayBeTaken (take job.place (as_parts records)) ps) (sym own) r.taken);
        generation = r.generation ∙ ap (λ (ps : List Part). made_generation ps) (sym own);
        left = r.left;
      }

  -- a term more was done, and some are left
  pub running_later : (state : JobState) → state.parts ≡ job.state.parts → state.generation ≡ job.state.generation
      → 0 < length state.terms_left → IsRunning records directories (record { place = job.place; state = state })
  running_later state parts generation left =
      let long : length state.parts ≡ count = ap length parts in
      record {
        paired = r.paired;
        parts = parts ∙ r.parts ∙ ap (λ (n : ℕ). parts_at job.place n records directories) (sym long);
        taken =
            subst (λ n. MayBeTaken (take job.place (as_parts records)) (take n (drop job.place (as_parts records)))) (sym long) r.taken;
        generation =
            generation ∙ r.generation ∙ ap (λ (n : ℕ). made_generation (take n (drop job.place (as_parts records)))) (sym long);
        left = left;
      }
