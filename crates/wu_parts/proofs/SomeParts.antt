-- What holds of some part, where some of the parts are replaced.
use Rattle.std.proofs.Common.{◌≡◌, ℕ, zero, suc, ◌<◌, List, [], ◌∷◌, ◌++◌, length, take, drop, refl, ap, sym, ◌∙◌, subst, arith, ⊎_elim}
use Rattle.std.proofs.Common.{inl, inr}
use Rattle.std.specs.Prelude.{◌⊎◌, zip}
use Rattle.std.specs.List.{AllByRecursion}
use Rattle.wu_base.specs.declared.addresses.PartRec.{PartRec}
use Rattle.wu_layout.specs.Invariants.{SomeOf}
use Rattle.wu_layout.proofs.KeptLemmas.{SomeOf-cases}
use Rattle.wu_part.specs.Directories.{PartDirectory}
use Rattle.wu_parts.specs.Units.{replaced}
use Rattle.wu_parts.proofs.HeldParts.{zip-drop, zip-take}
use Rattle.wu_parts.proofs.RunningJobs.{zip-append}

module _ {X : Type 0} (P : X → Type 0) where
  pub some-take : (n : ℕ) (xs : List X) → SomeOf P (take n xs) → SomeOf P xs
  some-take zero xs s = absurd s
  some-take (suc n) [] s = absurd s
  some-take (suc n) (x ∷ xs) s = ⊎_elim (λ a. inl a) (λ b. inr (some-take n xs b)) s

  pub some-drop : (n : ℕ) (xs : List X) → SomeOf P (drop n xs) → SomeOf P xs
  some-drop zero xs s = s
  some-drop (suc n) [] s = absurd s
  some-drop (suc n) (x ∷ xs) s = inr (some-drop n xs s)

  pub some_with : (Q : X → Type 0) (xs : List X) → AllByRecursion Q xs → SomeOf P xs → SomeOf (λ x. Q x × P x) xs
  some_with Q [] a s = absurd s
  some_with Q (x ∷ xs) a s = ⊎_elim (λ p. inl (a.0, p)) (λ r. inr (some_with Q xs a.1 r)) s

same_take : {X Y : Type 0} (n : ℕ) (xs : List X) (ys : List Y) → length xs ≡ length ys → length (take n xs) ≡ length (take n ys)
same_take zero xs ys e = refl
same_take (suc n) [] [] e = refl
same_take (suc n) [] (y ∷ ys) e = absurd (omega (arith, e))
same_take (suc n) (x ∷ xs) [] e = absurd (omega (arith, e))
same_take (suc n) (x ∷ xs) (y ∷ ys) e = ap (λ (k : ℕ). suc k) (same_take n xs ys (omega (arith, e)))

pub all_zipped : (next : ℕ) (records : List PartRec) (directories : List PartDirectory)
    → AllByRecursion (λ recorded. recorded.blob < next) records → AllByRecursion (λ part. part.0.blob < next) (zip records directories)
all_zipped next [] directories a = tt
all_zipped next (r ∷ records) [] a = tt
all_zipped next (r ∷ records) (d ∷ directories) a = (a.0, all_zipped next records directories a.1)

-- of what stands in place of some, it is one of these or of the others
pub some_replaced : (P : PartRec × PartDirectory → Type 0) (place count : ℕ) (made : List PartRec) (mades : List PartDirectory)
    (records : List PartRec) (directories : List PartDirectory) → length records ≡ length directories → length made ≡ length mades
    → SomeOf P (zip (replaced place count made records) (replaced place count mades directories))
    → SomeOf P (zip made mades) ⊎ SomeOf P (zip records directories)
some_replaced P place count made mades records directories e f s =
    let front = take place records in
    let fronts = take place directories in
    let back = drop count (drop place records) in
    let backs = drop count (drop place directories) in
    let split : zip (front ++ (made ++ back)) (fronts ++ (mades ++ backs)) ≡ zip front fronts ++ (zip made mades ++ zip back backs) =
    zip-append front (made ++ back) fronts (mades ++ backs) (same_take place records directories e)
    ∙ ap (λ (l : List (PartRec × PartDirectory)). zip front fronts ++ l) (zip-append made back mades backs f) in
    ⊎_elim
    (λ (a : SomeOf P (zip front fronts)).
    inr (some-take P place (zip records directories) (subst (SomeOf P) (sym (zip-take place records directories)) a)))
    (λ (b : SomeOf P (zip made mades ++ zip back backs)).
    ⊎_elim
    (λ (c : SomeOf P (zip made mades)). inl c)
    (λ (c : SomeOf P (zip back backs)).
    inr
    (some-drop P place (zip records directories)
    (some-drop P count (drop place (zip records directories))
    (subst (SomeOf P)
    (sym (ap (drop count) (zip-drop place records directories) ∙ zip-drop count (drop place records) (drop place directories))) c))))
    (SomeOf-cases P (zip made mades) (zip back backs) b))
    (SomeOf-cases P (zip front fronts) (zip made mades ++ zip back backs) (subst (SomeOf P) split s))
