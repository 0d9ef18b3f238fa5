-- A path is cut at its last `/`.
use Rattle.std.proofs.Common.{◌≡◌, ℕ, zero, suc, ◌<◌, true, false, List, [], ◌∷◌, length, get_or, take, drop, length-drop, refl, ap, sym}
use Rattle.std.proofs.Common.{◌∙◌, ◌+◌, ◌-◌, arith}
use Rattle.std.specs.List.{list_any}
use Rattle.std.proofs.lemmas.Bool.{false_from_ne_true}
use Rattle.std.proofs.lemmas.List.{take_all}
use Rattle.std.proofs.lemmas.List.Folds.{list_any_at}
use Rattle.wu_export.specs.Exports.{is_slash, parent_path, last_name}

none-any : (path : List ℕ) → ((k : ℕ) → k < length path → is_slash (get_or path k 0) ≡ true → ⊥) → list_any is_slash path ≡ false
none-any [] none = refl
none-any (byte ∷ path) none =
    let first : is_slash byte ≡ false = false_from_ne_true (is_slash byte) (none 0 (omega arith)) in
    let rest : list_any is_slash path ≡ false = none-any path (λ k within e. none (suc k) (omega arith) e) in
    rw (first, rest) refl

-- a path without one
pub cut_nowhere : (path : List ℕ) → ((k : ℕ) → k < length path → is_slash (get_or path k 0) ≡ true → ⊥)
    → (parent_path path ≡ []) × (last_name path ≡ path)
cut_nowhere [] none = (refl, refl)
cut_nowhere (byte ∷ path) none =
    let first : is_slash byte ≡ false = false_from_ne_true (is_slash byte) (none 0 (omega arith)) in
    let rest : list_any is_slash path ≡ false = none-any path (λ k within e. none (suc k) (omega arith) e) in
    (rw rest refl, rw (rest, first) refl)

-- a path whose last one stands at k
pub cut_at : (path : List ℕ) (k : ℕ) → k < length path → is_slash (get_or path k 0) ≡ true
    → ((j : ℕ) → k < j → j < length path → is_slash (get_or path j 0) ≡ true → ⊥)
    → (parent_path path ≡ take k path) × (last_name path ≡ drop (suc k) path)
cut_at [] k within is none = absurd (omega arith)
cut_at (byte ∷ path) zero within is none =
    let first : is_slash byte ≡ true = is in
    let rest : list_any is_slash path ≡ false = none-any path (λ j within e. none (suc j) (omega arith) (omega arith) e) in
    (rw rest refl, rw (rest, first) refl)
cut_at (byte ∷ path) (suc k) within is none =
    let later : list_any is_slash path ≡ true = list_any_at is_slash path k 0 (omega arith) is in
    let more = cut_at path k (omega arith) is (λ j low high e. none (suc j) (omega arith) (omega arith) e) in
    (rw later (ap (λ (rest : List ℕ). byte ∷ rest) more.0), rw later more.1)

-- the same name as it is taken from the path
pub name_at : (path : List ℕ) (k : ℕ) → last_name path ≡ drop (suc k) path → take (length path - (k + 1)) (drop (k + 1) path) ≡ last_name path
name_at path k e =
    let size : length (drop (k + 1) path) ≡ length path - (k + 1) = length-drop (k + 1) path in
    let same : suc k ≡ k + 1 = omega arith in
    take_all (length path - (k + 1)) (drop (k + 1) path) (omega (arith, size))
    ∙ ap (λ (n : ℕ). drop n path) (sym same)
    ∙ sym e
