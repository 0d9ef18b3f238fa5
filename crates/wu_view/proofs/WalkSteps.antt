-- How a walk goes on.
use Rattle.std.proofs.Common.{◌≡◌, ℕ, zero, suc, ◌-◌, ◌<◌, List, [], ◌∷◌, refl, ap, arith, Bor, Vec, Global}
use Rattle.std.specs.Prelude.{map}
use Rattle.std.specs.List.{flat_map}
use Rattle.std.specs.Map.Iter.{deref_pair}
use Rattle.wu_access.specs.declared.UserRec.{UserRec}
use Rattle.wu_tree.specs.FileSystems.{FileSystem, entries_of}
use Rattle.wu_view.specs.OrderedWalks.{entries_in_order, found_by, ordered}
use Rattle.wu_view.specs.Walks.{found_in, walked}

module _ (fs : FileSystem) (user : UserRec) where
  pub walked-zero : (n directory : ℕ) (path : List ℕ) → n ≡ 0 → walked fs user n directory path ≡ []
  unfolding walked
  walked-zero zero directory path h = refl
  walked-zero (suc n) directory path h = absurd (omega arith)

  pub walked-suc : (n directory : ℕ) (path : List ℕ) → 0 < n
      → walked fs user n directory path ≡ found_in fs user (walked fs user (n - 1)) path (entries_of fs.links directory)
  unfolding walked
  walked-suc zero directory path h = absurd (omega arith)
  walked-suc (suc n) directory path h = let e : suc n - 1 ≡ n = omega arith in rw e refl

  pub walked-none : (n directory : ℕ) (path : List ℕ) → entries_of fs.links directory ≡ [] → walked fs user n directory path ≡ []
  unfolding walked
  walked-none zero directory path h = refl
  walked-none (suc n) directory path h = rw h refl

-- the same in the order of paths
module _ (fs : FileSystem) (user : UserRec) where
  pub ordered-zero : (n directory : ℕ) (path : List ℕ) → n ≡ 0 → ordered fs user n directory path ≡ []
  unfolding ordered
  ordered-zero zero directory path h = refl
  ordered-zero (suc n) directory path h = absurd (omega arith)

  pub ordered-suc : (n directory : ℕ) (path : List ℕ) → 0 < n
      → ordered fs user n directory path ≡ flat_map (found_by (ordered fs user (n - 1)) path) (entries_in_order fs user directory)
  unfolding ordered
  ordered-suc zero directory path h = absurd (omega arith)
  ordered-suc (suc n) directory path h = let e : suc n - 1 ≡ n = omega arith in rw e refl

-- a directory's names with what they name, by value and by reference
abbrev pub by_value : Vec ℕ Global × ℕ → List ℕ × ℕ
by_value e = (e.0.items, e.1)

abbrev pub by_reference : Bor (Vec ℕ Global) × Bor ℕ → List ℕ × ℕ
by_reference e = (e.0.now.items, e.1.now)

pub shown : (entries : List (Bor (Vec ℕ Global) × Bor ℕ)) → map by_value (map deref_pair entries) ≡ map by_reference entries
shown [] = refl
shown (e ∷ entries) = ap (λ (l : List (List ℕ × ℕ)). by_reference e ∷ l) (shown entries)
