-- What is left of a walk over a directory.
use Rattle.std.specs.Prelude.{ℕ, Option, None, Some, List, [], map}

-- where `bytes` are those of a name
abbrev pub names_left : {K : Type 0} → (K → List ℕ) → Option (List (K × ℕ)) → List (List ℕ × ℕ)
names_left bytes None = []
names_left bytes (Some rest) = map (λ e. (bytes e.0, e.1)) rest
