-- Of which expression an answer is remembered.
use Rattle.std.proofs.Common.{◌≡◌, ℕ, true, List, [], ◌∷◌, refl, sym}
use Rattle.std.specs.Prelude.{nat_eq}
use Rattle.std.specs.Cmp.Lexicographic.{pointwise, same_text}
use Rattle.std.proofs.lemmas.Bool.{and_parts}

pub same_texts : (xs ys : List (List ℕ)) → pointwise (pointwise nat_eq) xs ys ≡ true → xs ≡ ys
same_texts [] [] is = refl
same_texts [] (y ∷ ys) is = cc
same_texts (x ∷ xs) [] is = cc
same_texts (x ∷ xs) (y ∷ ys) is =
    let b = and_parts (pointwise nat_eq x y) (pointwise (pointwise nat_eq) xs ys) is in
    let same : x ≡ y = same_text x y (sym b.0) in
    let rest : xs ≡ ys = same_texts xs ys b.1 in
    cc
