-- Words with a space between each and the next.
use Rattle.std.proofs.Common.{◌≡◌, ℕ, List, [], ◌∷◌, ◌++◌, append-nil, sym, ap}
use Rattle.std.specs.List.{join_with_byte, flat_map}
use Rattle.wu_gcl.specs.Printing.{spaced}

pub join_spaced : (word : List ℕ) (words : List (List ℕ)) → join_with_byte 32 (word ∷ words) ≡ word ++ flat_map spaced words
join_spaced word [] = sym (append-nil word)
join_spaced word (next ∷ words) = ap (λ (rest : List ℕ). word ++ (32 ∷ rest)) (join_spaced next words)
