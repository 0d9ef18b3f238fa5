use Rattle.std.proofs.Common.{◌≡◌, ℕ, List, [], ◌∷◌, length, get_or, refl, arith, ap, ◌∙◌}
use Rattle.wu_fields.specs.Numbers.{mode_of}
use Rattle.wu_fields.proofs.numbers.read_octal_mode.Goals as goal

four : (xs : List ℕ) → length xs ≡ 4 → get_or xs 0 0 ∷ get_or xs 1 0 ∷ get_or xs 2 0 ∷ get_or xs 3 0 ∷ [] ≡ xs
four (a ∷ b ∷ c ∷ d ∷ []) h = refl
four (a ∷ b ∷ c ∷ d ∷ e ∷ xs) h = absurd (omega arith)
four (a ∷ b ∷ c ∷ []) h = absurd (omega arith)
four (a ∷ b ∷ []) h = absurd (omega arith)
four (a ∷ []) h = absurd (omega arith)
four [] h = absurd (omega arith)

pub returns-in-len4-clause-value : goal.returns-in-len4-clause-value
returns-in-len4-clause-value c = c.mode_of_digits-in-len4.ensures.value ∙ ap mode_of (four c.args.field.now (omega arith))
