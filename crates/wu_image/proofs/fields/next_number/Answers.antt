use Rattle.std.specs.Prelude.{ℕ, ◌^◌, ◌<◌, List, ◌∷◌, Option, None, Some, IfNone}
use Rattle.wu_vbyte.specs.Numbers.{StartsWithNumber}
use Rattle.wu_image.specs.Items.{Item, Number, StartsWith}
use Rattle.wu_image.proofs.fields.next_number.Goals as goal

-- bytes that start with no number start with no items of which the first is one
no_items : {T : Type 0} (bytes : List ℕ) (o : Option T)
    → IfNone o ((number : ℕ) (rest : List ℕ) → number < 2 ^ 64 → StartsWithNumber bytes number rest → ⊥)
    → IfNone o ((number : ℕ) (items : List Item) (rest : List ℕ) → StartsWith bytes (Number number ∷ items) rest → ⊥)
no_items bytes None none = λ number items rest s. none number s.1 s.0 s.2
no_items bytes (Some x) given = given

pub returns-clause-none : goal.returns-clause-none
returns-clause-none c = no_items c.args.bytes.now _ c.next_number.ensures.none
