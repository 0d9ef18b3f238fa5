-- Reading from the left finds the value of each expression.
use Rattle.std.proofs.Common.{◌≡◌, ℕ, ◌<◌, ◌≤◌, List, [], ◌∷◌, ◌++◌, append_assoc, append-nil, Some, refl, ◌∙◌, ap, arith}
use Rattle.std.proofs.lemmas.Bool.Decides.{nat_tests}
use Rattle.wu_gcl.specs.declared.expressions.Op.{Op}
use Rattle.wu_gcl.specs.Lexical.{Token, Operator, Close}
use Rattle.wu_gcl.specs.Grammar.{Syntax, Single, Group, Join, tokens_in, precedence, binding_strength, IsGrouped}
use Rattle.wu_gcl.specs.Reading.{Value, value_of, join, meaning}
use Rattle.wu_gcl.specs.Pending.{Waiting, Paren, Left, reduced, operand_wanted, operand_held, closed_at, ended_at, run, evaluated}

-- what waits innermost binds less tightly
abbrev pub IsBelow : ℕ → List Waiting → Type 0
IsBelow level [] = Unit {0}
IsBelow level (Paren ∷ waiting) = Unit {0}
IsBelow level (Left left op ∷ waiting) = precedence op < level

pub IsBelow-more : (low high : ℕ) (waiting : List Waiting) → low ≤ high → IsBelow low waiting → IsBelow high waiting
IsBelow-more low high [] up below = tt
IsBelow-more low high (Paren ∷ waiting) up below = tt
IsBelow-more low high (Left left op ∷ waiting) up below = omega arith

-- nothing is joined where what waits binds less tightly
pub reduced-below : (level : ℕ) (waiting : List Waiting) (value : Value) → IsBelow level waiting
    → reduced level waiting value ≡ (waiting, value)
reduced-below level [] value below = refl
reduced-below level (Paren ∷ waiting) value below = refl
reduced-below level (Left left op ∷ waiting) value below = grind (arith, nat_tests)

pub reduced-join : (level : ℕ) (left : Value) (op : Op) (waiting : List Waiting) (value : Value) → level ≤ precedence op →
    reduced level (Left left op ∷ waiting) value ≡ reduced level waiting (join op left value)
reduced-join level left op waiting value up = grind (arith, nat_tests)

-- after the tokens of an expression the operand held is worth its value, for all that binds less tightly
pub record Holds (syntax : Syntax) (waiting : List Waiting) (rest : List Token) : Type 0 where
  pub waiting_on : List Waiting
  pub value : Value
  pub reached : run (tokens_in syntax ++ rest) (operand_wanted waiting) ≡ run rest (operand_held waiting_on value)
  pub worth : (level : ℕ) → level ≤ binding_strength syntax → reduced level waiting_on value ≡ reduced level waiting (meaning syntax)

-- a closing parenthesis ends what its opening one began
pub closed : (rest : List Token) (waiting_on : List Waiting) (value : Value) (waiting : List Waiting) (inner : Value) →
    reduced 0 waiting_on value ≡ reduced 0 (Paren ∷ waiting) inner →
    run (Close ∷ rest) (operand_held waiting_on value) ≡ run rest (operand_held waiting inner)
closed rest waiting_on value waiting inner same = ap (λ (joined : List Waiting × Value). run rest (closed_at joined.0 joined.1)) same

-- an operator waits with all that binds as tightly on its left
pub joined : (op : Op) (rest : List Token) (waiting_on : List Waiting) (value : Value) (waiting : List Waiting) (left : Value) →
    reduced (precedence op) waiting_on value ≡ (waiting, left) →
    run (Operator op ∷ rest) (operand_held waiting_on value) ≡ run rest (operand_wanted (Left left op ∷ waiting))
joined op rest waiting_on value waiting left same = ap
    (λ (joined : List Waiting × Value). run rest (operand_wanted (Left joined.1 op ∷ joined.0))) same

pub holds : (syntax : Syntax) → IsGrouped syntax → (waiting : List Waiting) (rest : List Token) → IsBelow (binding_strength syntax) waiting
    → Holds syntax waiting rest
holds (Single atom) grouped waiting rest below =
    record { waiting_on = waiting; value = value_of atom; reached = refl; worth = λ level up. refl }
holds (Group inner) grouped waiting rest below =
    let inside : Holds inner (Paren ∷ waiting) (Close ∷ rest) = holds inner grouped (Paren ∷ waiting) (Close ∷ rest) tt in
    record {
      waiting_on = waiting;
      value = meaning inner;
      reached =
          rw append_assoc
          (inside.reached ∙ closed rest inside.waiting_on inside.value waiting (meaning inner) (inside.worth 0 (omega arith)));
      worth = λ level up. refl;
    }
holds (Join op left right) grouped waiting rest below =
    let first : Holds left waiting (Operator op ∷ (tokens_in right ++ rest)) = holds left grouped.2 waiting _
    (IsBelow-more _ _ waiting grouped.0 below) in
    let second : Holds right (Left (meaning left) op ∷ waiting) rest = holds right grouped.3 _ rest grouped.1 in
    record {
      waiting_on = second.waiting_on;
      value = second.value;
      reached =
          rw append_assoc
          (first.reached
          ∙ joined op (tokens_in right ++ rest) first.waiting_on first.value waiting (meaning left)
          (first.worth (precedence op) grouped.0 ∙ reduced-below (precedence op) waiting (meaning left) below) ∙ second.reached);
      worth = λ level up. second.worth level (omega arith) ∙ reduced-join level (meaning left) op waiting (meaning right) up;
    }

-- the value of each expression is found
pub evaluated_in : (syntax : Syntax) → IsGrouped syntax → evaluated (tokens_in syntax) ≡ Some (meaning syntax)
evaluated_in syntax grouped =
    let whole : Holds syntax [] [] = holds syntax grouped [] [] tt in
    let same : run (tokens_in syntax) (operand_wanted [])
    ≡ run [] (operand_held whole.waiting_on whole.value) = rw append-nil at whole.reached in
    same ∙ ap (λ (joined : List Waiting × Value). ended_at joined.0 joined.1) (whole.worth 0 (omega arith))
