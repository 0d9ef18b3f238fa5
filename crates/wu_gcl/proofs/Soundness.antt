-- What reading from the left finds is the value of an expression.
use Rattle.std.proofs.Common.{◌≡◌, ◌<◌, ℕ, ◌≤◌, List, [], ◌∷◌, ◌++◌, append_assoc, append-nil, Option, Some, None, refl, ◌∙◌, ap, arith}
use Rattle.std.proofs.Common.{inl, inr}
use Rattle.std.proofs.lemmas.Bool.{cases_lt}
use Rattle.wu_gcl.specs.declared.expressions.Op.{Op}
use Rattle.wu_gcl.specs.declared.expressions.Op.TheVariants.{Containing, ContainedIn, NotContaining, NotContainedIn, OneOf, BothOf}
use Rattle.wu_gcl.specs.declared.expressions.Op.TheVariants.{FollowedBy}
use Rattle.wu_gcl.specs.Lexical.{Atom, Token, Operand, Operator, Open, Close}
use Rattle.wu_gcl.specs.Grammar.{Syntax, Single, Group, Join, tokens_in, precedence, binding_strength, IsGrouped}
use Rattle.wu_gcl.specs.Reading.{Value, value_of, join, meaning}
use Rattle.wu_gcl.specs.Pending.{Waiting, Paren, Left, reduced, operand_held, closed_at, ended_at, run, evaluated}
use Rattle.wu_gcl.proofs.Completeness.{IsBelow, reduced-below, reduced-join}

-- an operand and the operator after it, before which these tokens stand
pub record Opens (used before : List Token) (left : Value) (op : Op) : Type 0 where
  pub syntax : Syntax
  pub spelled : used ≡ before ++ (tokens_in syntax ++ Operator op ∷ [])
  pub grouped : IsGrouped syntax
  pub tight : precedence op ≤ binding_strength syntax
  pub meant : meaning syntax ≡ left

-- these tokens lead to what waits
abbrev pub Leads : List Waiting → List Token → Type 0
Leads [] used = used ≡ []
Leads (Paren ∷ waiting) used = (before : List Token) × (used ≡ before ++ Open ∷ []) × Leads waiting before
Leads (Left left op ∷ waiting) used =
    (before : List Token) × Opens used before left op × IsBelow (precedence op) waiting × Leads waiting before

-- these tokens lead to what waits and to the operand, which is no less tight than the level
pub record Held (level : ℕ) (waiting : List Waiting) (value : Value) (used : List Token) : Type 0 where
  pub before : List Token
  pub syntax : Syntax
  pub spelled : used ≡ before ++ tokens_in syntax
  pub grouped : IsGrouped syntax
  pub tight : level ≤ binding_strength syntax
  pub meant : meaning syntax ≡ value
  pub below : IsBelow (binding_strength syntax) waiting
  pub leads : Leads waiting before

regrouped : (before used left : List Token) (op : Op) (more : List Token) → used ≡ before ++ (left ++ Operator op ∷ []) →
    used ++ more ≡ before ++ (left ++ (Operator op ∷ more))
regrouped before used left op more same = rw same (simp append_assoc)

-- the operand joined with the one that waits for it
pub joined : (level : ℕ) (left : Value) (op : Op) (waiting : List Waiting) (value : Value) (used : List Token) →
    level ≤ precedence op → Held level (Left left op ∷ waiting) value used → Held level waiting (join op left value) used
joined level left op waiting value used up held =
    let opens : Opens held.before held.leads.0 left op = held.leads.1 in
    record {
      before = held.leads.0;
      syntax = Join op opens.syntax held.syntax;
      spelled = held.spelled ∙ regrouped held.leads.0 held.before (tokens_in opens.syntax) op (tokens_in held.syntax) opens.spelled;
      grouped = (opens.tight, held.below, opens.grouped, held.grouped);
      tight = up;
      meant = cc (opens.meant, held.meant);
      below = held.leads.2;
      leads = held.leads.3;
    }

-- what is joined is held, and what still waits binds less tightly
pub record Reduces (level : ℕ) (waiting : List Waiting) (value : Value) (used : List Token) : Type 0 where
  pub held : Held level waiting value used
  pub below : IsBelow level waiting

pub reduces : (level : ℕ) (waiting : List Waiting) (value : Value) (used : List Token) → Held level waiting value used →
    Reduces level (reduced level waiting value).0 (reduced level waiting value).1 used
reduces level [] value used held = record { held = held; below = tt }
reduces level (Paren ∷ waiting) value used held = record { held = held; below = tt }
reduces level (Left left op ∷ waiting) value used held = elim (cases_lt (precedence op) level) [
  | inl less ↦ rw (reduced-below level (Left left op ∷ waiting) value less) (record { held = held; below = less })
  | inr up ↦ rw (reduced-join level left op waiting value up)
      (reduces level waiting (join op left value) used (joined level left op waiting value used up held))
]

-- the tokens are an expression of this value
pub record Expresses (tokens : List Token) (value : Value) : Type 0 where
  pub syntax : Syntax
  pub spelled : tokens ≡ tokens_in syntax
  pub grouped : IsGrouped syntax
  pub meant : meaning syntax ≡ value

-- these tokens lead to the state
abbrev pub LeadsTo : List Waiting → Option Value → List Token → Type 0
LeadsTo waiting None used = Leads waiting used
LeadsTo waiting (Some value) used = Held 4 waiting value used

Held-less : (low high : ℕ) (waiting : List Waiting) (value : Value) (used : List Token) → low ≤ high → Held high waiting value used
    → Held low waiting value used
Held-less low high waiting value used up held =
    record {
      before = held.before;
      syntax = held.syntax;
      spelled = held.spelled;
      grouped = held.grouped;
      tight = omega arith;
      meant = held.meant;
      below = held.below;
      leads = held.leads;
    }

-- where the tokens end, all that waits is joined, and no parenthesis is open
ended_in : (waiting : List Waiting) (value found : Value) (used : List Token) → Held 0 waiting value used
    → ended_at waiting value ≡ Some found → Expresses used found
ended_in [] value found used held same =
    record {
      syntax = held.syntax;
      spelled = held.spelled
          ∙ ap (λ (b : List Token). b ++ tokens_in held.syntax) held.leads;
      grouped = held.grouped;
      meant = held.meant ∙ cc;
    }
ended_in (w ∷ waiting) value found used held same = cc

-- an operand binds more tightly than each operator
pub precedence_below : (op : Op) → precedence op < 4
precedence_below Containing = omega arith
precedence_below ContainedIn = omega arith
precedence_below NotContaining = omega arith
precedence_below NotContainedIn = omega arith
precedence_below OneOf = omega arith
precedence_below BothOf = omega arith
precedence_below FollowedBy = omega arith

one_more : (used tokens : List Token) (token : Token) → used ++ (token ∷ tokens) ≡ (used ++ token ∷ []) ++ tokens
one_more used tokens token = simp append_assoc

IsBelow_all : (waiting : List Waiting) → IsBelow 4 waiting
IsBelow_all [] = tt
IsBelow_all (Paren ∷ waiting) = tt
IsBelow_all (Left left Containing ∷ waiting) = omega arith
IsBelow_all (Left left ContainedIn ∷ waiting) = omega arith
IsBelow_all (Left left NotContaining ∷ waiting) = omega arith
IsBelow_all (Left left NotContainedIn ∷ waiting) = omega arith
IsBelow_all (Left left OneOf ∷ waiting) = omega arith
IsBelow_all (Left left BothOf ∷ waiting) = omega arith
IsBelow_all (Left left FollowedBy ∷ waiting) = omega arith

-- one operand more
single : (atom : Atom) (waiting : List Waiting) (used : List Token) → Leads waiting used
    → Held 4 waiting (value_of atom) (used ++ Operand atom ∷ [])
single atom waiting used leads =
    record {
      before = used;
      syntax = Single atom;
      spelled = refl;
      grouped = tt;
      tight = omega arith;
      meant = refl;
      below = IsBelow_all waiting;
      leads = leads;
    }

-- an operator after what is held
left_of : (op : Op) (waiting : List Waiting) (value : Value) (used : List Token) → (held : Held (precedence op) waiting value used)
    → Opens (used ++ Operator op ∷ []) held.before value op
left_of op waiting value used held =
    record {
      syntax = held.syntax;
      spelled = ap (λ (b : List Token). b ++ Operator op ∷ []) held.spelled
          ∙ append_assoc held.before (tokens_in held.syntax)
          (Operator op ∷ []);
      grouped = held.grouped;
      tight = held.tight;
      meant = held.meant;
    }

-- parentheses round what is held
grouped_in : (waiting : List Waiting) (value : Value) (used : List Token) → Held 0 (Paren ∷ waiting) value used
    → Held 4 waiting value (used ++ Close ∷ [])
grouped_in waiting value used held =
    record {
      before = held.leads.0;
      syntax = Group held.syntax;
      spelled = ap (λ (b : List Token). b ++ Close ∷ []) (held.spelled ∙ ap (λ (b : List Token). b ++ tokens_in held.syntax) held.leads.1)
          ∙ simp append_assoc;
      grouped = held.grouped;
      tight = omega arith;
      meant = held.meant;
      below = IsBelow_all waiting;
      leads = held.leads.2;
    }

ran_none : (tokens : List Token) (found : Value) → run tokens None ≡ Some found → ⊥
ran_none [] found ran = cc
ran_none (token ∷ tokens) found ran = cc

-- what goes on after a closing parenthesis goes on after what it ends
closing : (tokens used : List Token) (waiting : List Waiting) (value found : Value) → Held 0 waiting value used →
    run tokens (closed_at waiting value) ≡ Some found →
    ((outer : List Waiting) (inner : Value) → Held 4 outer inner (used ++ Close ∷ []) → run tokens (operand_held outer inner) ≡ Some found
    → Expresses ((used ++ Close ∷ []) ++ tokens) found) →
    Expresses (used ++ (Close ∷ tokens)) found
closing tokens used [] value found held ran on = absurd (ran_none tokens found ran)
closing tokens used (Paren ∷ waiting) value found held ran on = rw one_more (on waiting value (grouped_in waiting value used held) ran)
closing tokens used (Left left op ∷ waiting) value found held ran on = absurd (ran_none tokens found ran)

pub expresses : (tokens used : List Token) (waiting : List Waiting) (operand : Option Value) (value : Value)
    → LeadsTo waiting operand used →
    run tokens (Some record { waiting = waiting; operand = operand }) ≡ Some value → Expresses (used ++ tokens) value
expresses [] used waiting None value leads ran = cc
expresses [] used waiting (Some operand) value leads ran =
    let whole : Reduces 0 (reduced 0 waiting operand).0 (reduced 0 waiting operand).1 used = reduces 0 waiting operand used
    (Held-less 0 4 waiting operand used (omega arith) leads) in
    rw append-nil (ended_in _ _ value used whole.held ran)
expresses (Operand atom ∷ tokens) used waiting None value leads ran =
    rw one_more (expresses tokens (used ++ Operand atom ∷ []) waiting (Some (value_of atom)) value (single atom waiting used leads) ran)
expresses (Operand atom ∷ tokens) used waiting (Some held) value leads ran = absurd (ran_none tokens value ran)
expresses (Operator op ∷ tokens) used waiting None value leads ran = absurd (ran_none tokens value ran)
expresses (Operator op ∷ tokens) used waiting (Some operand) value leads ran =
    let left : Reduces (precedence op) (reduced (precedence op) waiting operand).0 (reduced (precedence op) waiting operand).1 used =
    reduces (precedence op) waiting operand used
    (Held-less (precedence op) 4 waiting operand used (omega (arith, precedence_below op)) leads) in
    rw one_more
    (expresses tokens (used ++ Operator op ∷ [])
    (Left (reduced (precedence op) waiting operand).1 op ∷ (reduced (precedence op) waiting operand).0) None value
    (left.held.before, left_of op _ _ used left.held, left.below, left.held.leads) ran)
expresses (Open ∷ tokens) used waiting None value leads ran =
    rw one_more (expresses tokens (used ++ Open ∷ []) (Paren ∷ waiting) None value (used, refl, leads) ran)
expresses (Open ∷ tokens) used waiting (Some held) value leads ran = absurd (ran_none tokens value ran)
expresses (Close ∷ tokens) used waiting None value leads ran = absurd (ran_none tokens value ran)
expresses (Close ∷ tokens) used waiting (Some operand) value leads ran =
    let inner : Reduces 0 (reduced 0 waiting operand).0 (reduced 0 waiting operand).1 used = reduces 0 waiting operand used
    (Held-less 0 4 waiting operand used (omega arith) leads) in
    closing tokens used (reduced 0 waiting operand).0 (reduced 0 waiting operand).1 value inner.held ran
    (λ waiting found held after. expresses tokens (used ++ Close ∷ []) waiting (Some found) value held after)

-- what is found is the value of an expression
pub expressed : (tokens : List Token) (value : Value) → evaluated tokens ≡ Some value → Expresses tokens value
expressed tokens value found = expresses tokens [] [] None value refl found
