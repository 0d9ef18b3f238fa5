-- What it takes that no rule refuses an event.
use Rattle.std.proofs.Common.{◌≡◌, ℕ, List, [], ◌∷◌, Bool, true, false, cond, not, refl, ap, inl, inr}
use Rattle.std.specs.Prelude.{◌&&◌, ◌⊎◌, Option, Some, None, Result, Ok, is_some}
use Rattle.std.specs.Result.{result_unwrap_or}
use Rattle.std.specs.List.{AllByRecursion}
use Rattle.wu_tree.specs.declared.events.Effect.{Effect}
use Rattle.wu_tree.specs.declared.events.Node.{Node}
use Rattle.wu_tree.specs.declared.events.Refusal.{Refusal}
use Rattle.wu_tree.specs.FileSystems.{FileSystem, is_name, node_of, is_there, is_file, is_file_node, is_directory, is_directory_node}
use Rattle.wu_tree.specs.FileSystems.{is_kind_file}
use Rattle.wu_tree.specs.Steps.{Rule, first_of, unless_refused}

abbrev pub NoneApplies : List Rule → Type 0
NoneApplies rules = AllByRecursion (λ rule. rule.0 ≡ false) rules

first_rule : (rule : Rule) (rules : List Rule) → first_of (rule ∷ rules) ≡ None → (rule.0 ≡ false) × (first_of rules ≡ None)
first_rule rule rules h =
    elim rule.0 as (λ b. cond b (Some rule.1) (first_of rules) ≡ None → (b ≡ false) × (first_of rules ≡ None)) [
      | true ↦ λ g. absurd cc
      | false ↦ λ g. (refl, g)
    ] h

-- no rule of a list applies
pub none_applies : (rules : List Rule) → first_of rules ≡ None → NoneApplies rules
none_applies [] h = tt
none_applies (rule ∷ rules) h = let f = first_rule rule rules h in (f.0, none_applies rules f.1)

-- what is answered to an event that no rule refuses
pub accepted : (o : Option Refusal) (to after : FileSystem) (told effect : Effect) → unless_refused o to told ≡ Ok (after, effect)
    → (o ≡ None) × ((to ≡ after) × (told ≡ effect))
accepted None to after told effect h = (
  refl,
  (
    ap (λ (r : Result (FileSystem × Effect) Refusal). (result_unwrap_or r (to, told)).0) h,
    ap
        (λ (r : Result (FileSystem × Effect) Refusal). (result_unwrap_or r (to, told)).1) h,
  ),
)
accepted (Some refusal) to after told effect h = absurd cc

-- ---- tests

pub not_false : (b : Bool) → not b ≡ false → b ≡ true
not_false true h = refl
not_false false h = absurd cc

pub one_is_false : (a b : Bool) → (a && b) ≡ false → (a ≡ false) ⊎ (b ≡ false)
one_is_false true b h = inr h
one_is_false false b h = inl refl

pub second_is_false : (a b : Bool) → (a && b) ≡ false → a ≡ true → b ≡ false
second_is_false true b h e = h
second_is_false false b h e = absurd cc

-- ---- nodes and links that there are

pub kind_directory : (o : Option Node) → is_some o ≡ true → is_file_node o ≡ false → is_directory_node o ≡ true
kind_directory None h g = absurd cc
kind_directory (Some node) h g = ap not g

pub kind_file : (o : Option Node) → is_some o ≡ true → is_directory_node o ≡ false → is_file_node o ≡ true
kind_file None h g = absurd cc
kind_file (Some node) h g = not_false (is_kind_file node.kind) g

pub absent : {T : Type 0} (o : Option T) → is_some o ≡ false → o ≡ None
absent None h = refl
absent (Some x) h = absurd cc

pub present : (o : Option ℕ) → is_some o ≡ true → (c : ℕ) × (o ≡ Some c)
present None h = absurd cc
present (Some c) h = (c, refl)

pub same_some : (a b : ℕ) → Some a ≡ Some b → a ≡ b
same_some a b h = cc

pub none_some : (a : ℕ) → None ≡ Some a → ⊥
none_some a h = cc

-- what is asked of a name in a directory
pub record IsPlace (fs : FileSystem) (parent : ℕ) (name : List ℕ) : Type 0 where
  pub directory : is_directory fs parent ≡ true
  pub valid : is_name name ≡ true

pub place : (fs : FileSystem) (parent : ℕ) (name : List ℕ) → not (is_name name) ≡ false → not (is_there fs parent) ≡ false
    → is_file fs parent ≡ false → IsPlace fs parent name
place fs parent name n t f = record {
  directory = kind_directory (node_of fs parent) (not_false (is_there fs parent) t) f;
  valid = not_false (is_name name) n;
}
