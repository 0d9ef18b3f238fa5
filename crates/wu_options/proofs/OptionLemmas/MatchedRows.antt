-- The rows of the matches, by the values of an id.
use Rattle.std.proofs.Common.{◌≡◌, ◌∙◌, ◌++◌, Bool, true, false, refl, ap, List, [], ◌∷◌, Some, None, is_some}
use Rattle.std.specs.Prelude.{unwrap_or, option_and_then, slice_get}
use Rattle.std.specs.Str.{bytes_eq}
use Rattle.std.proofs.lemmas.Slice.Eq.{bytes_eq-Decides}
use Rattle.clap.specs.Words.{Row, Text, all_of, first_of}
use Rattle.clap.specs.Walk.{has_row, with_values, without}
use Rattle.clap.specs.declared.builder.value_parser.Reading.{Reading}
use Rattle.clap.specs.declared.parser.matches.ValueSource.{ValueSource}

pub same_id : (id : Text) → bytes_eq id id ≡ true
same_id id = (bytes_eq-Decides id id).1 refl

pub cons_all : (id : Text) (r : Row) (xs ys : List Row) → all_of id xs ≡ all_of id ys → all_of id (r ∷ xs) ≡ all_of id (r ∷ ys)
cons_all id r xs ys h = go (bytes_eq r.id id) refl
  where
    go : (b : Bool) → bytes_eq r.id id ≡ b → all_of id (r ∷ xs) ≡ all_of id (r ∷ ys)
    go true e = rw e refl
    go false e = rw e h

module _ (id other : Text) (apart : bytes_eq other id ≡ false) where
  pub misses : (r : Row) → bytes_eq r.id other ≡ true → bytes_eq r.id id ≡ false
  misses r e = ap (λ (x : Text). bytes_eq x id) ((bytes_eq-Decides r.id other).0 e) ∙ apart

  pub other_with_values : (how : Reading) (s : ValueSource) (vs : List Text) (rows : List Row)
      → all_of id (with_values other how s vs rows) ≡ all_of id rows
  other_with_values how s vs [] = rw apart refl
  other_with_values how s vs (r ∷ rs) = go (bytes_eq r.id other) refl (other_with_values how s vs rs)
    where
      go : (b : Bool) → bytes_eq r.id other ≡ b → all_of id (with_values other how s vs rs) ≡ all_of id rs
          → all_of id (with_values other how s vs (r ∷ rs)) ≡ all_of id (r ∷ rs)
      go true e h = rw (e, misses r e) refl
      go false e h = rw e (cons_all id r _ rs h)

  pub other_without : (rows : List Row) → all_of id (without other rows) ≡ all_of id rows
  other_without [] = refl
  other_without (r ∷ rs) = go (bytes_eq r.id other) refl (other_without rs)
    where
      go : (b : Bool) → bytes_eq r.id other ≡ b → all_of id (without other rs) ≡ all_of id rs
          → all_of id (without other (r ∷ rs)) ≡ all_of id (r ∷ rs)
      go true e h = rw (e, misses r e) refl
      go false e h = rw e (cons_all id r _ rs h)

pub same_with_values : (id : Text) (how : Reading) (s : ValueSource) (vs : List Text) (rows : List Row)
    → all_of id (with_values id how s vs rows) ≡ Some (unwrap_or (all_of id rows) [] ++ vs)
same_with_values id how s vs [] = rw (same_id id) refl
same_with_values id how s vs (r ∷ rs) = go (bytes_eq r.id id) refl (same_with_values id how s vs rs)
  where
    go : (b : Bool) → bytes_eq r.id id ≡ b → all_of id (with_values id how s vs rs) ≡ Some (unwrap_or (all_of id rs) [] ++ vs)
        → all_of id (with_values id how s vs (r ∷ rs)) ≡ Some (unwrap_or (all_of id (r ∷ rs)) [] ++ vs)
    go true e h = rw (e, e) refl
    go false e h = rw (e, e) h

pub none_without : (id : Text) (rows : List Row) → all_of id rows ≡ None → all_of id (without id rows) ≡ None
none_without id [] h = refl
none_without id (r ∷ rs) h = go (bytes_eq r.id id) refl h (none_without id rs)
  where
    go : (b : Bool) → bytes_eq r.id id ≡ b → all_of id (r ∷ rs) ≡ None → (all_of id rs ≡ None → all_of id (without id rs) ≡ None)
        → all_of id (without id (r ∷ rs)) ≡ None
    go true e none h =
        let some : Some r.values ≡ None = rw e at none in
        cc
    go false e none h = rw (e, e) (h (rw e at none))

pub has_row_is : (id : Text) (rows : List Row) → has_row id rows ≡ is_some (all_of id rows)
has_row_is id [] = refl
has_row_is id (r ∷ rs) = go (bytes_eq r.id id) refl (has_row_is id rs)
  where
    go : (b : Bool) → bytes_eq r.id id ≡ b → has_row id rs ≡ is_some (all_of id rs) → has_row id (r ∷ rs) ≡ is_some (all_of id (r ∷ rs))
    go true e h = rw e refl
    go false e h = rw e h

pub first_is : (id : Text) (rows : List Row) → first_of id rows ≡ option_and_then (λ vs. slice_get vs 0) (all_of id rows)
first_is id [] = refl
first_is id (r ∷ rs) = go (bytes_eq r.id id) refl (first_is id rs)
  where
    go : (b : Bool) → bytes_eq r.id id ≡ b → first_of id rs ≡ option_and_then (λ vs. slice_get vs 0) (all_of id rs)
        → first_of id (r ∷ rs) ≡ option_and_then (λ vs. slice_get vs 0) (all_of id (r ∷ rs))
    go true e h = rw e refl
    go false e h = rw e h
