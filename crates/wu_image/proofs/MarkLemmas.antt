-- Bytes that begin with a mark.
use Rattle.std.proofs.Common.{◌≡◌, ℕ, ◌+◌, true, false, List, ◌++◌, length, take, drop, nat_eq, ap, sym, ◌∙◌}
use Rattle.std.specs.Prelude.{Option, None, Some, IfNone, IfSome, MatchOption}
use Rattle.std.specs.Cmp.Lexicographic.{pointwise, same_text}
use Rattle.std.proofs.Math.Seq.{take-append_seam}
use Rattle.std.proofs.lemmas.Cmp.{nat_list_eq_equiv}
use Rattle.std.proofs.lemmas.List.{take-append-drop}

behind : (bytes mark code : List ℕ) → pointwise nat_eq (take (length mark) bytes) mark ≡ true → code ≡ drop (length mark) bytes
    → bytes ≡ mark ++ code
behind bytes mark code p e =
    sym (take-append-drop (length mark) bytes)
    ∙ (ap (λ (l : List ℕ). l ++ drop (length mark) bytes) (same_text (take (length mark) bytes) mark (sym p))
    ∙ ap (λ (l : List ℕ). mark ++ l) (sym e))

not_behind : (bytes mark : List ℕ) → pointwise nat_eq (take (length mark) bytes) mark ≡ false → (code : List ℕ) → bytes ≡ mark ++ code → ⊥
not_behind bytes mark p code e =
    let front : take (length mark) bytes ≡ mark = ap (take (length mark)) e ∙ take-append_seam mark code in
    let same : pointwise nat_eq (take (length mark) bytes) mark ≡ true =
    ap (λ (l : List ℕ). pointwise nat_eq l mark) front ∙ nat_list_eq_equiv.refl mark in
    let f : true ≡ false = sym same ∙ p in
    cc

-- what is told of bytes without a mark before them, whose bytes are these
module _ {X : Type 0} (bytes_of : X → List ℕ) (bytes mark : List ℕ) where
  abbrev IsStripped : Option X → Type 0
  IsStripped o =
      MatchOption o (pointwise nat_eq (take (length mark) bytes) mark ≡ false)
      (λ x. (pointwise nat_eq (take (length mark) bytes) mark ≡ true) × (bytes_of x ≡ drop (length mark) bytes)
      × (length (bytes_of x) + length mark ≡ length bytes))

  pub found_behind : (o : Option X) → IsStripped o → IfSome o (λ x. bytes ≡ mark ++ bytes_of x)
  found_behind None s = tt
  found_behind (Some x) s = behind bytes mark (bytes_of x) s.0 s.1

  pub none_behind : (o : Option X) → IsStripped o → IfNone o ((code : List ℕ) → bytes ≡ mark ++ code → ⊥)
  none_behind None s = not_behind bytes mark s
  none_behind (Some x) s = tt
