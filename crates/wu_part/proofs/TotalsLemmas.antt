-- Lemmas on the totals of lists, with one list more.
use Rattle.std.proofs.Common.{◌≡◌, ℕ, ◌+◌, ◌<◌, ◌≤◌, ◌==◌, ◌||◌, Bool, true, false, List, [], ◌∷◌, ◌++◌, length, max, refl, ap, sym, subst}
use Rattle.std.proofs.Common.{◌∙◌, ⊎_elim, length-append, arith}
use Rattle.std.specs.List.{AllByRecursion, list_any}
use Rattle.std.proofs.lemmas.Bool.{cases_lt, eq-eqb}
use Rattle.std.proofs.lemmas.List.Folds.{list_any-append}
use Rattle.std.proofs.lemmas.List.Sums.{sum_by-append, sum_by-cons}
use Rattle.wu_base.specs.declared.addresses.TermList.{TermList}
use Rattle.wu_base.proofs.EachLemmas.{each-push}
use Rattle.wu_part.specs.Parts.{IsList}
use Rattle.wu_part.specs.Totals.{AreTotals}
use Rattle.wu_part.specs.Writing.{first_of, last_of}
use Rattle.wu_part.specs.declared.totals.Totals.{Totals}

all_weaker : (P Q : TermList → Type 0) (lists : List TermList) → ((list : TermList) → P list → Q list) → AllByRecursion P lists
    → AllByRecursion Q lists
all_weaker P Q [] f a = tt
all_weaker P Q (x ∷ lists) f a = (f x a.0, all_weaker P Q lists f a.1)

or_false : (b : Bool) → (b || false) ≡ b
or_false true = refl
or_false false = refl

or_true : (b : Bool) → (b || true) ≡ true
or_true true = refl
or_true false = refl

any_more : (p : TermList → Bool) (lists : List TermList) (list : TermList) → list_any p (lists ++ list ∷ []) ≡ (list_any p lists || p list)
any_more p lists list = list_any-append p lists (list ∷ []) ∙ ap (λ (b : Bool). list_any p lists || b) (or_false (p list))

any_before : (p : TermList → Bool) (lists : List TermList) (list : TermList) → list_any p lists ≡ true
    → list_any p (lists ++ list ∷ []) ≡ true
any_before p lists list e = any_more p lists list ∙ ap (λ (b : Bool). b || p list) e

any_last : (p : TermList → Bool) (lists : List TermList) (list : TermList) → p list ≡ true → list_any p (lists ++ list ∷ []) ≡ true
any_last p lists list e = any_more p lists list ∙ (ap (λ (b : Bool). list_any p lists || b) e ∙ or_true (list_any p lists))

pub some_or_none : (lists : List TermList) (P : Type 0) → (0 < length lists → P) → (length lists ≡ 0 → P) → P
some_or_none [] P f g = g refl
some_or_none (x ∷ lists) P f g = f (omega arith)

last_more : (lists : List TermList) (list : TermList) (old new : Totals) → AreTotals lists old → new.high ≡ max old.high (last_of list.at)
    → list_any (λ l. last_of l.at == new.high) (lists ++ list ∷ []) ≡ true
last_more lists list old new t e =
    ⊎_elim
    (λ (s : old.high < last_of list.at).
    let same : last_of list.at ≡ new.high = omega arith in
    any_last (λ l. last_of l.at == new.high) lists list (eq-eqb (last_of list.at) new.high same))
    (λ (s : last_of list.at ≤ old.high).
    let same : old.high ≡ new.high = omega arith in
    some_or_none lists _
    (λ some.
    any_before (λ l. last_of l.at == new.high) lists list
    (subst (λ h. list_any (λ l. last_of l.at == h) lists ≡ true) same (t.last some)))
    (λ none.
    let zero = t.none none in
    let its : last_of list.at ≡ new.high = omega arith in
    any_last (λ l. last_of l.at == new.high) lists list (eq-eqb (last_of list.at) new.high its)))
    (cases_lt old.high (last_of list.at))

pub more_totals : (lists : List TermList) (list : TermList) (old new : Totals) → AreTotals lists old → IsList list
    → old.low ≤ first_of list.at → new.low ≡ old.low → new.high ≡ max old.high (last_of list.at)
    → new.stored ≡ old.stored + length list.at → new.count ≡ old.count + 1
    → new.reached ≡ (old.reached || (first_of list.at == old.low)) → AreTotals (lists ++ list ∷ []) new
more_totals lists list old new t is begin low high stored count reached = record {
  each = each-push IsList lists list t.each is;
  begin =
      subst (λ n. AllByRecursion (λ l. n ≤ first_of l.at) (lists ++ list ∷ [])) (sym low)
      (each-push (λ l. old.low ≤ first_of l.at) lists list t.begin begin);
  greatest =
      each-push (λ l. last_of l.at ≤ new.high) lists list
      (all_weaker (λ l. last_of l.at ≤ old.high) (λ l. last_of l.at ≤ new.high) lists (λ l s. omega arith) t.greatest) (omega arith);
  last = λ some. last_more lists list old new t high;
  none = λ none. absurd (omega (arith, length-append lists (list ∷ [])));
  stored =
      omega (
        arith,
        t.stored,
        sum_by-append (λ (l : TermList). length l.at) lists (list ∷ []),
        sum_by-cons (λ (l : TermList). length l.at) list [],
      );
  count = omega (arith, t.count, length-append lists (list ∷ []));
  reached =
      reached
      ∙ (ap (λ (b : Bool). b || (first_of list.at == old.low)) t.reached
      ∙ (sym (any_more (λ l. first_of l.at == old.low) lists list)
      ∙ ap (λ (n : ℕ). list_any (λ l. first_of l.at == n) (lists ++ list ∷ [])) (sym low)));
}
