-- Ranges that are read one after another, up to a trouble, and why it came.
use Rattle.std.proofs.Common.{◌≡◌, ◌≢◌, ℕ, ◌+◌, ◌≤◌, ◌==◌, true, List, [], ◌∷◌, ◌++◌, length, take, refl, ap, sym, ◌∙◌, subst, arith}
use Rattle.std.proofs.Common.{append_assoc, append-nil, length-append}
use Rattle.std.specs.Prelude.{Option, None, Some, IfSome}
use Rattle.std.specs.List.{list_any}
use Rattle.std.proofs.lemmas.Bool.{eq-eqb, or_right}
use Rattle.std.proofs.lemmas.List.{take-append-le}
use Rattle.std.proofs.lemmas.List.Folds.{list_any-append}
use Rattle.std.proofs.Math.Seq.{take-append_seam, take-append-add}
use Rattle.wu_base.specs.declared.troubles.Trouble.{Trouble}
use Rattle.wu_base.specs.declared.troubles.Trouble.TheVariants.{NoMemory, StoreFault, Damaged}
use Rattle.wu_outside.specs.Faults.{Rose}
use Rattle.wu_outside.specs.declared.ranges.ReadRange.{ReadRange}
use Rattle.wu_job.specs.Steps.{ReadsFront, IsCause, adds}

abbrev Reads : Type 0
Reads = Option (List ReadRange)

pub adds-none : (o : Reads) → adds [] o ≡ o
adds-none None = refl
adds-none (Some reads) = ap Some (append-nil reads)

pub adds-more : (first later : List ReadRange) (o : Reads) → adds later (adds first o) ≡ adds (first ++ later) o
adds-more first later None = refl
adds-more first later (Some reads) = ap Some (append_assoc reads first later)

-- the trouble came among the first ranges
pub front_first : (first later : List ReadRange) (old new : Reads) (t : Trouble) → ReadsFront first old new t
    → ReadsFront (first ++ later) old new t
front_first first later old new t f =
    let same : take f.count (first ++ later) ≡ take f.count first = take-append-le f.count first later f.within in
    record {
      count = f.count;
      within = omega (arith, f.within, length-append first later);
      front = f.front ∙ ap (λ (r : List ReadRange). adds r old) (sym same);
      damaged = λ blob e. rw same (f.damaged blob e);
    }

-- the first ranges were read, and the trouble came among the later ones
pub front_then : (first later : List ReadRange) (old mid new : Reads) (t : Trouble) → mid ≡ adds first old → ReadsFront later mid new t
    → ReadsFront (first ++ later) old new t
front_then first later old mid new t e f =
    let same : take (length first + f.count) (first ++ later) ≡ first ++ take f.count later = take-append-add first later f.count in
    record {
      count = length first + f.count;
      within = omega (arith, f.within, length-append first later);
      front =
          f.front ∙ ap (adds (take f.count later)) e ∙ adds-more first (take f.count later) old
          ∙ ap (λ (r : List ReadRange). adds r old) (sym same);
      damaged = λ blob is.
          rw same
          (list_any-append (λ (r : ReadRange). r.blob == blob) first (take f.count later)
          ∙ or_right (list_any (λ (r : ReadRange). r.blob == blob) first) _ (f.damaged blob is));
    }

-- nothing was read
pub front_none : (ranges : List ReadRange) (old new : Reads) (t : Trouble) → new ≡ old → ((blob : ℕ) → t ≡ Damaged blob → ⊥)
    → ReadsFront ranges old new t
front_none ranges old new t e n = record {
  count = 0;
  within = omega arith;
  front = e ∙ sym (adds-none old);
  damaged = λ blob is. absurd (n blob is);
}

-- all was read, and a blob that is damaged is one of these
pub front_all : (ranges : List ReadRange) (old new : Reads) (t : Trouble) → new ≡ adds ranges old
    → ((blob : ℕ) → t ≡ Damaged blob → list_any (λ range. range.blob == blob) ranges ≡ true)
    → ReadsFront ranges old new t
front_all ranges old new t e d =
    let same : take (length ranges) ranges ≡ ranges =
    ap (take (length ranges)) (sym (append-nil ranges)) ∙ take-append_seam ranges [] in
    record {
      count = length ranges;
      within = omega arith;
      front = e ∙ ap (λ (r : List ReadRange). adds r old) (sym same);
      damaged = λ blob is. rw same (d blob is);
    }

pub same_blob : (blob other : ℕ) → Damaged blob ≡ Damaged other → blob ≡ other
same_blob blob other e = cc

-- the blob is damaged of which ranges were read
pub front_damaged : (ranges : List ReadRange) (old new : Reads) (blob : ℕ) → new ≡ adds ranges old
    → list_any (λ range. range.blob == blob) ranges ≡ true → ReadsFront ranges old new (Damaged blob)
front_damaged ranges old new blob e any =
    front_all ranges old new (Damaged blob) e
    (λ other is. subst (λ b. list_any (λ (range : ReadRange). range.blob == b) ranges ≡ true) (same_blob blob other is) any)

-- the one range of it
pub front_of_one : (range : ReadRange) (old new : Reads) → new ≡ adds (range ∷ []) old
    → ReadsFront (range ∷ []) old new (Damaged range.blob)
front_of_one range old new e =
    let same : (range.blob == range.blob) ≡ true = eq-eqb range.blob range.blob refl in
    front_damaged (range ∷ []) old new range.blob e (rw same refl)

-- ---- causes

pub cause_after : (P Q : ℕ → Type 0) (before then now : ℕ) (t : Trouble) → then ≡ before → ((blob : ℕ) → P blob → Q blob)
    → IsCause P then now t → IsCause Q before now t
cause_after P Q before then now t e f c = record {
  kept = subst (λ n. n ≤ now) e c.kept;
  store_fault = λ is. subst (λ n. Rose n now) e (c.store_fault is);
  calm = λ n. c.calm n ∙ e;
  damaged = λ blob is. f blob (c.damaged blob is);
}

-- a trouble that is no store fault leaves the count of faults as it was
pub cause_calm : (P : ℕ → Type 0) (before now : ℕ) (t : Trouble) → now ≡ before → t ≢ StoreFault
    → ((blob : ℕ) → t ≡ Damaged blob → P blob) → IsCause P before now t
cause_calm P before now t e n d = record {
  kept = omega arith;
  store_fault = λ is. absurd (n is);
  calm = λ _. e;
  damaged = d;
}

-- ---- what holds of each content that is told

-- two facts of what is told at equal moments
pub if_both : {X : Type 0} (P Q R : X → Type 0) (o p : Option X) → p ≡ o → IfSome o P → IfSome p Q → ((x : X) → P x → Q x → R x) → IfSome o R
if_both P Q R None p e a b f = tt
if_both P Q R (Some x) p e a b f = f x a (subst (λ q. IfSome q Q) e b)

pub no_memory : (blob : ℕ) → NoMemory ≡ Damaged blob → ⊥
no_memory blob e = absurd cc

pub no_fault : (blob : ℕ) → Damaged blob ≢ StoreFault
no_fault blob = λ e. absurd cc
