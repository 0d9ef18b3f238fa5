-- Bytes that are written in pieces.
use Rattle.std.proofs.Common.{◌≡◌, ℕ, List, [], ◌∷◌, ◌++◌, refl, ap, sym, ◌∙◌, subst}
use Rattle.std.proofs.Common.{append_assoc}
use Rattle.std.proofs.lemmas.List.{append-nil}
use Rattle.std.specs.Prelude.{Option, None, Some}
use Rattle.std.specs.Io.KnownBytes.{Appends, Keeps}
use Rattle.wumpus_plan.specs.Lines.{Passes}

pub appends_nothing : (a : Option (List ℕ)) → Appends a a []
appends_nothing None = tt
appends_nothing (Some xs) = sym (append-nil xs)

pub appends_both : (a b c : Option (List ℕ)) (xs ys : List ℕ) → Appends a b xs → Appends b c ys → Appends a c (xs ++ ys)
appends_both None b c xs ys p q = tt
appends_both (Some x) None c xs ys p q = absurd p
appends_both (Some x) (Some y) None xs ys p q = absurd q
appends_both (Some x) (Some y) (Some z) xs ys p q = q ∙ ap (λ (l : List ℕ). l ++ ys) p ∙ append_assoc x xs ys

pub appends_kept : (a b c : Option (List ℕ)) (xs : List ℕ) → Appends a b xs → Keeps b c → Appends a c xs
appends_kept None b c xs p q = tt
appends_kept (Some x) None c xs p q = absurd p
appends_kept (Some x) (Some y) None xs p q = absurd q
appends_kept (Some x) (Some y) (Some z) xs p q = q ∙ p

pub passes_nothing : (a : Option (List ℕ)) (buffer : List ℕ) → Passes a buffer a buffer []
passes_nothing a buffer = ([], appends_nothing a, sym (append-nil buffer))

-- what is put into the buffer and stays there
pub passes_kept : (a : Option (List ℕ)) (buffer left more : List ℕ) → left ≡ buffer ++ more → Passes a buffer a left more
passes_kept a buffer left more e = ([], appends_nothing a, e)

-- what is put into the buffer and then written with it
pub passes_written : (a b : Option (List ℕ)) (buffer full more : List ℕ) → full ≡ buffer ++ more → Appends a b full → Passes a buffer b [] more
passes_written a b buffer full more e p = (full, p, append-nil full ∙ e)

pub passes_both : (a b c : Option (List ℕ)) (buffer middle left more others : List ℕ) → Passes a buffer b middle more
    → Passes b middle c left others
    → Passes a buffer c left (more ++ others)
passes_both a b c buffer middle left more others p q = (
  p.0 ++ q.0,
  appends_both a b c p.0 q.0 p.1 q.1,
  append_assoc p.0 q.0 left ∙ ap (λ (l : List ℕ). p.0 ++ l) q.2 ∙ sym (append_assoc p.0 middle others) ∙ ap (λ (l : List ℕ). l ++ others) p.2
      ∙ append_assoc buffer more others,
)

-- the buffer is written at last
pub passes_ended : (a b c : Option (List ℕ)) (buffer left more : List ℕ) → Passes a buffer b left more → Appends b c left
    → Appends a c (buffer ++ more)
passes_ended a b c buffer left more p q = subst (λ (l : List ℕ). Appends a c l) p.2 (appends_both a b c p.0 left p.1 q)
