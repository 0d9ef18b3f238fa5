-- A walk over what is kept: each turn takes the last entry away and puts what becomes of it before all others.
use Rattle.std.proofs.Common.{◌≡◌, ℕ, ◌+◌, ◌-◌, ◌<◌, ◌≤◌, Bool, true, false, [], ◌∷◌, ◌++◌, length, take, nat_eq, refl, ap, sym, ◌∙◌, subst}
use Rattle.std.proofs.Common.{arith, append_assoc, length-append}
use Rattle.std.specs.Prelude.{Option, None, Some, filter, option_map}
use Rattle.std.specs.List.{AllByRecursion, IsDistinct}
use Rattle.std.specs.Map.{keys_of, lookup_entry, remove_entry, set_value}
use Rattle.std.specs.Cmp.{nat_eq_equiv}
use Rattle.std.proofs.lemmas.Bool.{eqb-false, ne_eqb}
use Rattle.std.proofs.lemmas.List.{append-nil}
use Rattle.std.proofs.lemmas.Map.{NonePasses}
use Rattle.std.proofs.lemmas.Option.{none-some}
use Rattle.lru.specs.LruCache.{last_entry, promoted}
use Rattle.lru.proofs.Pairs.{cut_end, last_of_push, lookup-lookup_entry}
use Rattle.wu_frames.specs.declared.Frames.{Frames}
use Rattle.wu_frames.specs.UserFrames.{Kept, frames_for}

-- ---- the last entry

pub last-is : (now rest : Kept) (entry : ℕ × Frames) → now ≡ rest ++ entry ∷ []
    → (last_entry now ≡ Some entry) × (take (length now - 1) now ≡ rest)
last-is now rest entry e =
    subst (λ (k : Kept). (last_entry k ≡ Some entry) × (take (length k - 1) k ≡ rest)) (sym e) (last_of_push rest entry)

all-last : (P : ℕ → Type 0) (rest : Kept) (entry : ℕ × Frames) → AllByRecursion P (keys_of (rest ++ entry ∷ [])) → P entry.0
all-last P [] entry a = a.0
all-last P (x ∷ rest) entry a = all-last P rest entry a.1

none-before : (rest : Kept) (entry : ℕ × Frames) → IsDistinct nat_eq (keys_of (rest ++ entry ∷ [])) → NonePasses (nat_eq entry.0) rest
unfolding IsDistinct
none-before [] entry d = tt
none-before (x ∷ rest) entry d = (
  ne_eqb entry.0 x.0 (λ e. eqb-false x.0 entry.0 (all-last (λ y. nat_eq x.0 y ≡ false) rest entry d.0) (sym e)),
  none-before rest entry d.1,
)

pub passed-none : (test : ℕ → Bool) (rest : Kept) → NonePasses test rest
    → (lookup_entry test rest ≡ None) × (remove_entry test rest ≡ rest)
passed-none test [] n = (refl, refl)
passed-none test (x ∷ rest) n =
    let r = passed-none test rest n.1 in (rw n.0 r.0, rw n.0 (ap (λ (l : Kept). x ∷ l) r.1))

passed-last : (test : ℕ → Bool) (rest : Kept) (entry : ℕ × Frames) → NonePasses test rest → test entry.0 ≡ true
    → (lookup_entry test (rest ++ entry ∷ []) ≡ Some entry) × (remove_entry test (rest ++ entry ∷ []) ≡ rest)
passed-last test [] entry n h = (rw h refl, rw h refl)
passed-last test (x ∷ rest) entry n h =
    let r = passed-last test rest entry n.1 h in (rw n.0 r.0, rw n.0 (ap (λ (l : Kept). x ∷ l) r.1))

-- the entry that a call finds last is that one
pub last-same : (now rest : Kept) (entry : ℕ × Frames) (uid : ℕ) (frames : Frames) → now ≡ rest ++ entry ∷ []
    → Some (uid, frames) ≡ last_entry now → (uid, frames) ≡ entry
last-same now rest entry uid frames e last = let is : last_entry now ≡ Some entry = (last-is now rest entry e).0 in cc

promoted-last : (rest : Kept) (entry : ℕ × Frames) → IsDistinct nat_eq (keys_of (rest ++ entry ∷ []))
    → promoted (nat_eq entry.0) (rest ++ entry ∷ []) ≡ entry ∷ rest
promoted-last rest entry d =
    let p = passed-last (nat_eq entry.0) rest entry (none-before rest entry d) (nat_eq_equiv.refl entry.0) in rw (p.0, p.1) refl

-- to promote the last is to put it before all others
pub promoted-now : (now rest : Kept) (entry : ℕ × Frames) (uid : ℕ) → now ≡ rest ++ entry ∷ [] → uid ≡ entry.0
    → IsDistinct nat_eq (keys_of now) → promoted (nat_eq uid) now ≡ entry ∷ rest
promoted-now now rest entry uid e same d =
    subst (λ (n : ℕ). promoted (nat_eq n) now ≡ entry ∷ rest) (sym same)
    (subst (λ (k : Kept). promoted (nat_eq entry.0) k ≡ entry ∷ rest) (sym e)
    (promoted-last rest entry (subst (λ (k : Kept). IsDistinct nat_eq (keys_of k)) e d)))

first-set : (rest : Kept) (entry : ℕ × Frames) (uid : ℕ) (frames : Frames) → uid ≡ entry.0
    → set_value (nat_eq uid) (entry ∷ rest) frames ≡ (entry.0, frames) ∷ rest
first-set rest entry uid frames same =
    let hers : nat_eq uid entry.0 ≡ true = subst (λ (n : ℕ). nat_eq uid n ≡ true) same (nat_eq_equiv.refl uid) in rw hers refl

-- the same, with other frames
pub replaced-now : (now rest : Kept) (entry : ℕ × Frames) (uid : ℕ) (frames : Frames) → now ≡ rest ++ entry ∷ [] → uid ≡ entry.0
    → IsDistinct nat_eq (keys_of now) → set_value (nat_eq uid) (promoted (nat_eq uid) now) frames ≡ (entry.0, frames) ∷ rest
replaced-now now rest entry uid frames e same d =
    ap (λ (k : Kept). set_value (nat_eq uid) k frames) (promoted-now now rest entry uid e same d)
    ∙ first-set rest entry uid frames same

-- the last is found by her number
pub found-last : (now : Kept) (uid : ℕ) (frames : Frames) → Some (uid, frames) ≡ last_entry now → IsDistinct nat_eq (keys_of now)
    → frames_for now uid ≡ Some frames
found-last [] uid frames last d = absurd (none-some (uid, frames) (sym last))
found-last (x ∷ xs) uid frames last d =
    let cut = cut_end (x ∷ xs) (omega arith) in
    let is : (uid, frames) ≡ cut.1 = last-same (x ∷ xs) cut.0 cut.1 uid frames cut.2 last in
    let e : x ∷ xs ≡ cut.0 ++ (uid, frames) ∷ [] = cut.2 ∙ ap (λ (y : ℕ × Frames). cut.0 ++ y ∷ []) (sym is) in
    let apart = subst (λ (k : Kept). IsDistinct nat_eq (keys_of k)) e d in
    let passed = passed-last (nat_eq uid) cut.0 (uid, frames) (none-before cut.0 (uid, frames) apart) (nat_eq_equiv.refl uid) in
    sym (lookup-lookup_entry (nat_eq uid) (x ∷ xs))
    ∙ ap (λ (o : Option (ℕ × Frames)). option_map (λ (y : ℕ × Frames). y.1) o) (ap (λ (k : Kept). lookup_entry (nat_eq uid) k) e ∙ passed.0)

-- what is found by that number are her frames
pub found-same : (now : Kept) (uid : ℕ) (frames found : Frames) → Some (uid, frames) ≡ last_entry now
    → IsDistinct nat_eq (keys_of now) → Some found ≡ frames_for now uid → found ≡ frames
found-same now uid frames found last d h = let hers = found-last now uid frames last d in cc

-- ---- the first of those who pass a test

pub spared-first : (p : ℕ → Bool) (entry : ℕ × Frames) (gone done : Kept) → p entry.0 ≡ true → done ≡ filter (λ x. p x.0) gone
    → entry ∷ done ≡ filter (λ x. p x.0) (entry ∷ gone)
spared-first p entry gone done h e = rw h (ap (λ (l : Kept). entry ∷ l) e)

pub forgotten-first : (p : ℕ → Bool) (entry : ℕ × Frames) (gone done : Kept) → p entry.0 ≡ false → done ≡ filter (λ x. p x.0) gone
    → done ≡ filter (λ x. p x.0) (entry ∷ gone)
forgotten-first p entry gone done h e = rw h e

-- ---- the walk

-- after some turns: the entries at the back had theirs, and what became of them stands before those that are left
pub record IsTurned (before now : Kept) (turns : ℕ) (Became : Kept → Kept → Type 0) : Type 0 where
  pub left : Kept
  pub gone : Kept
  pub done : Kept
  pub whole : before ≡ left ++ gone
  pub now_is : now ≡ done ++ left
  pub counted : length left + turns ≡ length before
  pub became : Became gone done

pub turned-none : (Became : Kept → Kept → Type 0) (before : Kept) → Became [] [] → IsTurned before before 0 Became
turned-none Became before b = record {
  left = before;
  gone = [];
  done = [];
  whole = sym (append-nil before);
  now_is = refl;
  counted = omega arith;
  became = b;
}

pub turned-all : (Became : Kept → Kept → Type 0) (before now : Kept) (turns : ℕ) → IsTurned before now turns Became
    → length before ≤ turns → Became before now
turned-all Became before now turns t h =
    let none : t.left ≡ [] = empty t.left (omega (arith, t.counted)) in
    let old : before ≡ t.gone = t.whole ∙ ap (λ (l : Kept). l ++ t.gone) none in
    let new : now ≡ t.done = t.now_is ∙ ap (λ (l : Kept). t.done ++ l) none ∙ append-nil t.done in
    subst (λ (a : Kept). Became a now) (sym old) (subst (λ (b : Kept). Became t.gone b) (sym new) t.became)
  where
    empty : (l : Kept) → length l ≤ 0 → l ≡ []
    empty [] h = refl
    empty (x ∷ l) h = absurd (omega (arith, h))

-- the entry whose turn it is, and that the turn was one more
pub record IsNext (before now : Kept) (turns : ℕ) (Became : Kept → Kept → Type 0) : Type 0 where
  pub rest : Kept
  pub entry : ℕ × Frames
  pub now_is : now ≡ rest ++ entry ∷ []
  pub turned : (first after : Kept) → after ≡ first ++ rest
      → ((gone done : Kept) → Became gone done → Became (entry ∷ gone) (first ++ done)) → IsTurned before after (turns + 1) Became

pub next-turn : (Became : Kept → Kept → Type 0) (before now : Kept) (turns : ℕ) → IsTurned before now turns Became
    → turns < length before → IsNext before now turns Became
next-turn Became before now turns t h =
    let cut = cut_end t.left (omega (arith, t.counted)) in
    let us : Kept = cut.0 in
    let x : ℕ × Frames = cut.1 in
    record {
      rest = t.done ++ us;
      entry = x;
      now_is = t.now_is ∙ ap (λ (l : Kept). t.done ++ l) cut.2 ∙ sym (append_assoc t.done us (x ∷ []));
      turned = λ first after e step. record {
        left = us;
        gone = x ∷ t.gone;
        done = first ++ t.done;
        whole = t.whole ∙ ap (λ (l : Kept). l ++ t.gone) cut.2 ∙ append_assoc us (x ∷ []) t.gone;
        now_is = e ∙ sym (append_assoc first t.done us);
        counted = omega (arith, t.counted, ap length cut.2, length-append us (x ∷ []));
        became = step t.gone t.done t.became;
      };
    }
