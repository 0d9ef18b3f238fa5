-- Lemmas on reading that ended early.
use Rattle.std.proofs.Common.{◌≡◌, ℕ, ◌+◌, ◌-◌, ◌<◌, ◌≤◌, Bool, true, false, List, [], ◌++◌, length, take, Option, Result, Ok, Err, IfErr}
use Rattle.std.proofs.Common.{IsErrAnd}
use Rattle.std.proofs.Common.{refl, ap, sym, ◌∙◌, subst, append_assoc, append-nil, length-append, ◌⊎◌, inl, inr, arith}
use Rattle.std.proofs.Math.Seq.{take-append-add, take-length, take-nil}
use Rattle.std.proofs.lemmas.List.{take-append-le}
use Rattle.std.specs.Prelude.{nat_lt}
use Rattle.std.proofs.lemmas.Bool.{ltb-true, ltb-false}
use Rattle.std.specs.Io.KnownBytes.{Consumes, Keeps}
use Rattle.std.proofs.KnownBytes.{Consumes-nil, Consumes-trans, Consumes-kept}
use Rattle.wu_script.specs.declared.ends.ReadEnd.{ReadEnd}
use Rattle.wu_script.specs.declared.ends.ReadEnd.TheVariants.{ReadFault, InputTooLong, NoMemory}
use Rattle.wu_script.proofs.InputLemmas.{Uses-filled}
use Rattle.wu_script.specs.Holding.{Held, Uses, GivesTooMuch, EndsEarly, IsCounted, HasReadCause, IsGiven, settled, but_last}

-- the source failed while no byte was held
pub EndsEarly-fault : (left left' : Option (List ℕ)) (last_read : ℕ) (held : Held) → held.bytes ≡ [] → (held.ended ≡ true → ⊥)
    → Keeps left left' → EndsEarly (λ bytes. bytes ≡ []) left left' last_read held ReadFault
EndsEarly-fault left left' last_read held none going keeps = record {
  given = [];
  consumed = Consumes-kept left left left' [] (Consumes-nil left) keeps;
  counted = omega arith;
  alone = λ e. cc (e);
  over = λ ended. absurd (going ended);
  short = append-nil held.bytes ∙ none;
}

-- the source gave a byte that it may not, while no byte was held
pub EndsEarly-long : (left left' : Option (List ℕ)) (last_read : ℕ) (held : Held) (given : List ℕ) → held.bytes ≡ []
    → (held.ended ≡ true → ⊥) → held.spare ≡ 0 → length given ≡ 1 → last_read ≡ 1 → Consumes left left' given
    → EndsEarly (λ bytes. bytes ≡ []) left left' last_read held InputTooLong
EndsEarly-long left left' last_read held given none going full one alone consumed = record {
  given = given;
  consumed = consumed;
  counted = omega (arith, full, one);
  alone = λ e. alone;
  over = λ ended. absurd (going ended);
  short = rw (none, full) refl;
}

-- nothing was given, and there was no memory
pub EndsEarly-memory : (left : Option (List ℕ)) (last_read : ℕ) (held : Held) → length held.bytes ≤ last_read
    → EndsEarly (λ bytes. bytes ≡ []) left left last_read held NoMemory
EndsEarly-memory left last_read held few = record {
  given = [];
  consumed = Consumes-nil left;
  counted = omega arith;
  alone = λ e. cc (e);
  over = λ ended. (refl, refl);
  short = none (omega (arith, length-append held.bytes []));
}
  where
    none : length (held.bytes ++ []) - last_read ≡ 0 → but_last last_read (held.bytes ++ []) ≡ []
    none is = rw is refl

-- what ended early short of one thing ended early short of another
pub EndsEarly-also : (IsShort IsShorter : List ℕ → Type 0) (left left' : Option (List ℕ)) (last_read : ℕ) (old : Held) (end : ReadEnd)
    → ((bytes : List ℕ) → IsShorter bytes → IsShort bytes) → EndsEarly IsShorter left left' last_read old end
    → EndsEarly IsShort left left' last_read old end
EndsEarly-also IsShort IsShorter left left' last_read old end also stops = record {
  given = stops.given;
  consumed = stops.consumed;
  counted = stops.counted;
  alone = stops.alone;
  over = stops.over;
  short = also _ stops.short;
}

given_after : (end : ReadEnd) (spare later first more : ℕ) → later + first ≡ spare → IsGiven end later more
    → IsGiven end spare (first + more)
given_after ReadFault spare later first more counted is = omega arith
given_after InputTooLong spare later first more counted is = omega arith
given_after NoMemory spare later first more counted is = omega arith

joined_after : (old first used new more : List ℕ) → old ++ first ≡ used ++ new → old ++ (first ++ more) ≡ used ++ (new ++ more)
joined_after old first used new more joined = sym (append_assoc old first more) ∙ ap (λ bs. bs ++ more) joined ∙ append_assoc used new more

-- the last bytes are taken from what follows the used ones, or reach into these
but_last_after : (count : ℕ) (used rest : List ℕ)
    → (but_last count (used ++ rest) ≡ used ++ but_last count rest) ⊎ ((n : ℕ) × (but_last count (used ++ rest) ≡ take n used))
but_last_after count used rest = by_size (nat_lt (length rest) count) refl
  where
    by_size : (less : Bool) → nat_lt (length rest) count ≡ less
        → (but_last count (used ++ rest) ≡ used ++ but_last count rest) ⊎ ((n : ℕ) × (but_last count (used ++ rest) ≡ take n used))
    by_size false is =
        let enough : count ≤ length rest = ltb-false (length rest) count is in
        let size : length (used ++ rest) - count ≡ length used + (length rest - count) = omega (arith, length-append used rest) in
        inl (ap (λ n. take n (used ++ rest)) size ∙ take-append-add used rest (length rest - count))
    by_size true is =
        let less : length rest < count = ltb-true (length rest) count is in
        inr (
          length (used ++ rest) - count,
          take-append-le (length (used ++ rest) - count) used rest
              (omega (arith, length-append used rest)),
        )

-- what is settled after some uses: the used bytes and what is settled after them, or a prefix of the used ones
settled_after : (end : ReadEnd) (last_read : ℕ) (old between : Held) (first used more : List ℕ) → old.bytes ++ first ≡ used ++ between.bytes
    → between.spare + length first ≡ old.spare
    → (settled end last_read old (first ++ more) ≡ used ++ settled end last_read between more) ⊎
    ((n : ℕ) × (settled end last_read old (first ++ more) ≡ take n used))
settled_after ReadFault last_read old between first used more joined counted = inl
    (joined_after old.bytes first used between.bytes more joined)
settled_after InputTooLong last_read old between first used more joined counted =
    let spare : old.spare ≡ length first + between.spare = omega arith in
    inl (ap (λ n. old.bytes ++ take n (first ++ more)) spare ∙ ap (λ bs. old.bytes ++ bs) (take-append-add first more between.spare)
    ∙ joined_after old.bytes first used between.bytes (take between.spare more) joined)
settled_after NoMemory last_read old between first used more joined counted =
    subst (λ (bs : List ℕ). (but_last last_read bs ≡ used ++ but_last last_read (between.bytes ++ more)) ⊎
    ((n : ℕ) × (but_last last_read bs ≡ take n used))) (sym (joined_after old.bytes first used between.bytes more joined))
    (but_last_after last_read used (between.bytes ++ more))

nothing_settled : (end : ReadEnd) (last_read : ℕ) (held : Held) (given : List ℕ) → held.bytes ≡ [] → given ≡ []
    → settled end last_read held given ≡ []
nothing_settled ReadFault last_read held given none over = rw (none, over) refl
nothing_settled InputTooLong last_read held given none over = rw (none, over) (take-nil held.spare)
nothing_settled NoMemory last_read held given none over = rw (none, over) (take-nil (0 - last_read))

-- reading that ended early after some uses: each prefix of the used bytes is short, and so are the used bytes with what is settled after them
pub EndsEarly-after : (IsShort IsLater : List ℕ → Type 0) (left mid left' : Option (List ℕ)) (last_read : ℕ) (old between : Held)
    (end : ReadEnd) (used : List ℕ) → Uses left mid old between used → ((n : ℕ) → IsShort (take n used))
    → ((bytes : List ℕ) → (between.bytes ≡ [] → between.ended ≡ true → bytes ≡ []) → IsLater bytes → IsShort (used ++ bytes))
    → EndsEarly IsLater mid left' last_read between end → EndsEarly IsShort left left' last_read old end
EndsEarly-after IsShort IsLater left mid left' last_read old between end used first front more stops = record {
  given = first.given ++ stops.given;
  consumed = Consumes-trans left mid left' first.given stops.given first.consumed stops.consumed;
  counted = subst (IsGiven end old.spare) (sym (length-append first.given stops.given))
      (given_after end old.spare between.spare (length first.given) (length stops.given) first.counted stops.counted);
  alone = stops.alone;
  over = λ ended.
      let before = first.over ended in
      let later = stops.over before.1 in
      (rw (before.0, later.0) refl, later.1);
  short = by_case (settled_after end last_read old between first.given used stops.given first.joined first.counted);
}
  where
    by_case : (settled end last_read old (first.given ++ stops.given) ≡ used ++ settled end last_read between stops.given) ⊎
        ((n : ℕ) × (settled end last_read old (first.given ++ stops.given) ≡ take n used))
        → IsShort (settled end last_read old (first.given ++ stops.given))
    by_case (inl whole) = subst IsShort (sym whole)
        (more (settled end last_read between stops.given)
        (λ none ended. nothing_settled end last_read between stops.given none (stops.over ended).0) stops.short)
    by_case (inr part) = subst IsShort (sym part.1) (front part.0)

-- an error that was made of another
pub if_end : {T : Type 0} (P : ReadEnd → Type 0) (end : ReadEnd) (r : Result T ReadEnd) → IsErrAnd r (λ e. e ≡ end) → P end → IfErr r P
if_end P end (Ok value) is holds = absurd is
if_end P end (Err e) is holds = subst P (sym is) holds

-- bytes were used, each of whose prefixes is short
pub record UsesShort (IsShort : List ℕ → Type 0) (left mid : Option (List ℕ)) (old between : Held) (used : List ℕ) : Type 0 where
  pub uses : Uses left mid old between used
  pub front : (n : ℕ) → IsShort (take n used)

-- reading that ended early where no byte was held after such bytes
pub EndsEarly-filling : (IsShort : List ℕ → Type 0) (left mid left' : Option (List ℕ)) (last_read : ℕ) (old between : Held)
    (end : ReadEnd) (used : List ℕ) → UsesShort IsShort left mid old between used
    → EndsEarly (λ bytes. bytes ≡ []) mid left' last_read between end → EndsEarly IsShort left left' last_read old end
EndsEarly-filling IsShort left mid left' last_read old between end used so_far stops =
    let all : IsShort (used ++ []) = subst IsShort (take-length used ∙ sym (append-nil used)) (so_far.front (length used)) in
    EndsEarly-after IsShort (λ bytes. bytes ≡ []) left mid left' last_read old between end used so_far.uses so_far.front
    (λ more _ none. subst (λ (bs : List ℕ). IsShort (used ++ bs)) (sym none) all) stops

-- the same where some were held after a filling, and there was no memory
pub EndsEarly-filled : {T : Type 0} (IsShort : List ℕ → Type 0) (left mid left' : Option (List ℕ)) (last_read : ℕ)
    (old between filled : Held) (used : List ℕ) → UsesShort IsShort left mid old between used → Uses mid left' between filled []
    → length filled.bytes ≤ last_read → (r : Result T ReadEnd) → IsErrAnd r (λ e. e ≡ NoMemory)
    → IfErr r (EndsEarly IsShort left left' last_read old)
EndsEarly-filled IsShort left mid left' last_read old between filled used so_far fill few r is =
    if_end (EndsEarly IsShort left left' last_read old) NoMemory r is
    (EndsEarly-filling IsShort left left' left' last_read old filled NoMemory used
    (record { uses = Uses-filled left mid left' old between filled used so_far.uses fill; front = so_far.front })
    (EndsEarly-memory left' last_read filled few))

-- the source gave one byte too many
pub EndsEarly-too_long : (IsShort : List ℕ → Type 0) (left left' : Option (List ℕ)) (last_read : ℕ) (old : Held) (end : ReadEnd)
    → EndsEarly IsShort left left' last_read old end → end ≡ InputTooLong → GivesTooMuch left left' last_read old
EndsEarly-too_long IsShort left left' last_read old ReadFault stops is = cc (is)
EndsEarly-too_long IsShort left left' last_read old InputTooLong stops is = record
    { given = stops.given; consumed = stops.consumed; counted = stops.counted; alone = stops.alone is }
EndsEarly-too_long IsShort left left' last_read old NoMemory stops is = cc (is)

-- the bytes after the first of the used ones count as held
pub Uses-first_of : (left left' : Option (List ℕ)) (old new : Held) (first after : List ℕ) → Uses left left' old new (first ++ after)
    → Uses left left' old (record new { bytes = after ++ new.bytes }) first
Uses-first_of left left' old new first after uses = record {
  given = uses.given;
  consumed = uses.consumed;
  joined = uses.joined ∙ append_assoc first after new.bytes;
  counted = uses.counted;
  over = uses.over;
  at_end = uses.at_end;
}

-- the count of faults, where one was counted before
pub IsCounted-after : (end : ReadEnd) (before mid now : ℕ) → mid ≡ before → IsCounted end mid now → IsCounted end before now
IsCounted-after end before mid now same is = subst (λ n. IsCounted end n now) same is

pub cause_of : {T : Type 0} (end : ReadEnd) (before mid now : ℕ) (r : Result T ReadEnd)
    → IsErrAnd r (λ e. e ≡ end) → mid ≡ before → IsCounted end mid now → HasReadCause before now r
cause_of end before mid now (Ok value) is same counted = absurd is
cause_of end before mid now (Err e) is same counted = rw is (IsCounted-after end before mid now same counted)
