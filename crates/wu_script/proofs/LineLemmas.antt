-- Lemmas on lines and their pieces.
use Rattle.std.proofs.Common.{not, ◌≡◌, ℕ, zero, suc, ◌+◌, ◌<◌, ◌≤◌, Bool, true, false, eqb, List, [], ◌∷◌, ◌++◌, length, get_or, Option}
use Rattle.std.proofs.Common.{Some, None}
use Rattle.std.proofs.Common.{MatchOption, refl, ap, sym, ◌∙◌, subst, append_assoc, append-nil, length-append, arith}
use Rattle.std.specs.List.{list_any}
use Rattle.std.proofs.lemmas.Bool.{eqb-true, false_from_ne_true}
use Rattle.std.proofs.lemmas.List.{nil_from_length}
use Rattle.std.proofs.lemmas.List.Elements.{All-from_get_or}
use Rattle.std.proofs.lemmas.List.Folds.{list_any-append, list_any_none}
use Rattle.bstr.specs.Find.{IsFirstByte, is_byte}
use Rattle.wu_script.specs.Holding.{Held, Uses, Follows, EndsAt}
use Rattle.wu_script.specs.Taking.{closing, Kept, IsOneLine, IsFirstFeed, TakesPiece}
use Rattle.wu_script.proofs.InputLemmas.{Uses-trans, Uses-front}

none_feed : (bytes : List ℕ) → ((i : ℕ) → 0 ≤ i → i < length bytes → ¬ (eqb (get_or bytes i 0) 10 ≡ true)) → IsOneLine bytes
none_feed bytes none = list_any_none (λ byte. eqb byte 10) bytes
    (All-from_get_or (λ x. eqb x 10 ≡ false) bytes 0 (λ i within. false_from_ne_true _ (none i (omega arith) within)))

first_feed : (bytes : List ℕ) (k : ℕ) → k < length bytes → ((i : ℕ) → 0 ≤ i → i < k → ¬ (eqb (get_or bytes i 0) 10 ≡ true))
    → eqb (get_or bytes k 0) 10 ≡ true → IsFirstFeed bytes k
first_feed [] k within none is = absurd (omega arith)
first_feed (byte ∷ bytes) zero within none is = record { within = within; parts = ap (λ b. b ∷ bytes) (eqb-true byte 10 is); one = refl }
first_feed (byte ∷ bytes) (suc k) within none is =
    let rest = first_feed bytes k (omega arith) (λ i low high. none (suc i) (omega arith) (omega arith)) is in
    record {
      within = within;
      parts = let next : suc k + 1 ≡ suc (k + 1) = omega arith in rw next (ap (λ bs. byte ∷ bs) rest.parts);
      one = rw (false_from_ne_true (eqb byte 10) (none 0 (omega arith) (omega arith))) rest.one;
    }

-- where memchr finds the first LF
pub feed_found : (bytes : List ℕ) (r : Option ℕ) → IsFirstByte (is_byte 10) bytes r → MatchOption r (IsOneLine bytes) (IsFirstFeed bytes)
feed_found bytes None none = none_feed bytes none
feed_found bytes (Some k) found = first_feed bytes k found.0.high found.0.before found.1

-- two pieces of one line
pub one_line : (text piece : List ℕ) → IsOneLine text → IsOneLine piece → IsOneLine (text ++ piece)
one_line text piece first second = list_any-append (λ byte. eqb byte 10) text piece ∙ rw (first, second) refl

-- a piece after the pieces so far
pub piece_taken : (left mid left' : Option (List ℕ)) (old between filled new : Held) (text piece : List ℕ) (closed : Bool)
    → Uses left mid old between text → Uses mid left' between filled [] → TakesPiece filled new closed piece
    → Uses left left' old new (text ++ piece ++ closing closed)
piece_taken left mid left' old between filled new text piece closed first fill taken =
    let held = Uses-trans left mid left' old between filled text [] first fill in
    let then = Uses-front left' filled new (piece ++ closing closed) taken.bytes taken.spare taken.ended in
    let joined : (text ++ []) ++ (piece ++ closing closed) ≡ (text ++ piece)
    ++ closing closed = ap (λ t. t ++ (piece ++ closing closed)) (append-nil text) ∙ sym (append_assoc text piece (closing closed)) in
    subst (Uses left left' old new) joined (Uses-trans left left' left' old filled new (text ++ []) (piece ++ closing closed) held then)

-- what is held after a piece came with the source's last read too
pub piece_follows : (ended : Bool) (last_read : ℕ) (filled new : Held) (closed : Bool) (piece : List ℕ)
    → Follows ended last_read filled → TakesPiece filled new closed piece → Follows ended last_read new
piece_follows ended last_read filled new closed piece follows taken = record {
  going = λ going. follows.going (sym taken.ended ∙ going);
  recent = omega (arith, follows.recent, ap length taken.bytes, length-append (piece ++ closing closed) new.bytes);
}

pub piece_ends : (ended : Bool) (last_read : ℕ) (filled new : Held) (closed : Bool) (piece : List ℕ)
    → Follows ended last_read filled → TakesPiece filled new closed piece → closed ≡ true → EndsAt closed last_read new
piece_ends ended last_read filled new false piece follows taken is = cc (is)
piece_ends ended last_read filled new true piece follows taken is = record {
  feed = λ _. omega
      (arith, follows.recent, ap length taken.bytes, length-append (piece ++ 10 ∷ []) new.bytes, length-append piece (10 ∷ []));
  end = λ unclosed. cc (unclosed);
}

-- a piece that no LF closed
pub piece_open : (left left' : Option (List ℕ)) (old new : Held) (text : List ℕ) (closed : Bool) → closed ≡ false
    → Uses left left' old new (text ++ closing closed) → Uses left left' old new text
piece_open left left' old new text true unclosed uses = cc
piece_open left left' old new text false unclosed uses = subst (Uses left left' old new) (append-nil text) uses

-- where an LF is held, a piece is closed
pub piece_closed : (old new : Held) (closed : Bool) (piece : List ℕ) → TakesPiece old new closed piece → closed ≡ false
    → list_any (λ byte. eqb byte 10) old.bytes ≡ false
piece_closed old new true piece taken unclosed = cc
piece_closed old new false piece taken unclosed = rw (taken.bytes, taken.all unclosed, append-nil, append-nil) taken.one

-- where an LF is held, a byte is
pub feed_held : (held old : Held) → held ≡ old → list_any (λ byte. eqb byte 10) old.bytes ≡ true → 0 < length held.bytes
feed_held held old same feed = some_byte held.bytes (ap (λ (h : Held). list_any (λ byte. eqb byte 10) h.bytes) same ∙ feed)
  where
    some_byte : (bytes : List ℕ) → list_any (λ byte. eqb byte 10) bytes ≡ true → 0 < length bytes
    some_byte [] feed = cc
    some_byte (byte ∷ bytes) feed = omega arith

-- a piece that no LF closed isn't the first where an LF was held
pub no_feed_held : (filled between old new : Held) (closed : Bool) (piece : List ℕ) → filled ≡ between → between ≡ old
    → TakesPiece filled new closed piece → closed ≡ false → list_any (λ byte. eqb byte 10) old.bytes ≡ true → ⊥
no_feed_held filled between old new closed piece first second taken unclosed feed =
    let none = piece_closed filled new closed piece taken unclosed in
    let some : list_any (λ byte. eqb byte 10) filled.bytes
    ≡ true = ap (λ (h : Held). list_any (λ byte. eqb byte 10) h.bytes) (first ∙ second) ∙ feed in
    cc (none, some)

-- what is kept of a line
pub kept_whole : (limit : ℕ) (text kept : List ℕ) (whole : Bool) → Kept limit text whole kept → not whole ≡ false → kept ≡ text
kept_whole limit text kept true is e = is.1
kept_whole limit text kept false is e = cc (e)

pub kept_long : (limit : ℕ) (text kept : List ℕ) (whole : Bool) → Kept limit text whole kept → not whole ≡ true → limit < length text
kept_long limit text kept true is e = cc (e)
kept_long limit text kept false is e = is.0

-- nothing is used where nothing is held and the source gave its end
pub nothing_used : (left left' : Option (List ℕ)) (old new : Held) (used : List ℕ) → Uses left left' old new used
    → (old.bytes ≡ []) × (old.ended ≡ true) → used ≡ []
nothing_used left left' old new used uses none =
    let given = (uses.over none.1).0 in
    let whole : used ++ new.bytes ≡ [] = sym uses.joined ∙ ap (λ xs. xs ++ uses.given) none.0 ∙ given in
    nil_from_length used (omega (arith, length-append used new.bytes, ap length whole))
