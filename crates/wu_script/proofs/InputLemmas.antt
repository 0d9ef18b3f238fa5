-- Lemmas on what is held and used.
use Rattle.std.proofs.Common.{◌≡◌, ℕ, ◌+◌, ◌-◌, ◌≤◌, Bool, List, [], ◌++◌, length, take, drop, slice_range, Option, refl, sym, ap, ◌∙◌}
use Rattle.std.proofs.Common.{append_assoc, append-nil, length-append, subst, arith}
use Rattle.std.proofs.lemmas.List.{drop-take, drop-drop, length-drop, length-take, take-take, take-append-le, take-append-drop}
use Rattle.std.proofs.KnownBytes.{Consumes-trans, Consumes-nil}
use Rattle.wu_script.specs.Holding.{Held, Uses, Follows}

-- the first bytes of a buffer that was filled anew
pub filled : (g r : List ℕ) (len count : ℕ) → count ≤ length g → length g ≤ len → slice_range (take len (g ++ r)) 0 count ≡ take count g
filled g r len count within fits = let same : count - 0
    ≡ count = omega arith in rw same (take-take count len (g ++ r) (omega arith) ∙ take-append-le count g r within)

-- the bytes that are left of a window, some of whose bytes were used
pub window_left : (items : List ℕ) (at' end count : ℕ) → count ≤ length (slice_range items at' end)
    → slice_range items (at' + count) end ≡ drop count (slice_range items at' end)
window_left items at' end count within =
    let rest : (end - at') ≡ count + (end - (at' + count)) = omega (arith, length-take (end - at') (drop at' items)) in
    rw rest (sym (drop-take count (end - (at' + count)) (drop at' items) ∙ ap (take (end - (at' + count))) (drop-drop count at' items)))

-- nothing happened
pub Uses-none : (left : Option (List ℕ)) (held : Held) → Uses left left held held []
Uses-none left held = record
    { given = []; consumed = Consumes-nil left; joined = append-nil held.bytes; counted = omega arith; over = λ ended. (refl, ended); at_end = λ before now. before now }

-- one use after another
pub Uses-trans : (left mid left' : Option (List ℕ)) (old between new : Held) (used more : List ℕ) → Uses left mid old between used
    → Uses mid left' between new more → Uses left left' old new (used ++ more)
Uses-trans left mid left' old between new used more first second = record {
  given = first.given ++ second.given;
  consumed = Consumes-trans left mid left' first.given second.given first.consumed second.consumed;
  joined = sym (append_assoc old.bytes first.given second.given) ∙ ap (λ xs. xs ++ second.given) first.joined
      ∙ append_assoc used between.bytes second.given ∙ ap (λ xs. used ++ xs) second.joined ∙ sym (append_assoc used more new.bytes);
  counted = omega (arith, length-append first.given second.given, first.counted, second.counted);
  over = λ ended.
      let one = first.over ended in
      let two = second.over one.1 in
      (ap (λ xs. xs ++ second.given) one.0 ∙ two.0, two.1);
  at_end = λ before. second.at_end (first.at_end before);
}

-- bytes are used that are held
pub Uses-front : (left : Option (List ℕ)) (old new : Held) (used : List ℕ) → old.bytes ≡ used ++ new.bytes → new.spare ≡ old.spare
    → new.ended ≡ old.ended → Uses left left old new used
Uses-front left old new used front spare ended = record {
  given = [];
  consumed = Consumes-nil left;
  joined = append-nil old.bytes
      ∙ front;
  counted = omega (arith, spare);
  over = λ before. (refl, ended ∙ before);
  at_end = λ before now. before (sym ended ∙ now);
}

-- some uses, and then a filling
pub Uses-filled : (left mid left' : Option (List ℕ)) (old between filled : Held) (used : List ℕ) → Uses left mid old between used
    → Uses mid left' between filled [] → Uses left left' old filled used
Uses-filled left mid left' old between filled used first fill = subst (Uses left left' old filled) (append-nil used)
    (Uses-trans left mid left' old between filled used [] first fill)

-- some uses, a filling, and so many of the first bytes
pub part_taken : (left mid left' : Option (List ℕ)) (old between filled new : Held) (used : List ℕ) (n : ℕ) → Uses left mid old between used
    → Uses mid left' between filled [] → new ≡ record filled { bytes = drop n filled.bytes }
    → Uses left left' old new (used ++ take n filled.bytes)
part_taken left mid left' old between filled new used n first fill rest =
    let bytes : new.bytes ≡ drop n filled.bytes = ap (λ (h : Held). h.bytes) rest in
    let front : filled.bytes ≡ take n filled.bytes
    ++ new.bytes = sym (ap (λ xs. take n filled.bytes ++ xs) bytes ∙ take-append-drop n filled.bytes) in
    let then = Uses-front left' filled new (take n filled.bytes) front (ap (λ (h : Held). h.spare) rest)
    (ap (λ (h : Held). h.ended) rest) in
    Uses-trans left left' left' old filled new used (take n filled.bytes)
    (Uses-filled left mid left' old between filled used first fill) then

-- what is held after that came with the source's last read too
pub part_follows : (ended : Bool) (last_read n : ℕ) (filled new : Held)
    → Follows ended last_read filled → new ≡ record filled { bytes = drop n filled.bytes } → Follows ended last_read new
part_follows ended last_read n filled new follows rest = record {
  going = λ going. follows.going (sym (ap (λ (h : Held). h.ended) rest) ∙ going);
  recent = omega (arith, follows.recent, ap (λ (h : Held). length h.bytes) rest, length-drop n filled.bytes);
}
