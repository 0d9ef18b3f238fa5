-- Lemmas on the header's bytes.
use Rattle.std.proofs.Common.{◌≡◌, ℕ, ◌+◌, ◌^◌, ◌<◌, List, [], ◌∷◌, ◌++◌, length, get_or, take, drop, refl, ap, sym, ◌∙◌, true, arith}
use Rattle.std.specs.Prelude.{codes, nat_eq}
use Rattle.std.specs.List.{starts_with}
use Rattle.std.specs.Int.{w64, from_be_bytes, to_be_bytes}
use Rattle.std.specs.Cmp.Lexicographic.{same_text}
use Rattle.std.proofs.lemmas.List.{drop_more, take-append-drop, at_drop_all, get_or-drop}
use Rattle.std.proofs.lemmas.Nat.{be_bytes_8}
use Rattle.wu_part.specs.Headers.{SpellsHeader}

-- the last eight of sixteen bytes
last_eight : (bytes : List ℕ) → length bytes ≡ 16
    → drop 8 bytes ≡ get_or bytes 8 0 ∷ get_or bytes 9 0 ∷ get_or bytes 10 0 ∷ get_or bytes 11 0 ∷ get_or bytes 12 0 ∷ get_or bytes 13 0
    ∷ get_or bytes 14 0 ∷ get_or bytes 15 0 ∷ []
last_eight bytes e =
    rw (
      drop_more bytes 8 0 (omega arith),
      drop_more bytes 9 0 (omega arith),
      drop_more bytes 10 0 (omega arith),
      drop_more bytes 11 0 (omega arith),
      drop_more bytes 12 0 (omega arith),
      drop_more bytes 13 0 (omega arith),
      drop_more bytes 14 0 (omega arith),
      drop_more bytes 15 0 (omega arith),
      at_drop_all (λ left. left) bytes 16 (omega arith),
    )

pub header_read : (bytes : List ℕ) (n : ℕ) → length bytes ≡ 16 → ((i : ℕ) → get_or bytes i 0 < 256)
    → true ≡ starts_with nat_eq bytes (codes "WUMPUSP1")
    → n ≡ from_be_bytes w64 (get_or bytes 8 0 ∷ get_or bytes 9 0 ∷ get_or bytes 10 0 ∷ get_or bytes 11 0 ∷ get_or bytes 12 0 ∷ get_or
    bytes 13 0
    ∷ get_or bytes 14 0 ∷ get_or bytes 15 0 ∷ [])
    → n < 2 ^ 64 → SpellsHeader n bytes
header_read bytes n e small mark is fits =
    let front : codes "WUMPUSP1" ≡ take 8 bytes = same_text (codes "WUMPUSP1") (take 8 bytes) mark in
    let last = last_eight bytes e in
    let spelled : to_be_bytes w64 n ≡ drop 8 bytes =
    be_bytes_8 (drop 8 bytes) n (rw last refl) (λ i. rw (get_or-drop 8 bytes i 0) (small (8 + i))) (rw last is) in
    record {
      fits = fits;
      spelled = sym (take-append-drop 8 bytes) ∙ (ap (λ x. x ++ drop 8 bytes) (sym front) ∙ ap (λ x. codes "WUMPUSP1" ++ x) (sym spelled));
    }
