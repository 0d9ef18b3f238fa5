-- A piece that is sent in several writes.
use Rattle.std.proofs.Common.{ℕ, ◌+◌, ◌-◌, List, ◌++◌, length, take, drop, Option, sym, ap, ◌∙◌, subst}
use Rattle.std.proofs.lemmas.List.{take-append-drop, take_rest}
use Rattle.std.proofs.Math.Seq.{take-add}
use Rattle.std.specs.Io.KnownBytes.{Appends}
use Rattle.std.proofs.KnownBytes.{Appends-trans}
use Rattle.wu_outside.specs.Gains.{GainsPrefix}

-- what was sent up to a place, and n bytes of the slice from there on, is what was sent up to the place n further
pub sent_more : (before between now : Option (List ℕ)) (piece : List ℕ) (place n : ℕ) → Appends before between (take place piece)
    → Appends between now (take n (take (length piece - place) (drop place piece))) → Appends before now (take (place + n) piece)
sent_more before between now piece place n first second =
    let joined = ap (λ xs. take place piece ++ take n xs) (take_rest piece place) ∙ sym (take-add place n piece) in
    subst (Appends before now) joined (Appends-trans before between now _ _ first second)

-- what was sent up to a place is a prefix of the piece
pub GainsPrefix-place : (before now : Option (List ℕ)) (piece : List ℕ) (place : ℕ) → Appends before now (take place piece)
    → GainsPrefix before now piece
GainsPrefix-place before now piece place sent = (take place piece, drop place piece, sym (take-append-drop place piece), sent)
