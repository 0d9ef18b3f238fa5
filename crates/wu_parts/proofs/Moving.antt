-- Addresses of places and of postings that ascend.
use Rattle.std.proofs.Common.{ℕ, ◌+◌, ◌≤◌, List, [], ◌∷◌, filter, map, arith}
use Rattle.wu_layout.specs.Postings.{Ascend, Posting, addresses_of, is_of}
use Rattle.wu_layout.proofs.PostingLemmas.{Ascend-filter}
use Rattle.wu_lists.specs.Ascending.{AscendBetween}
use Rattle.wu_parts.specs.declared.addressing.Addressing.{Addressing}
use Rattle.wu_parts.specs.Addressing.{IsRising, address_of}
use Rattle.wu_parts.specs.Chains.{moved}
use Rattle.wu_lists.proofs.Ascending.{ascend-lower}
use Rattle.wu_parts.proofs.RisingAddresses.{never_falls, rises}

pub ascend-moved : (addressing : Addressing) (low high : ℕ) (xs : List ℕ) → IsRising addressing → AscendBetween low high xs
    → AscendBetween (address_of addressing low) (address_of addressing high) (moved addressing xs)
ascend-moved addressing low high [] r a = never_falls 0 addressing.start addressing.breaks.items low high r a
ascend-moved addressing low high (x ∷ xs) r a =
    let higher = rises 0 addressing.start addressing.breaks.items x (x + 1) r (omega arith) in
    let next : address_of addressing x + 1 ≤ address_of addressing (x + 1) = omega (arith, higher) in (
      never_falls 0 addressing.start addressing.breaks.items low x r a.0,
      ascend-lower (address_of addressing x + 1) (address_of addressing (x + 1)) (address_of addressing high) (moved addressing xs) next
          (ascend-moved addressing (x + 1) high xs r a.1),
    )

-- those of a term, among postings that ascend
between : (low high : ℕ) (ps : List Posting) → Ascend low high ps → AscendBetween low high (map (λ p. p.address) ps)
between low high [] a = a
between low high (p ∷ ps) a = (a.0, between (p.address + 1) high ps a.1)

pub addresses-ascend : (low high : ℕ) (term : List ℕ) (ps : List Posting) → Ascend low high ps
    → AscendBetween low high (addresses_of term ps)
addresses-ascend low high term ps a = between low high (filter (is_of term) ps) (Ascend-filter (is_of term) low high ps a)
