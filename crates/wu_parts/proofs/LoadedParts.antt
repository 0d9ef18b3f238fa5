-- What is kept of the parts that were opened of loadable records.
use Rattle.std.proofs.Common.{◌≡◌, ℕ, ◌+◌, ◌-◌, ◌<◌, ◌≤◌, List, [], ◌∷◌, length, zero, suc, Option, None, Some, ap, sym, subst, arith}
use Rattle.std.specs.Prelude.{slice_get}
use Rattle.std.specs.List.{AllByRecursion}
use Rattle.wu_base.specs.declared.addresses.PartRec.{PartRec}
use Rattle.wu_base.specs.declared.limits.TheConstants.{ADDRESSES_MAX}
use Rattle.wu_outside.specs.Content.{Content}
use Rattle.wu_outside.specs.declared.ranges.ReadRange.{ReadRange}
use Rattle.wu_layout.specs.Invariants.{NeverRise, flushes_for}
use Rattle.wu_part.specs.Directories.{IsSpelled}
use Rattle.wu_part.specs.Parts.{IsRecorded}
use Rattle.wu_parts.specs.Loading.{AreLoadable, AreOpened, SpansFollow, end_of}
use Rattle.wu_parts.specs.OpenedParts.{ArePartsOpened}
use Rattle.wu_parts.specs.StoredParts.{AreSound, SpansAscend, directories_of, records_of}
use Rattle.wu_parts.specs.Units.{as_parts}
use Rattle.wu_parts.specs.declared.writing.StoredPart.{StoredPart}

-- ---- the end of the last part

end_at : (records : List PartRec) (n : ℕ) (last : PartRec) → n + 1 ≡ length records → slice_get records n ≡ Some last
    → end_of records ≡ last.high + 1
end_at [] n last e s = absurd (omega arith)
end_at (recorded ∷ []) zero last e s = let same : recorded ≡ last = cc in ap (λ (r : PartRec). r.high + 1) same
end_at (recorded ∷ []) (suc n) last e s = absurd (omega arith)
end_at (recorded ∷ next ∷ records) zero last e s = absurd (omega arith)
end_at (recorded ∷ next ∷ records) (suc n) last e s = end_at (next ∷ records) n last (omega arith) s

pub end_of_last : (records : List PartRec) (last : PartRec) → Some last ≡ slice_get records (length records - 1)
    → end_of records ≡ last.high + 1
end_of_last [] last e = absurd (cc)
end_of_last (recorded ∷ records) last e =
    end_at (recorded ∷ records) (length (recorded ∷ records) - 1) last (omega arith) (sym e)

-- ---- what is kept

told : (holds : Option Content) (parts : List StoredPart) (read : List ReadRange)
    → AreOpened holds (records_of parts) (directories_of parts) read
    → AllByRecursion (λ part. IsRecorded part.recorded part.directory) parts
told holds [] read a = tt
told holds (part ∷ parts) read a = (a.2.told, told holds parts a.1 a.4)

spans : (from : ℕ) (part : StoredPart) (parts : List StoredPart) → SpansFollow from (records_of (part ∷ parts))
    → SpansAscend from (end_of (records_of (part ∷ parts))) (part ∷ parts)
spans from part [] s = (s.0, s.1, omega arith)
spans from part (next ∷ parts) s = (s.0, s.1, spans (part.recorded.high + 1) next parts s.2)

spans_from_zero : (parts : List StoredPart) → SpansFollow 0 (records_of parts) → SpansAscend 0 (end_of (records_of parts)) parts
spans_from_zero [] s = omega arith
spans_from_zero (part ∷ parts) s = spans 0 part parts s

end_bounded : (parts : List StoredPart) → AllByRecursion (λ part. IsRecorded part.recorded part.directory) parts
    → AllByRecursion IsSpelled (directories_of parts) → end_of (records_of parts) ≤ ADDRESSES_MAX
end_bounded [] t s = omega arith
end_bounded (part ∷ []) t s = omega (arith, t.0.high, s.0.1.holds.below)
end_bounded (part ∷ next ∷ parts) t s = end_bounded (next ∷ parts) t.1 s.1

module _ (holds : Option Content) (records : List PartRec) (before after : Option (List ReadRange)) (parts : List StoredPart)
    (opened : ArePartsOpened holds records before after parts) where
  its_parts : AreOpened holds (records_of parts) (directories_of parts) opened.read
  its_parts = subst (λ rs. AreOpened holds rs (directories_of parts) opened.read) (sym opened.same) opened.opened

  -- the parts end by the greatest address
  pub loaded-end : end_of records ≤ ADDRESSES_MAX
  loaded-end =
      subst (λ rs. end_of rs ≤ ADDRESSES_MAX) opened.same
      (end_bounded parts (told holds parts opened.read its_parts) opened.spelled)

  pub loaded-sound : (next_blob flushes : ℕ) → AreLoadable records next_blob flushes
      → AreSound (end_of records) next_blob flushes parts None
  loaded-sound next_blob flushes l = record {
    stored = record {
      told = told holds parts opened.read its_parts;
      spans =
          subst (λ rs. SpansAscend 0 (end_of rs) parts) opened.same
          (spans_from_zero parts (subst (SpansFollow 0) (sym opened.same) l.spans));
    };
    below = subst (AllByRecursion (λ recorded. recorded.blob < next_blob)) (sym opened.same) l.below;
    never_rise = subst (λ rs. NeverRise (as_parts rs)) (sym opened.same) l.never_rise;
    flushed = subst (λ rs. flushes_for (as_parts rs) ≤ flushes) (sym opened.same) l.flushed;
    few = l.few;
    job = tt;
  }
