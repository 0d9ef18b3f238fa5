-- What a flush made: a part of the live postings, or none where there are none.
use Rattle.std.proofs.Common.{◌≡◌, ℕ, ◌<◌, List, [], ◌∷◌, ◌++◌, length, sum_by, refl, ap, sym, subst, ◌∙◌, arith, ⊎_elim}
use Rattle.wu_base.specs.declared.addresses.PartRec.{PartRec}
use Rattle.wu_base.specs.declared.addresses.Range.{Range}
use Rattle.wu_base.specs.declared.addresses.TermList.{TermList}
use Rattle.wu_layout.specs.Layouts.{lists_of}
use Rattle.wu_layout.specs.Postings.{Ascend, Posting, live_of}
use Rattle.wu_layout.proofs.ListTotals.{lists_total}
use Rattle.wu_part.specs.Directories.{PartDirectory}
use Rattle.wu_part.specs.Parts.{SpellsPart}
use Rattle.wu_parts.specs.Contents.{Contents, with_part, without_postings}
use Rattle.wu_parts.specs.Flushing.{EmptiesMemory, Flushes, Told}
use Rattle.wu_parts.specs.Memory.{HasPostings}
use Rattle.wu_parts.specs.StoredParts.{AreStored, IsPut}
use Rattle.wu_parts.specs.declared.writing.StoredPart.{StoredPart}
use Rattle.wu_parts.proofs.NewParts.{record_of_postings}
use Rattle.wu_parts.proofs.Spans.{stored-push}

some_postings : (ps : List Posting) (lists : List TermList) → lists ≡ lists_of ps → 0 < length lists → 0 < length ps
some_postings [] lists e l = absurd (omega (arith, ap length e))
some_postings (p ∷ ps) lists e l = omega arith

no_postings_left : (p : Posting) (ps : List Posting) → lists_of (p ∷ ps) ≡ [] → ⊥
no_postings_left p ps e =
    absurd (omega (arith, lists_total (p ∷ ps), ap (λ (ls : List TermList). sum_by (λ (list : TermList). length list.at) ls) e))

module _ (old new : Contents) (before after : Told) where
  -- no posting is live
  pub flushes-none : (ps : List Posting) (lists : List TermList) → lists ≡ lists_of ps → lists ≡ [] → new ≡ without_postings old
      → after ≡ before → Flushes ps old new before after
  flushes-none [] lists e n w s = (w, s)
  flushes-none (p ∷ ps) lists e n w s = absurd (no_postings_left p ps (sym e ∙ n))

  -- some are
  pub flushes-part : (low high : ℕ) (ps : List Posting) (lists : List TermList) (recorded : PartRec) (directory : PartDirectory)
      → Ascend low high ps → lists ≡ lists_of ps → 0 < length lists → IsPut lists old.next_blob recorded directory before after
      → new ≡ with_part recorded directory old → Flushes ps old new before after
  flushes-part low high [] lists recorded directory u e l p w = absurd (omega (arith, ap length e))
  flushes-part low high (posting ∷ ps) lists recorded directory u e l p w =
      let spelled : SpellsPart directory (lists_of (posting ∷ ps)) p.bytes =
      subst (λ (ls : List TermList). SpellsPart directory ls p.bytes) e p.spelled in
      record {
        recorded = recorded;
        directory = directory;
        bytes = p.bytes;
        record_of =
            record_of_postings low high old.next_blob recorded directory (posting ∷ ps) p.bytes (omega arith) u spelled p.new p.blob_of
            p.told;
        told = p.told;
        spelled = spelled;
        contents = w;
        stored = p.stored;
      }

-- there is no list where no posting is live
pub none_made : (old fields : Contents) (ranges : List Range) (lists : List TermList) → fields ≡ old → 0 < length lists
    → ((low high : ℕ) (ps : List Posting) → HasPostings low high fields.memory ps → lists ≡ lists_of (live_of ranges ps))
    → (low high : ℕ) (ps : List Posting) → HasPostings low high old.memory ps → live_of ranges ps ≡ [] → ⊥
none_made old fields ranges lists e l made low high ps h none =
    let is : lists ≡ lists_of (live_of ranges ps) =
    made low high ps (subst (λ (k : Contents). HasPostings low high k.memory ps) (sym e) h) in
    omega (arith, some_postings (live_of ranges ps) lists is l, ap length none)

-- what is kept of the parts, with the new one
pub stored_after : (low high blob : ℕ) (parts : List StoredPart) (part : StoredPart) (ps : List Posting) (lists : List TermList)
    (before after : Told) → AreStored low parts → Ascend low high ps → lists ≡ lists_of ps → 0 < length lists
    → IsPut lists blob part.recorded part.directory before after → AreStored high (parts ++ part ∷ [])
stored_after low high blob parts part ps lists before after a u e l p =
    stored-push low high parts part ps p.bytes a (some_postings ps lists e l) u
    (subst (λ (ls : List TermList). SpellsPart part.directory ls p.bytes) e p.spelled) p.told

pub none_of_length : (lists : List TermList) → length lists ≡ 0 → lists ≡ []
none_of_length [] e = refl
none_of_length (list ∷ lists) e = absurd (omega (arith, e))

-- ---- what callers need

-- the end stays, and so does what isn't of memory or of the new part
pub end_after_flush : (old new : Contents) → EmptiesMemory old new → new.memory.end ≡ old.memory.end
end_after_flush old new e =
    ⊎_elim
    (λ (w : new ≡ without_postings old). ap (λ (k : Contents). k.memory.end) w)
    (λ made. ap (λ (k : Contents). k.memory.end) made.2)
    e
