-- Units of background work keep the layout one of the same files and texts.
use Rattle.std.proofs.Common.{◌≡◌, ℕ, zero, suc, ◌<◌, Bool, List, [], ◌∷◌, ◌++◌, length, drop, Option, Some, None, refl, sym, ◌∙◌, subst}
use Rattle.std.proofs.Common.{arith, append_assoc}
use Rattle.std.specs.Option.{option_or}
use Rattle.wu_layout.specs.Layouts.{Text, FileEntry, Part, Job, Layout}
use Rattle.wu_layout.specs.Invariants.{IsSuffixOf, IsUnderWay, JobIsUnderWay, IsLayoutOf}
use Rattle.wu_layout.specs.Steps.{pick, job_of, with_terms_left, unit_of, unit, work}
use Rattle.wu_layout.proofs.Picks.{picked}
use Rattle.wu_layout.proofs.JobEnds.{layout_after_job}

-- the terms left but the first are a suffix too
suffix_less : (all left less : List (List ℕ)) → less ≡ drop 1 left → 0 < length less → IsSuffixOf all left → IsSuffixOf all less
suffix_less all [] less e l s = absurd (omega (arith, s.1.1))
suffix_less all (term ∷ left) less e l s =
    (s.0 ++ term ∷ [], (subst (λ rest. (s.0 ++ term ∷ []) ++ rest ≡ all) (sym e) (append_assoc s.0 (term ∷ []) left ∙ s.1.0), l))

either_under_way : (files : List (ℕ × FileEntry)) (parts : List Part) (o p : Option Job) → JobIsUnderWay files parts o
    → JobIsUnderWay files parts p → JobIsUnderWay files parts (option_or o p)
either_under_way files parts None p a b = b
either_under_way files parts (Some job) p a b = a

module _ (is_file : ℕ → Bool) (text_of : ℕ → Text) where
  after_term : (terms : List (List ℕ)) (job : Job) (layout : Layout) → terms ≡ drop 1 job.terms_left
      → IsUnderWay layout.files layout.parts job → IsLayoutOf is_file text_of layout
      → IsLayoutOf is_file text_of (with_terms_left terms job layout)
  after_term [] job layout e u d = layout_after_job is_file text_of job layout u d
  after_term (term ∷ terms) job layout e u d = record {
    ranges = d.ranges;
    addresses = d.addresses;
    texts = d.texts;
    generations = d.generations;
    work = record {
      number = u.number;
      taken = u.taken;
      terms = suffix_less _ job.terms_left (term ∷ terms) e (omega arith) u.terms;
      was_live = u.was_live;
    };
    blobs = d.blobs;
  }

  after_unit : (o : Option Job) (layout : Layout) → JobIsUnderWay layout.files layout.parts o → IsLayoutOf is_file text_of layout
      → IsLayoutOf is_file text_of (unit_of o layout)
  after_unit None layout u d = d
  after_unit (Some job) layout u d = after_term (drop 1 job.terms_left) job layout refl u d

  -- the job of which a unit does the first term that is left
  pub job_under_way : (layout : Layout) → IsLayoutOf is_file text_of layout → JobIsUnderWay layout.files layout.parts (job_of layout)
  job_under_way layout d =
      either_under_way layout.files layout.parts layout.job (pick layout) d.work
      (picked is_file layout layout.memory d.addresses d.generations.never_rise)

  pub layout_after_unit : (layout : Layout) → IsLayoutOf is_file text_of layout → IsLayoutOf is_file text_of (unit layout)
  layout_after_unit layout d = after_unit (job_of layout) layout (job_under_way layout d) d

  pub layout_after_work : (n : ℕ) (layout : Layout) → IsLayoutOf is_file text_of layout → IsLayoutOf is_file text_of (work n layout)
  layout_after_work zero layout d = d
  layout_after_work (suc n) layout d = layout_after_work n (unit layout) (layout_after_unit layout d)
