-- Several units of work on the parts are as many of the layout's; and where no work is left, there are few parts.
use Rattle.std.proofs.Common.{◌≡◌, ℕ, zero, suc, ◌+◌, ◌-◌, ◌*◌, ◌^◌, ◌<◌, ◌≤◌, ◌&&◌, not, Bool, true, false, List, [], ◌∷◌, length, Option}
use Rattle.std.proofs.Common.{Some, None, is_some, position, zip, refl, ap, ap₂, sym, ◌∙◌, subst, arith, ⊎_elim}
use Rattle.std.specs.Option.{option_or}
use Rattle.std.proofs.lemmas.Bool.{cases_lt, leb-false}
use Rattle.wu_base.specs.declared.addresses.PartRec.{PartRec}
use Rattle.wu_base.proofs.EachLemmas.{each-map}
use Rattle.wu_base.proofs.Options.{mapped_none, mapped_some}
use Rattle.wu_base.proofs.Positions.{none_passes}
use Rattle.wu_layout.proofs.FewParts.{fall, few, neither, none_of_idle}
use Rattle.wu_outside.specs.Content.{Content}
use Rattle.wu_outside.specs.declared.ranges.ReadRange.{ReadRange}
use Rattle.wu_layout.specs.Layouts.{Job, Layout, Part, Text, ranges_by_number}
use Rattle.wu_layout.specs.Invariants.{Fall, IsLayoutOf, NeverRise, SomeOf, flushes_for}
use Rattle.wu_layout.specs.Steps.{alike_neighbours, is_idle as is_idle_in, job_at, job_of, pick, unit, unit_of, work}
use Rattle.wu_layout.proofs.Garbage.{files_after_work}
use Rattle.wu_layout.proofs.Units.{layout_after_work}
use Rattle.wu_part.specs.Directories.{PartDirectory}
use Rattle.wu_space.specs.Addresses.{Ranges, live_in}
use Rattle.wu_part.specs.Parts.{IsNoPart}
use Rattle.wu_parts.specs.Contents.{Contents, JobAt}
use Rattle.wu_parts.specs.Flushing.{Told}
use Rattle.wu_parts.specs.Holdings.{HoldParts}
use Rattle.wu_parts.specs.Units.{DoUnits, DoesUnit, as_parts, count_of, is_half_dead, next_job, place_of}
use Rattle.wu_parts.specs.Working.{AreFew, DoesWork, IsDamaged, Tells, TellsJobs, TellsParts, is_idle}
use Rattle.wu_parts.proofs.LayoutUnits.{tells_after_unit}
use Rattle.wu_parts.proofs.Policy.{picked_is}
use Rattle.wu_parts.proofs.UnitChains.{IsBrokenIn, IsRightJob, broken_parts}

-- ---- units of the layout

work_more : (n : ℕ) (layout : Layout) → work (suc n) layout ≡ unit (work n layout)
work_more zero layout = refl
work_more (suc n) layout = work_more n (unit layout)

unit_idle : (layout : Layout) → is_idle_in layout ≡ true → unit layout ≡ layout
unit_idle layout e = ap (λ (o : Option Job). unit_of o layout) (none_of_idle (job_of layout) e)

-- where there is no more to do, more units change nothing
pub work_idle : (n k : ℕ) (layout : Layout) → is_idle_in (work n layout) ≡ true → work (k + n) layout ≡ work n layout
work_idle n zero layout e = let same : 0 + n ≡ n = omega arith in ap (λ (m : ℕ). work m layout) same
work_idle n (suc k) layout e =
    let rest : work (k + n) layout ≡ work n layout = work_idle n k layout e in
    let more : suc k + n ≡ suc (k + n) = omega arith in
    ap (λ (m : ℕ). work m layout) more
    ∙ work_more (k + n) layout
    ∙ ap unit rest
    ∙ unit_idle (work n layout) e

module _ (is_file : ℕ → Bool) (text_of : ℕ → Text) (layout : Layout) (d : IsLayoutOf is_file text_of layout) where
  told_there : (o : Option Content) (contents : Contents) (l : Layout) → Tells o contents l
      → (content : Content) × ((o ≡ Some content) × TellsParts content contents l)
  told_there None contents l t = absurd t
  told_there (Some content) contents l t = (content, (refl, t))

  pub tells_work : (n : ℕ) (old new : Contents) (before after : Told) (read : List ReadRange)
      → DoUnits (ranges_by_number layout.files) n old new before after read → Tells before.0 old layout → Tells after.0 new (work n layout)
  tells_work zero old new before after read u t =
      subst (λ c. Tells after.0 c layout) (sym u.0) (subst (λ o. Tells o old layout) (sym (ap (λ (x : Told). x.0) u.1.0)) t)
  tells_work (suc n) old new before after read u t =
      let earlier = told_there u.1.0 u.0 (work n layout) (tells_work n old u.0 before u.1 u.2 u.4 t) in
      let files : ranges_by_number layout.files ≡ ranges_by_number (work n layout).files =
      ap ranges_by_number (sym (files_after_work n layout)) in
      subst (λ l. Tells after.0 new l) (sym (work_more n layout))
      (tells_after_unit is_file text_of (work n layout) earlier.0 u.0 (layout_after_work is_file text_of n layout d) earlier.1.1 new u.1
      after u.3 earlier.1.0 (subst (λ ranges. DoesUnit ranges u.0 new u.1 after u.3) files u.5))

-- ---- whether there is more to do

same_some : (content : Content) (parts : List Part) (o : Option JobAt) (p : Option Job) → TellsJobs content parts o p
    → is_some o ≡ is_some p
same_some content parts None None t = refl
same_some content parts None (Some job) t = absurd t
same_some content parts (Some running) None t = absurd t
same_some content parts (Some running) (Some job) t = refl

either_idle : (o p : Option Job) → not (is_some (option_or o p)) ≡ (not (is_some o) && not (is_some p))
either_idle None p = refl
either_idle (Some job) p = refl

pub idle_alike : (is_file : ℕ → Bool) (text_of : ℕ → Text) (layout : Layout) (content : Content) (contents : Contents)
    → IsLayoutOf is_file text_of layout → TellsParts content contents layout
    → is_idle (ranges_by_number layout.files) contents ≡ is_idle_in layout
idle_alike is_file text_of layout content contents d t =
    let ranges : Ranges = ranges_by_number layout.files in
    let named : is_some (next_job ranges contents.parts) ≡ is_some (pick layout) =
    sym (ap is_some (picked_is is_file text_of layout content d contents.parts contents.directories t.parts)
    ∙ mapped_some (λ next. job_at layout (count_of next) (place_of next)) (next_job ranges contents.parts)) in
    ap₂ (λ (a b : Bool). not a && not b) (same_some content layout.parts contents.job layout.job t.job) named
    ∙ sym (either_idle layout.job (pick layout))

pub idle_tells : (is_file : ℕ → Bool) (text_of : ℕ → Text) (layout : Layout) (n : ℕ) (o : Option Content) (contents : Contents)
    → IsLayoutOf is_file text_of layout → Tells o contents (work n layout)
    → is_idle (ranges_by_number layout.files) contents ≡ is_idle_in (work n layout)
idle_tells is_file text_of layout n None contents d t = absurd t
idle_tells is_file text_of layout n (Some content) contents d t =
    ap (λ files. is_idle (ranges_by_number files) contents) (sym (files_after_work n layout))
    ∙ idle_alike is_file text_of (work n layout) content contents (layout_after_work is_file text_of n layout d) t

-- ---- no part is broken

none_broken : (content : Content) (blob : ℕ) (records : List PartRec) (directories : List PartDirectory) (parts : List Part)
    → HoldParts content records directories parts → SomeOf (IsBrokenIn content blob) (zip records directories) → ⊥
none_broken content blob [] directories parts h s = s
none_broken content blob (r ∷ records) [] parts h s = s
none_broken content blob (r ∷ records) (d ∷ directories) [] h s = h
none_broken content blob (r ∷ records) (d ∷ directories) (part ∷ parts) h s =
    ⊎_elim
    (λ (b : IsBrokenIn content blob (r, d)).
    let there : content.blobs blob ≡ Some h.0.bytes = ap content.blobs (sym b.0 ∙ h.0.record_of.blob) ∙ h.0.held in
    (subst (λ o. no_part o) there b.1) _ h.0.spelled)
    (λ rest. none_broken content blob records directories parts h.1 rest)
    s
  where
    no_part : Option (List ℕ) → Type 0
    no_part o = IsNoPart d o

right_job : (content : Content) (parts : List Part) (o : Option JobAt) (p : Option Job) → TellsJobs content parts o p → IsRightJob content o
right_job content parts None p t = tt
right_job content parts (Some running) None t = absurd t
right_job content parts (Some running) (Some job) t = t.right

pub undamaged : (o : Option Content) (contents : Contents) (layout : Layout) (blob : ℕ) → Tells o contents layout
    → IsDamaged o contents blob → ⊥
undamaged None contents layout blob t b = t
undamaged (Some content) contents layout blob t b =
    none_broken content blob contents.parts contents.directories layout.parts t.parts
    (broken_parts content contents.job blob (zip contents.parts contents.directories)
    (right_job content layout.parts contents.job layout.job t.job) b)

-- ---- few parts

length_bares : (records : List PartRec) → length (as_parts records) ≡ length records
length_bares [] = refl
length_bares (r ∷ records) = ap (λ (n : ℕ). suc n) (length_bares records)

no_next : {X : Type 0} (o : Option X) (b : Bool) → (b && not (is_some o)) ≡ true → o ≡ None
no_next None b e = refl
no_next (Some x) true e = absurd cc
no_next (Some x) false e = absurd cc

pub few_left : (ranges : Ranges) (contents : Contents) → NeverRise (as_parts contents.parts)
    → flushes_for (as_parts contents.parts) ≤ contents.flushes → is_idle ranges contents ≡ true → AreFew ranges contents
few_left ranges contents n f e =
    let none : next_job ranges contents.parts ≡ None = no_next (next_job ranges contents.parts) (not (is_some contents.job)) e in
    let either = neither _ _ none in
    let fall : Fall (as_parts contents.parts) =
    fall (as_parts contents.parts) (mapped_none _ (alike_neighbours (as_parts contents.parts)) either.0) n in
    record {
      fall = fall;
      few =
          let r : 2 ^ length (as_parts contents.parts) ≤ flushes_for (as_parts contents.parts) + 1 = few (as_parts contents.parts) fall in
          let same : 2 ^ length (as_parts contents.parts) ≡ 2 ^ length contents.parts =
          ap (λ (k : ℕ). 2 ^ k) (length_bares contents.parts) in
          omega (arith, f);
      mostly_live =
          each-map (λ part. is_half_dead ranges part ≡ false) (λ part. part.stored < 2 * live_in ranges part.low part.high) contents.parts
          (λ part h. leb-false (2 * live_in ranges part.low part.high) part.stored h)
          (none_passes (is_half_dead ranges) contents.parts
          (mapped_none _ (position (is_half_dead ranges) contents.parts) either.1));
    }

-- ---- all of the work

pub layout_done : (ranges : Ranges) (n : ℕ) (old new : Contents) (before after : Told) (reads reads_now : Option (List ReadRange))
    (is_file : ℕ → Bool) (text_of : ℕ → Text) (layout : Layout) → DoesWork ranges n old new before after reads reads_now
    → IsLayoutOf is_file text_of layout → ranges ≡ ranges_by_number layout.files → Tells before.0 old layout
    → (is_idle ranges new ≡ is_idle_in (work n layout)) × Tells after.0 new (work n layout)
layout_done ranges n old new before after reads reads_now is_file text_of layout w d e t =
    let tells : Tells after.0 new (work w.units layout) =
    tells_work is_file text_of layout d w.units old new before after w.read
    (subst (λ rs. DoUnits rs w.units old new before after w.read) e w.done) t in
    let idle : is_idle ranges new ≡ is_idle_in (work w.units layout) =
    ap (λ (rs : Ranges). is_idle rs new) e ∙ idle_tells is_file text_of layout w.units after.0 new d tells in
    let same : work n layout ≡ work w.units layout =
    ⊎_elim
    (λ (l : w.units < n).
    let more : is_idle_in (work w.units layout) ≡ true = sym idle ∙ w.all l in
    let sum : n ≡ (n - w.units) + w.units = omega (arith, w.within) in
    ap (λ (m : ℕ). work m layout) sum
    ∙ work_idle w.units (n - w.units) layout more)
    (λ (l : n ≤ w.units). let equal : n ≡ w.units = omega (arith, w.within) in ap (λ (m : ℕ). work m layout) equal)
    (cases_lt w.units n) in
    (idle ∙ ap is_idle_in (sym same), subst (λ l. Tells after.0 new l) (sym same) tells)
