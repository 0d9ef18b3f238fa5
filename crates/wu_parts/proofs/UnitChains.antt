-- What several units of background work do, one after another.
use Rattle.std.proofs.Common.{◌≡◌, ◌≢◌, ℕ, zero, suc, ◌+◌, ◌<◌, ◌≤◌, List, [], ◌∷◌, ◌++◌, length, Option, Some, None, option_map, refl, ap}
use Rattle.std.proofs.Common.{sym, ◌∙◌, subst, arith, ⊎_elim, inl, inr, append-nil, append_assoc}
use Rattle.std.specs.Prelude.{◌⊎◌, IfSome, zip}
use Rattle.std.specs.List.{Contains}
use Rattle.wu_base.specs.declared.addresses.PartRec.{PartRec}
use Rattle.wu_base.proofs.Members.{Contains-from_Has, Has, Has-append_cases, Has-from_Contains}
use Rattle.wu_outside.specs.Content.{Content, with_blob}
use Rattle.wu_outside.specs.Faults.{Rose}
use Rattle.wu_outside.specs.declared.ranges.ReadRange.{ReadRange}
use Rattle.wu_base.specs.declared.troubles.Trouble.{Trouble}
use Rattle.wu_layout.specs.Invariants.{SomeOf}
use Rattle.wu_layout.proofs.HomeLemmas.{SomeOf-map}
use Rattle.wu_part.specs.Directories.{PartDirectory}
use Rattle.wu_space.specs.Addresses.{Ranges}
use Rattle.wu_job.specs.Jobs.{AreKept, IsRight, JobPart, JobState, MakesList}
use Rattle.wu_job.specs.Keeping.{addresses_in}
use Rattle.wu_job.specs.Steps.{adds}
use Rattle.wu_job.proofs.Fronts.{adds-more}
use Rattle.wu_job.proofs.Marking.{addresses_more}
use Rattle.wu_part.specs.Parts.{IsNoPart}
use Rattle.wu_parts.specs.Contents.{Contents, JobAt}
use Rattle.wu_parts.specs.Flushing.{Told}
use Rattle.wu_parts.specs.Units.{DoUnits, DoesUnit, GoesOn, IsMade, IsNext, Starts, Vanishes}
use Rattle.wu_parts.specs.UnitsOfParts.{StopsUnit}
use Rattle.wu_parts.specs.Working.{ChangesParts, IsDamaged, IsDamagedPart, KeepsAddress, SharesAddress, SharesIn, StopsWork, as_taken}
use Rattle.wu_parts.proofs.HeldParts.{put_elsewhere, put_there}
use Rattle.wu_parts.proofs.LayoutUnits.{if_told}
use Rattle.wu_parts.proofs.SomeParts.{all_zipped, some_replaced, some_with}

-- ---- the parts

pub changes_none : (old : Contents) → ChangesParts 0 old old
changes_none old = record { others = refl; drawn = (omega arith, omega arith); noted = ([], sym (append-nil old.stale)) }

-- the job was taken out
pub changes_taken : (old new : Contents) → new ≡ record old { job = None } → ChangesParts 0 old new
changes_taken old new e =
    subst (ChangesParts 0 old) (sym e)
    (record { others = refl; drawn = (omega arith, omega arith); noted = ([], sym (append-nil old.stale)) })

-- a number was drawn, or none, and parts were taken out or put in
pub changes_partly : (old view new : Contents) (more : List ℕ) → view ≡ old
    → new ≡ record view {
      parts = new.parts;
      directories = new.directories;
      next_blob = new.next_blob;
      stale = new.stale;
      job = new.job;
    } → new.stale ≡ view.stale ++ more → view.next_blob ≤ new.next_blob → new.next_blob ≤ view.next_blob + 1 → ChangesParts 1 old new
changes_partly old view new more is others noted least most =
    subst (λ (c : Contents). ChangesParts 1 c new) is (record { others = others; drawn = (least, most); noted = (more, noted) })

pub changes_more : (n m : ℕ) (old middle new : Contents) → ChangesParts n old middle → ChangesParts m middle new
    → ChangesParts (n + m) old new
changes_more n m old middle new a b = record {
  others =
      b.others
      ∙ ap (λ (c : Contents). record c {
        parts = new.parts;
        directories = new.directories;
        next_blob = new.next_blob;
        stale = new.stale;
        job = new.job;
      }) a.others;
  drawn = (omega (arith, a.drawn.0, b.drawn.0), omega (arith, a.drawn.1, b.drawn.1));
  noted = (
    a.noted.0 ++ b.noted.0,
    b.noted.1 ∙ ap (λ (l : List ℕ). l ++ b.noted.0) a.noted.1 ∙ append_assoc old.stale a.noted.0 b.noted.0,
  );
}

module _ (ranges : Ranges) where
  pub unit_changes : (old new : Contents) (before after : Told) (read : List ReadRange) → DoesUnit ranges old new before after read
      → ChangesParts 1 old new
  unit_changes old new before after read u =
      ⊎_elim
      (λ (g : GoesOn u.job.place u.state old new before after).
      subst (λ c. ChangesParts 1 old c) (sym g.contents)
      (record { others = refl; drawn = (omega arith, omega arith); noted = ([], sym (append-nil old.stale)) }))
      (λ l.
      ⊎_elim
      (λ (v : Vanishes u.job.place u.state old new before after).
      subst (λ c. ChangesParts 1 old c) (sym v.contents)
      (record { others = refl; drawn = (omega arith, omega arith); noted = (_, refl) }))
      (λ (m : IsMade u.job.place u.state old new before after).
      subst (λ c. ChangesParts 1 old c) (sym m.contents)
      (record { others = refl; drawn = (omega arith, omega arith); noted = (_, refl) }))
      l)
      u.leaves

  pub units_change : (n : ℕ) (old new : Contents) (before after : Told) (read : List ReadRange)
      → DoUnits ranges n old new before after read → ChangesParts n old new
  units_change zero old new before after read u = subst (λ c. ChangesParts 0 old c) (sym u.0) (changes_none old)
  units_change (suc n) old new before after read u =
      subst (λ k. ChangesParts k old new) (omega arith)
      (changes_more n 1 old u.0 new (units_change n old u.0 before u.1 u.2 u.4) (unit_changes u.0 new u.1 after u.3 u.5))

pub changes_less : (n m : ℕ) (old new : Contents) → n ≤ m → ChangesParts n old new → ChangesParts m old new
changes_less n m old new l a = record { others = a.others; drawn = (a.drawn.0, omega (arith, a.drawn.1)); noted = a.noted }

-- ---- damaged parts

-- the part is in that blob, and what the content has of the blob isn't a part with its directory
abbrev pub IsBrokenIn : Content → ℕ → PartRec × PartDirectory → Type 0
IsBrokenIn content blob part = (part.0.blob ≡ blob) × IsNoPart part.1 (content.blobs blob)

-- the lists are right that the job under way has made
abbrev pub IsRightJob : Content → Option JobAt → Type 0
IsRightJob content job = IfSome job (λ running. IsRight content running.state)

pub right_at_start : (content : Content) (ranges : Ranges) (contents : Contents) (running : JobAt) → Starts ranges contents running
    → IsRight content running.state
right_at_start content ranges contents running starts =
    subst (IsRight content) (sym starts.began) (record { terms_done = []; order = refl; made = refl })

pub right_next : (content : Content) (ranges : Ranges) (contents : Contents) (running : JobAt) → IsNext ranges contents running
    → IsRightJob content contents.job → IsRight content running.state
right_next content ranges contents running next r =
    ⊎_elim
    (λ (e : contents.job ≡ Some running). subst (IsRightJob content) e r)
    (λ n. right_at_start content ranges contents running n.1)
    next

-- what is damaged is broken, where the lists are right that the job under way has made
pub broken_parts : (content : Content) (job : Option JobAt) (blob : ℕ) (parts : List (PartRec × PartDirectory)) → IsRightJob content job
    → SomeOf (IsDamagedPart content job blob) parts → SomeOf (IsBrokenIn content blob) parts
broken_parts content job blob parts right damaged =
    SomeOf-map (IsDamagedPart content job blob) (IsBrokenIn content blob) parts
    (λ part p. (
      p.0,
      ⊎_elim
          (λ n. n)
          (λ s. subst (λ b. IsNoPart part.1 (content.blobs b)) p.0 (if_shared job right (as_taken part) s))
          p.1,
    ))
    damaged
  where
    if_shared : (o : Option JobAt) → IsRightJob content o → (part : JobPart) → SharesIn content o part
        → IsNoPart part.directory (content.blobs part.recorded.blob)
    if_shared None r part s = absurd s
    if_shared (Some running) r part s = s.broken r

damaged_parts : (content : Content) (job : Option JobAt) (blob : ℕ) (parts : List (PartRec × PartDirectory))
    → SomeOf (IsBrokenIn content blob) parts → SomeOf (IsDamagedPart content job blob) parts
damaged_parts content job blob parts broken =
    SomeOf-map (IsBrokenIn content blob) (IsDamagedPart content job blob) parts (λ part p. (p.0, inl p.1)) broken

-- a job that has done one term more shares an address only if it did so before
shares_before : (content : Content) (old new : JobState) (term kept : List ℕ) (part : JobPart) → MakesList term kept old new
    → AreKept content old.parts old.live term kept → (IsRight content old → IsRight content new) → SharesAddress content new part
    → SharesAddress content old part
shares_before content old new term kept part makes held right s =
    let parts : new.parts ≡ old.parts = ap (λ (job : JobState). job.parts) makes.others in
    let live : new.live ≡ old.live = ap (λ (job : JobState). job.live) makes.others in
    let done : addresses_in new.done ≡ addresses_in old.done ++ kept = ap addresses_in makes.made ∙ addresses_more old.done term kept in
    record {
      its = subst (λ ps. Contains ps part) parts s.its;
      earlier = term ∷ s.earlier;
      term = s.term;
      later = s.later;
      left = makes.first ∙ ap (λ (ts : List (List ℕ)). term ∷ ts) s.left;
      addresses = s.addresses;
      held = s.held;
      address = s.address;
      has = s.has;
      made =
          ⊎_elim
          (λ (c : Contains (addresses_in new.done) s.address).
          ⊎_elim
          (λ i. inl (Contains-from_Has s.address (addresses_in old.done) i))
          (λ i. inr (inl (kept, held, Contains-from_Has s.address kept i)))
          (Has-append_cases s.address (addresses_in old.done) kept
          (subst (Has s.address) done (Has-from_Contains s.address (addresses_in new.done) c))))
          (λ (k : SomeOf (KeepsAddress content new.parts new.live s.address) s.earlier).
          inr (inr
          (subst (λ rs. SomeOf (KeepsAddress content old.parts rs s.address) s.earlier) live
          (subst (λ ps. SomeOf (KeepsAddress content ps new.live s.address) s.earlier) parts k))))
          s.made;
      broken = λ r. s.broken (right r);
    }

-- what is damaged now was damaged before
abbrev WereDamaged : Content → Content → Contents → Contents → Type 0
WereDamaged content content_now old new =
    (blob : ℕ) → SomeOf (IsDamagedPart content_now new.job blob) (zip new.parts new.directories)
    → SomeOf (IsDamagedPart content old.job blob) (zip old.parts old.directories)

module _ (ranges : Ranges) where
  unit_damaged : (old new : Contents) (before after : Told) (read : List ReadRange) (content : Content) → before.0 ≡ Some content
      → DoesUnit ranges old new before after read → (now : Content) × ((after.0 ≡ Some now) × WereDamaged content now old new)
  unit_damaged old new before after read content e u =
      ⊎_elim
      (λ (g : GoesOn u.job.place u.state old new before after). (
        content,
        (
          ap (λ (t : Told). t.0) g.stored ∙ e,
          subst (WereDamaged content content old) (sym g.contents)
              (λ blob s.
              SomeOf-map (IsDamagedPart content (Some (record { place = u.job.place; state = u.state })) blob)
              (IsDamagedPart content old.job blob) (zip old.parts old.directories)
              (λ part p. (p.0, ⊎_elim (λ n. inl n) (λ shares. goes_on blob part p.0 shares) p.1))
              s),
        ),
      ))
      (λ l.
      ⊎_elim
      (λ (v : Vanishes u.job.place u.state old new before after). (
        content,
        (
          ap (λ (t : Told). t.0) v.stored ∙ e,
          subst (WereDamaged content content old) (sym v.contents)
              (λ blob s.
              damaged_parts content old.job blob (zip old.parts old.directories)
              (⊎_elim (λ a. absurd a) (λ b. b)
              (some_replaced (IsBrokenIn content blob) u.job.place (length u.state.parts) [] [] old.parts old.directories
              u.running.paired refl (broken_parts content None blob _ tt s)))),
        ),
      ))
      (λ (m : IsMade u.job.place u.state old new before after).
      let now : Content = with_blob old.next_blob (Some m.bytes) content in (
        now,
        (
          ap (λ (t : Told). t.0) m.stored ∙ ap (λ (o : Option Content). option_map (with_blob old.next_blob (Some m.bytes)) o) e,
          subst (WereDamaged content now old) (sym m.contents)
              (λ blob s.
              damaged_parts content old.job blob (zip old.parts old.directories)
              (⊎_elim
              (λ a. ⊎_elim (λ (one : IsBrokenIn now blob (m.recorded, m.directory)). absurd (whole m blob one)) (λ z. absurd z) a)
              (λ b.
              SomeOf-map (λ part. (part.0.blob < old.next_blob) × IsBrokenIn now blob part) (IsBrokenIn content blob)
              (zip old.parts old.directories) (λ part p. older m blob part p)
              (some_with (IsBrokenIn now blob) (λ part. part.0.blob < old.next_blob) (zip old.parts old.directories)
              (all_zipped old.next_blob old.parts old.directories u.below) b))
              (some_replaced (IsBrokenIn now blob) u.job.place (length u.state.parts) (m.recorded ∷ []) (m.directory ∷ []) old.parts
              old.directories u.running.paired refl (broken_parts now None blob _ tt s)))),
        ),
      ))
      l)
      u.leaves
    where
      right : IsRight content u.job.state → IsRight content u.state
      right = if_told (λ told. IsRight told u.job.state → IsRight told u.state) before.0 content e u.right

      goes_on : (blob : ℕ) (part : PartRec × PartDirectory) → part.0.blob ≡ blob → SharesAddress content u.state (as_taken part)
          → IsNoPart part.1 (content.blobs blob) ⊎ SharesIn content old.job (as_taken part)
      goes_on blob part its s =
          ⊎_elim
          (λ (same : old.job ≡ Some u.job).
          inr
          (subst (λ o. SharesIn content o (as_taken part)) (sym same)
          (shares_before content u.job.state u.state u.term.term u.term.kept (as_taken part) u.term.makes
          (if_told (λ told. AreKept told u.job.state.parts u.job.state.live u.term.term u.term.kept) before.0 content e u.term.held)
          right s)))
          (λ n.
          inl
          (subst (λ b. IsNoPart part.1 (content.blobs b)) its (s.broken (right (right_at_start content ranges old u.job n.1)))))
          u.next

      whole : (m : IsMade u.job.place u.state old new before after) (blob : ℕ)
          → IsBrokenIn (with_blob old.next_blob (Some m.bytes) content) blob (m.recorded, m.directory) → ⊥
      whole m blob b =
          let there : (with_blob old.next_blob (Some m.bytes) content).blobs blob ≡ Some m.bytes =
          ap (λ n. (with_blob old.next_blob (Some m.bytes) content).blobs n) (sym b.0 ∙ m.blob)
          ∙ put_there old.next_blob m.bytes content in
          (subst (λ o. IsNoPart m.directory o) there b.1) u.state.done m.spelled

      older : (m : IsMade u.job.place u.state old new before after) (blob : ℕ) (part : PartRec × PartDirectory)
          → (part.0.blob < old.next_blob) × IsBrokenIn (with_blob old.next_blob (Some m.bytes) content) blob part
          → IsBrokenIn content blob part
      older m blob part p =
          let other : blob ≢ old.next_blob = λ same. omega (arith, p.0, p.1.0) in (
            p.1.0,
            subst (λ o. IsNoPart part.1 o) (put_elsewhere old.next_blob blob (Some m.bytes) content other) p.1.1,
          )

  units_damaged : (n : ℕ) (old new : Contents) (before after : Told) (read : List ReadRange) (content : Content) → before.0 ≡ Some content
      → DoUnits ranges n old new before after read → (now : Content) × ((after.0 ≡ Some now) × WereDamaged content now old new)
  units_damaged zero old new before after read content e u = (
    content,
    (ap (λ (t : Told). t.0) u.1.0 ∙ e, subst (WereDamaged content content old) (sym u.0) (λ blob s. s)),
  )
  units_damaged (suc n) old new before after read content e u =
      let earlier = units_damaged n old u.0 before u.1 u.2 content e u.4 in
      let last = unit_damaged u.0 new u.1 after u.3 earlier.0 earlier.1.0 u.5 in
      (last.0, (last.1.0, λ blob s. earlier.1.1 blob (last.1.1 blob s)))

  -- a blob that is damaged now was so before
  pub damaged_before : (n : ℕ) (old new : Contents) (before after : Told) (read : List ReadRange) (blob : ℕ)
      → DoUnits ranges n old new before after read → IsDamaged after.0 new blob → IsDamaged before.0 old blob
  damaged_before n old new before after read blob u b = of_told before.0 refl
    where
      of_told : (o : Option Content) → before.0 ≡ o → IsDamaged o old blob
      of_told None e = tt
      of_told (Some content) e =
          let s = units_damaged n old new before after read content e u in s.1.1 blob (if_told _ after.0 s.0 s.1.0 b)

-- ---- a unit that fails after some were done

pub stops_after : (ranges : Ranges) (n k : ℕ) (old middle : Contents) (before told : Told) (read : List ReadRange) (was mid now : ℕ)
    (reads reads_mid reads_now : Option (List ReadRange)) (trouble : Trouble) → k < n → DoUnits ranges k old middle before told read
    → reads_mid ≡ adds read reads → mid ≡ was → StopsUnit ranges middle told.0 mid now reads_mid reads_now trouble
    → StopsWork ranges n old before was now reads reads_now trouble
stops_after ranges n k old middle before told read was mid now reads reads_mid reads_now trouble l u e f s = record {
  counted = omega (arith, s.counted, f);
  store_fault = λ fault. subst (λ m. Rose m now) f (s.store_fault fault);
  calm = λ other. s.calm other ∙ f;
  done = k;
  fewer = l;
  reached = middle;
  stored = told;
  read = read;
  units_done = u;
  last = s.last;
  some = s.some;
  read_are = s.read_are ∙ ap (adds s.last) e ∙ adds-more read s.last reads;
  was_read = s.was_read;
  damaged = λ blob d. damaged_before ranges k old middle before told read blob u (s.damaged blob d);
}
