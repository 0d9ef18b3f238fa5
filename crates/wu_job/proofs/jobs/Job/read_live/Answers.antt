use Rattle.std.proofs.Common.{◌≡◌, ◌∷◌, ap, subst, ◌∙◌, refl, sym, rules, arith}
use Rattle.std.specs.Prelude.{IfSome, None, Some}
use Rattle.std.proofs.lemmas.Result.{err_from_is_err_and}
use Rattle.wu_base.specs.declared.troubles.Trouble.TheVariants.{NoMemory}
use Rattle.wu_base.proofs.Members.{all_has}
use Rattle.wu_layout.proofs.EntryLemmas.{IfSome-map}
use Rattle.wu_job.specs.Jobs.{AreKept, JobState}
use Rattle.wu_job.specs.Keeping.{AreFound, IsNewCut, state_of}
use Rattle.wu_job.specs.Live.{ranges_alone}
use Rattle.wu_job.specs.Reading.{IsCutOf, IsFoundDamaged, IsRefused}
use Rattle.wu_job.specs.Sources.{HasEntries, part_of, parts_of, terms_from}
use Rattle.wu_job.specs.Steps.{HasWholeRanges, IsBrokenPart, IsCause, IsDamagedPart, ReadsFront, adds, ranges_of, step_ranges}
use Rattle.wu_job.proofs.Doubles.{has_left, left_of, refused}
use Rattle.wu_job.proofs.Fronts.{cause_after, front_all, if_both, no_memory}
use Rattle.wu_job.proofs.Joining.{front_of_left, front_with, has_with, highest_alone, highest_with, kept_alone, kept_with, lowest_left}
use Rattle.wu_job.proofs.Joining.{new_both, new_one, reads_alone, reads_with, some_with, spans_apart, whole_alone, whole_with}
use Rattle.wu_job.proofs.Whole.{found_left, found_with}
use Rattle.wu_job.proofs.jobs.Job.read_live.Goals as goal

pub live_addresses-requires-clause-entry : goal.live_addresses-requires-clause-entry
live_addresses-requires-clause-entry g c =
    let i = c.self.inside in
    found_left i.left i.right c.args.term.now _ _
    (subst (λ (s : JobState). AreFound s.parts c.args.term.now c.args.front.left c.args.front.right) (sym c.self.view_is) c.requires.front)

pub live_addresses-requires-clause-live : goal.live_addresses-requires-clause-live
live_addresses-requires-clause-live g c = rw c.deref.ensures.value c.self.invariant.live

pub live_addresses-requires-clause-marks : goal.live_addresses-requires-clause-marks
live_addresses-requires-clause-marks g c = rw c.deref.ensures.value c.self.invariant.marks.long

pub returns-in_err-cut-clause-front : goal.returns-in_err-cut-clause-front
returns-in_err-cut-clause-front g c =
    let p = err_from_is_err_and c.from_residual.result c.from_residual.ensures.1 in
    let i = c.self.inside in
    let old = g.D.Store.reads c.args.store.now in
    let new = g.D.Store.reads c.live_addresses.new.store in
    let t = c.in_err-cut.field-0.0 in
    let is : terms_from i.left i.right i.places ≡ c.args.term.now ∷ c.requires.first.0 =
    ap (λ (s : JobState). s.terms_left) c.self.view_is ∙ c.requires.first.1 in
    rw (p.1, p.2)
    (subst (λ (s : JobState). ReadsFront (step_ranges s.terms_left s.parts) old new t) c.self.view_is
    (front_of_left (terms_from i.left i.right i.places) c.args.term.now c.requires.first.0 i.left i.right old new t is c.in_err-cut.ensures.front))

pub returns-in_err-cut-clause-cause : goal.returns-in_err-cut-clause-cause
returns-in_err-cut-clause-cause g c =
    let p = err_from_is_err_and c.from_residual.result c.from_residual.ensures.1 in
    let i = c.self.inside in
    let inv = c.self.invariant in
    let live = ranges_alone i.live.items in
    let holds = g.D.Store.holds c.args.store.now in
    let before = g.D.Store.faults c.args.store.now in
    let now = g.D.Store.faults c.live_addresses.new.store in
    let t = c.in_err-cut.field-0.0 in
    let is : terms_from i.left i.right i.places ≡ c.args.term.now ∷ c.requires.first.0 =
    ap (λ (s : JobState). s.terms_left) c.self.view_is ∙ c.requires.first.1 in
    rw (p.1, p.2)
    (subst (λ (s : JobState). IsCause (IsFoundDamaged holds s) before now t) c.self.view_is
    (cause_after (IsRefused holds live i.marks c.args.term.now (part_of i.left)) (IsFoundDamaged holds (state_of i))
    before before now t refl
    (λ blob b.
    left_of (λ part. IsDamagedPart holds (state_of i) blob part × IsBrokenPart holds (state_of i) blob part) i.left i.right
    (refused holds (state_of i) i.left i.right i.marks (part_of i.left) c.args.term.now c.requires.first.0 refl inv.sources
    c.are_whole.ensures.whole.entries inv.marks (has_left i.left i.right) is blob b))
    (rw c.deref.ensures.value at c.in_err-cut.ensures.cause)))

pub returns-in-None-clause-new : goal.returns-in-None-clause-new
returns-in-None-clause-new g c =
    let i = c.self.inside in
    let left = all_has HasEntries (part_of i.left) _ c.are_whole.ensures.whole.entries (has_left i.left i.right) in
    let none : i.right ≡ None = search rules in
    let least = lowest_left i.left i.right in
    let most = highest_alone i.left i.right none in
    subst (λ (s : JobState). IsNewCut s c.in_ok-cut.cut) c.self.view_is
    (new_one (state_of i) i.marks i.left.directory.low i.left.directory.high c.in_ok-cut.cut c.self.invariant.marks left.below
    (omega (arith, least)) (omega (arith, most))
    (rw c.deref.ensures.value at c.in_ok-cut.ensures.new))

pub returns-in-None-clause-held : goal.returns-in-None-clause-held
returns-in-None-clause-held g c =
    let i = c.self.inside in
    let live = ranges_alone i.live.items in
    let none : i.right ≡ None = search rules in
    let kept = c.in_ok-cut.cut.addresses.items in
    let holds = g.D.Store.holds c.args.store.now in
    subst (λ (s : JobState). IfSome holds (λ content. AreKept content s.parts s.live c.args.term.now kept)) c.self.view_is
    (IfSome-map (λ content. IsCutOf content live c.args.term.now (part_of i.left) kept)
    (λ content. AreKept content (state_of i).parts live c.args.term.now kept) holds
    (λ content k. kept_alone i.left i.right content live c.args.term.now kept none k)
    (rw c.deref.ensures.value at c.in_ok-cut.ensures.held))

pub returns-in-None-clause-whole : goal.returns-in-None-clause-whole
returns-in-None-clause-whole g c =
    let i = c.self.inside in
    let none : i.right ≡ None = search rules in
    let term = c.args.term.now in
    let left = terms_from i.left i.right i.places in
    let holds = g.D.Store.holds c.args.store.now in
    let is : left ≡ term ∷ c.requires.first.0 = ap (λ (s : JobState). s.terms_left) c.self.view_is ∙ c.requires.first.1 in
    subst (λ (s : JobState). IfSome holds (λ content. HasWholeRanges content (step_ranges s.terms_left s.parts))) c.self.view_is
    (IfSome-map (λ content. HasWholeRanges content (ranges_of term (part_of i.left)))
    (λ content. HasWholeRanges content (step_ranges left (parts_of i.left i.right))) holds
    (λ content w. whole_alone i.left i.right content left term c.requires.first.0 none is w)
    c.in_ok-cut.ensures.whole)

pub returns-in-None-clause-reads : goal.returns-in-None-clause-reads
returns-in-None-clause-reads g c =
    let i = c.self.inside in
    let none : i.right ≡ None = search rules in
    let old = g.D.Store.reads c.args.store.now in
    let new = g.D.Store.reads c.live_addresses.new.store in
    let is : terms_from i.left i.right i.places ≡ c.args.term.now ∷ c.requires.first.0 =
    ap (λ (s : JobState). s.terms_left) c.self.view_is ∙ c.requires.first.1 in
    subst (λ (s : JobState). new ≡ adds (step_ranges s.terms_left s.parts) old) c.self.view_is
    (reads_alone i.left i.right (terms_from i.left i.right i.places) c.args.term.now c.requires.first.0 old new none is c.in_ok-cut.ensures.reads)

pub live_addresses-requires-in-Some-clause-entry : goal.live_addresses-requires-in-Some-clause-entry
live_addresses-requires-in-Some-clause-entry g c =
    let i = c.self.inside in
    let some : i.right ≡ Some c.in-Some.right = search rules in
    found_with i.left i.right c.in-Some.right c.args.term.now _ _ some
    (subst (λ (s : JobState). AreFound s.parts c.args.term.now c.args.front.left c.args.front.right) (sym c.self.view_is) c.requires.front)

pub returns-in_err-more-in-Some-clause-front : goal.returns-in_err-more-in-Some-clause-front
returns-in_err-more-in-Some-clause-front g c =
    let p = err_from_is_err_and c.from_residual-in_err-more-in-Some.result c.from_residual-in_err-more-in-Some.ensures.1 in
    let i = c.self.inside in
    let some : i.right ≡ Some c.in-Some.right = search rules in
    let old = g.D.Store.reads c.args.store.now in
    let mid = g.D.Store.reads c.live_addresses.new.store in
    let new = g.D.Store.reads c.live_addresses-in-Some.new.store in
    let t = c.in_err-more-in-Some.field-0.0 in
    let is : terms_from i.left i.right i.places ≡ c.args.term.now ∷ c.requires.first.0 =
    ap (λ (s : JobState). s.terms_left) c.self.view_is ∙ c.requires.first.1 in
    rw (p.1, p.2)
    (subst (λ (s : JobState). ReadsFront (step_ranges s.terms_left s.parts) old new t) c.self.view_is
    (front_with i.left i.right (terms_from i.left i.right i.places) c.args.term.now c.requires.first.0 c.in-Some.right old mid new t some is
    c.in_ok-cut.ensures.reads c.in_err-more-in-Some.ensures.front))

pub returns-in_err-more-in-Some-clause-cause : goal.returns-in_err-more-in-Some-clause-cause
returns-in_err-more-in-Some-clause-cause g c =
    let p = err_from_is_err_and c.from_residual-in_err-more-in-Some.result c.from_residual-in_err-more-in-Some.ensures.1 in
    let i = c.self.inside in
    let inv = c.self.invariant in
    let some : i.right ≡ Some c.in-Some.right = search rules in
    let live = ranges_alone i.live.items in
    let holds = g.D.Store.holds c.args.store.now in
    let mid = g.D.Store.holds c.live_addresses.new.store in
    let before = g.D.Store.faults c.args.store.now in
    let then = g.D.Store.faults c.live_addresses.new.store in
    let now = g.D.Store.faults c.live_addresses-in-Some.new.store in
    let t = c.in_err-more-in-Some.field-0.0 in
    let term = c.args.term.now in
    let is : terms_from i.left i.right i.places ≡ term ∷ c.requires.first.0 =
    ap (λ (s : JobState). s.terms_left) c.self.view_is ∙ c.requires.first.1 in
    rw (p.1, p.2)
    (subst (λ (s : JobState). IsCause (IsFoundDamaged holds s) before now t) c.self.view_is
    (cause_after (IsRefused mid live i.marks term (part_of c.in-Some.right)) (IsFoundDamaged holds (state_of i)) before then now t
    c.in_ok-cut.ensures.calm
    (λ blob b.
    some_with i.left i.right (λ part. IsDamagedPart holds (state_of i) blob part × IsBrokenPart holds (state_of i) blob part)
    c.in-Some.right some
    (refused holds (state_of i) i.left i.right i.marks (part_of c.in-Some.right) term c.requires.first.0 refl inv.sources
    c.are_whole.ensures.whole.entries inv.marks (has_with i.left i.right c.in-Some.right some) is blob
    (subst (λ o. IsRefused o live i.marks term (part_of c.in-Some.right) blob) c.in_ok-cut.ensures.holds b)))
    (rw c.deref-in-Some.ensures.value at c.in_err-more-in-Some.ensures.cause)))

pub returns-in_err-append-in-Some-clause-front : goal.returns-in_err-append-in-Some-clause-front
returns-in_err-append-in-Some-clause-front g c =
    let p = err_from_is_err_and c.from_residual-in_err-append-in-Some.result c.from_residual-in_err-append-in-Some.ensures.1 in
    let i = c.self.inside in
    let some : i.right ≡ Some c.in-Some.right = search rules in
    let old = g.D.Store.reads c.args.store.now in
    let mid = g.D.Store.reads c.live_addresses.new.store in
    let new = g.D.Store.reads c.live_addresses-in-Some.new.store in
    let is : terms_from i.left i.right i.places ≡ c.args.term.now ∷ c.requires.first.0 =
    ap (λ (s : JobState). s.terms_left) c.self.view_is ∙ c.requires.first.1 in
    rw (p.1, p.2)
    (subst (λ (s : JobState). ReadsFront (step_ranges s.terms_left s.parts) old new NoMemory) c.self.view_is
    (front_all (step_ranges (terms_from i.left i.right i.places) (parts_of i.left i.right)) old new NoMemory
    (reads_with i.left i.right (terms_from i.left i.right i.places) c.args.term.now c.requires.first.0 c.in-Some.right old mid new some is
    c.in_ok-cut.ensures.reads c.in_ok-more-in-Some.ensures.reads)
    (λ blob e. absurd (no_memory blob e))))

pub returns-in_ok-append-in-Some-clause-new : goal.returns-in_ok-append-in-Some-clause-new
returns-in_ok-append-in-Some-clause-new g c =
    let i = c.self.inside in
    let other = c.in-Some.right in
    let some : i.right ≡ Some other = search rules in
    let entries = c.are_whole.ensures.whole.entries in
    let right = all_has HasEntries (part_of other) _ entries (has_with i.left i.right other some) in
    subst (λ (s : JobState). IsNewCut s c.append.new.self) c.self.view_is
    (new_both (state_of i) i.marks i.left.directory.low i.left.directory.high other.directory.low other.directory.high
    c.in_ok-cut.cut c.in_ok-more-in-Some.more c.append.new.self c.self.invariant.marks
    (spans_apart i.left i.right other some c.self.invariant.sources) right.below (omega (arith, lowest_left i.left i.right))
    (omega (arith, highest_with i.left i.right other some))
    (rw c.deref.ensures.value at c.in_ok-cut.ensures.new)
    (rw c.deref-in-Some.ensures.value at c.in_ok-more-in-Some.ensures.new)
    c.in_ok-append-in-Some.ensures.addresses c.in_ok-append-in-Some.ensures.places)

pub returns-in_ok-append-in-Some-clause-held : goal.returns-in_ok-append-in-Some-clause-held
returns-in_ok-append-in-Some-clause-held g c =
    let i = c.self.inside in
    let other = c.in-Some.right in
    let some : i.right ≡ Some other = search rules in
    let live = ranges_alone i.live.items in
    let term = c.args.term.now in
    let kept = c.in_ok-cut.cut.addresses.items in
    let more = c.in_ok-more-in-Some.more.addresses.items in
    let both = c.append.new.self.addresses.items in
    let holds = g.D.Store.holds c.args.store.now in
    let mid = g.D.Store.holds c.live_addresses.new.store in
    subst (λ (s : JobState). IfSome holds (λ content. AreKept content s.parts s.live term both)) c.self.view_is
    (if_both (λ content. IsCutOf content live term (part_of i.left) kept) (λ content. IsCutOf content live term (part_of other) more)
    (λ content. AreKept content (state_of i).parts live term both) holds mid c.in_ok-cut.ensures.holds
    (rw c.deref.ensures.value at c.in_ok-cut.ensures.held) (rw c.deref-in-Some.ensures.value at c.in_ok-more-in-Some.ensures.held)
    (λ content x y. kept_with i.left i.right content live term other kept more both some x y c.in_ok-append-in-Some.ensures.addresses))

pub returns-in_ok-append-in-Some-clause-whole : goal.returns-in_ok-append-in-Some-clause-whole
returns-in_ok-append-in-Some-clause-whole g c =
    let i = c.self.inside in
    let other = c.in-Some.right in
    let some : i.right ≡ Some other = search rules in
    let term = c.args.term.now in
    let left = terms_from i.left i.right i.places in
    let holds = g.D.Store.holds c.args.store.now in
    let mid = g.D.Store.holds c.live_addresses.new.store in
    let is : left ≡ term ∷ c.requires.first.0 = ap (λ (s : JobState). s.terms_left) c.self.view_is ∙ c.requires.first.1 in
    subst (λ (s : JobState). IfSome holds (λ content. HasWholeRanges content (step_ranges s.terms_left s.parts))) c.self.view_is
    (if_both (λ content. HasWholeRanges content (ranges_of term (part_of i.left)))
    (λ content. HasWholeRanges content (ranges_of term (part_of other)))
    (λ content. HasWholeRanges content (step_ranges left (parts_of i.left i.right))) holds mid c.in_ok-cut.ensures.holds
    c.in_ok-cut.ensures.whole c.in_ok-more-in-Some.ensures.whole
    (λ content x y. whole_with i.left i.right content left term c.requires.first.0 other some is x y))
