use Rattle.std.proofs.Common.{◌+◌, ◌≤◌, ◌∙◌, subst, sym}
use Rattle.std.proofs.lemmas.List.Elements.{All-filter}
use Rattle.std.specs.List.Sorted.{IsStrictlyIncreasing}
use Rattle.wu_base.specs.declared.addresses.Range.{Range}
use Rattle.wu_base.specs.declared.limits.TheConstants.{ADDRESSES_MAX}
use Rattle.wu_gcl.specs.Regions.{region_of}
use Rattle.wu_solve.specs.Frames.{has_one_of}
use Rattle.wu_solve.proofs.FramePlaces.{apart_kept}
use Rattle.wu_query.proofs.NearGroups.{near_files, near_hits}
use Rattle.wu_query.proofs.groups.frames_near.Goals as goal

pub returns-in-Some-clause-hits : goal.returns-in-Some-clause-hits
returns-in-Some-clause-hits c =
    rw c.in_ok-near-in-Some.ensures
    (near_hits (region_of c.args.expr.now) c.args.frames.now c.args.gathered.now c.requires.terms c.deref.result.now
    (λ term has. (c.in_ok-needed.ensures.members term).0 (rw c.deref.ensures.value at has)) c.in-Some.place c.in-Some.ensures
    c.index-gathered-place.result c.index-gathered-place.is (c.as_slice.ensures ∙ c.in_ok-addresses-in-Some.ensures.addresses)
    (subst IsStrictlyIncreasing (sym c.as_slice.ensures) c.in_ok-addresses-in-Some.ensures.ascending))

pub returns-in-Some-clause-files : goal.returns-in-Some-clause-files
returns-in-Some-clause-files c =
    rw c.in_ok-near-in-Some.ensures
    (near_files (region_of c.args.expr.now) c.args.frames.now c.args.gathered.now c.requires.terms c.deref.result.now
    (λ term has. (c.in_ok-needed.ensures.members term).0 (rw c.deref.ensures.value at has)) c.in-Some.place c.in-Some.ensures
    c.index-gathered-place.result c.index-gathered-place.is (c.as_slice.ensures ∙ c.in_ok-addresses-in-Some.ensures.addresses)
    (subst IsStrictlyIncreasing (sym c.as_slice.ensures) c.in_ok-addresses-in-Some.ensures.ascending))

pub returns-in-Some-clause-apart : goal.returns-in-Some-clause-apart
returns-in-Some-clause-apart c =
    rw c.in_ok-near-in-Some.ensures (apart_kept (has_one_of c.as_slice.result.now) c.args.frames.now c.requires.apart)

pub returns-in-Some-clause-bounded : goal.returns-in-Some-clause-bounded
returns-in-Some-clause-bounded c =
    rw c.in_ok-near-in-Some.ensures
    (All-filter (has_one_of c.as_slice.result.now) (λ (frame : Range). frame.start + frame.len ≤ ADDRESSES_MAX) c.args.frames.now
    c.requires.bounded)
