use Rattle.std.proofs.Common.{◌≡◌, [], ℕ, List, false}
use Rattle.std.specs.Prelude.{Contains}
use Rattle.std.proofs.lemmas.List.Elements.{All-filter}
use Rattle.wu_base.specs.declared.addresses.Range.{Range}
use Rattle.wu_gcl.specs.Regions.{region_of}
use Rattle.wu_solve.specs.Addresses.{AreAddressesOf}
use Rattle.wu_solve.specs.Frames.{has_one_of}
use Rattle.wu_solve.specs.Needed.{Needs}
use Rattle.wu_solve.specs.Solving.{frame_hits, IsFrame}
use Rattle.wu_solve.proofs.FramePlaces.{apart_kept}
use Rattle.wu_solve.proofs.LeavingOut.{hits_of_kept, files_of_kept}
use Rattle.wu_solve.proofs.Needing.{none_without}
use Rattle.wu_solve.proofs.OneFrame.{HasFrame}
use Rattle.wu_solve.proofs.OneTerm.{none_of_term}
use Rattle.wu_solve.proofs.meeting.frames_with_needed.Goals as goal

pub returns-in-Some-clause-hits : goal.returns-in-Some-clause-hits
returns-in-Some-clause-hits c =
    let region = region_of c.args.expr.now in
    let lists = c.args.lists.now in
    let frames = c.args.frames.now in
    let addresses = c.in-Some.addresses.now in
    let told : (term : List ℕ) × Contains c.deref.result.now term × AreAddressesOf lists term addresses = c.in-Some.ensures in
    let needs : Needs region told.0 = (c.in_ok-terms.ensures.members told.0).0 (rw c.deref.ensures.value at told.1) in
    let none : (f : Range) → HasFrame frames f → has_one_of addresses f ≡ false → frame_hits region lists f ≡ [] =
    λ f sees is. none_without region lists f told.0 needs (none_of_term lists told.0 addresses f told.2 is) in
    rw c.in_ok-met-in-Some.ensures (hits_of_kept region lists (has_one_of addresses) frames none)

pub returns-in-Some-clause-files : goal.returns-in-Some-clause-files
returns-in-Some-clause-files c =
    let region = region_of c.args.expr.now in
    let lists = c.args.lists.now in
    let frames = c.args.frames.now in
    let addresses = c.in-Some.addresses.now in
    let told : (term : List ℕ) × Contains c.deref.result.now term × AreAddressesOf lists term addresses = c.in-Some.ensures in
    let needs : Needs region told.0 = (c.in_ok-terms.ensures.members told.0).0 (rw c.deref.ensures.value at told.1) in
    let none : (f : Range) → HasFrame frames f → has_one_of addresses f ≡ false → frame_hits region lists f ≡ [] =
    λ f sees is. none_without region lists f told.0 needs (none_of_term lists told.0 addresses f told.2 is) in
    rw c.in_ok-met-in-Some.ensures (files_of_kept region lists (has_one_of addresses) frames none)

pub returns-in-Some-clause-frames : goal.returns-in-Some-clause-frames
returns-in-Some-clause-frames c =
    rw c.in_ok-met-in-Some.ensures (All-filter (has_one_of c.in-Some.addresses.now) IsFrame c.args.frames.now c.requires.frames)

pub returns-in-Some-clause-apart : goal.returns-in-Some-clause-apart
returns-in-Some-clause-apart c =
    rw c.in_ok-met-in-Some.ensures (apart_kept (has_one_of c.in-Some.addresses.now) c.args.frames.now c.requires.apart)
