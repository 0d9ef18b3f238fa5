use Rattle.std.proofs.Common.{arith, refl}
use Rattle.std.proofs.lemmas.Grind.{common_steps}
use Rattle.wu_query.proofs.FilesAtPlaces.{range_by_number}
use Rattle.wu_query.proofs.listing.start_at.Goals as goal

pub returns-in-Some : goal.returns-in-Some
returns-in-Some c = rw (range_by_number c.args.space.now.ranges c.args.view.now c.args.place _ c.in-Some.ensures) (grind (arith, common_steps))

pub returns-in-None : goal.returns-in-None
returns-in-None c = rw (range_by_number c.args.space.now.ranges c.args.view.now c.args.place _ c.in-None.ensures) refl
