use Rattle.wu_image.proofs.HomeLemmas.{RoomLeft}
use Rattle.wu_image.proofs.rules.have_homes.Given as goal

abbrev pub invariant-loop-file : goal.invariant-loop-file
invariant-loop-file l = RoomLeft l.files l.parts l.file-index l.room.items
