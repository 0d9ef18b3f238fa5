use Rattle.std.proofs.Common.{◌<◌, take}
use Rattle.std.specs.List.{AllByRecursion}
use Rattle.wu_image.proofs.rules.are_drawn.Given as goal

abbrev pub invariant-loop-blob : goal.invariant-loop-blob
invariant-loop-blob l = AllByRecursion (λ blob. (0 < blob) × (blob < l.next_blob)) (take l.blob-index l.blobs)
