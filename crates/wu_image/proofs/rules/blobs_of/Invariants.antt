use Rattle.std.proofs.Common.{◌≡◌, ◌++◌, map, take, nat_lt}
use Rattle.std.specs.Prelude.{filter}
use Rattle.wu_image.proofs.rules.blobs_of.Given as goal

abbrev pub invariant-loop-file : goal.invariant-loop-file
invariant-loop-file l = l.blobs.items ≡ filter (nat_lt 0) (map (λ file. file.blob) (take l.file-index l.files))

abbrev pub invariant-loop-part : goal.invariant-loop-part
invariant-loop-part l =
    l.blobs.items ≡ filter (nat_lt 0) (map (λ file. file.blob) l.files) ++ map (λ part. part.blob) (take l.part-index l.parts)
