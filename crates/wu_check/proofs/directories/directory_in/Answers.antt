use Rattle.std.specs.Prelude.{Option, None, Some, IfNone, MatchOption}
use Rattle.wu_part.specs.Directories.{PartDirectory}
use Rattle.wu_check.proofs.PartDirectories.{directory_of, none_read, other_told}
use Rattle.wu_check.proofs.directories.directory_in.Goals as goal

if_none : (o : Option PartDirectory) (P R : Type 0) (Q : PartDirectory → Type 0) → MatchOption o P Q → (P → R) → IfNone o R
if_none None P R Q m f = f m
if_none (Some d) P R Q m f = tt

pub returns-in-Some-2-clause-none : goal.returns-in-Some-2-clause-none
returns-in-Some-2-clause-none c =
    let read = rw c.in-Some-2.is at c.in_ok-directory.ensures.found in
    let own = directory_of c.args.bytes.now c.in-Some.code.now c.in-Some-2.directory c.in-Some.ensures.found read.0 read.1 in
    if_none c.if_told.result _ _ _ c.if_told.ensures (other_told c.args.bytes.now c.args.part.now c.in-Some-2.directory own)

pub returns-in-None-clause-none : goal.returns-in-None-clause-none
returns-in-None-clause-none c =
    let none = rw c.in-None.is at c.in_ok-directory.ensures.none in
    λ directory of told. none_read c.args.bytes.now c.in-Some.code.now c.in-Some.ensures.found none directory of
