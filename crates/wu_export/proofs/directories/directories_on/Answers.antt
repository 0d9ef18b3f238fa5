use Rattle.std.proofs.Common.{ℕ, List, [], sym, subst, arith}
use Rattle.wu_export.proofs.FoundDirectories.{IsFound, found_none, found_next, found_all}
use Rattle.wu_export.proofs.directories.directories_on.Goals as goal

pub loop-file-init : goal.loop-file-init
loop-file-init c = subst (λ (l : List (List ℕ)). IsFound [] l []) (sym c.new-found.ensures.items) found_none

pub loop-file-preserved : goal.loop-file-preserved
loop-file-preserved c =
    found_next c.args.files.now _ _ _ c.bytes-path.result.now c.file-item.result c.loop-file.file-index _ (omega arith)
    c.bytes-path.ensures c.file-item.is c.loop-file.invariant c.shared_length.ensures c.in_ok-add_from.ensures

pub returns : goal.returns
returns c = found_all c.args.files.now _ _ c.loop-file.file-index (omega arith) c.loop-file.invariant
