use Rattle.std.proofs.Common.{arith}
use Rattle.wu_export.specs.Exports.{directory_entry}
use Rattle.wu_export.proofs.WrittenCommands.{more_commands}
use Rattle.wu_export.proofs.writing.put_directories.Goals as goal

pub loop-path-preserved : goal.loop-path-preserved
loop-path-preserved c =
    more_commands (directory_entry c.args.directories.now) c.below_root-path-items.result.now c.path-item.result c.bytes.result.now
    c.loop-path.path-index c.args.out.now.items c.loop-path.out.items c.put_directory.new.out.items (omega arith) c.bytes.ensures c.path-item.is
    c.loop-path.invariant c.in_ok-put_directory.ensures
