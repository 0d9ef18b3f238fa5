use Rattle.std.proofs.Common.{arith}
use Rattle.wu_export.specs.Exports.{link_entry}
use Rattle.wu_export.proofs.WrittenCommands.{more_commands}
use Rattle.wu_export.proofs.writing.put_links.Goals as goal

pub loop-path-preserved : goal.loop-path-preserved
loop-path-preserved c =
    more_commands (link_entry c.args.directories.now c.args.number) c.args.paths.now c.path-item.result c.as_slice.result.now
    c.loop-path.path-index c.args.out.now.items c.loop-path.out.items c.put_link.new.out.items (omega arith) c.as_slice.ensures c.path-item.is
    c.loop-path.invariant c.in_ok-put_link.ensures
