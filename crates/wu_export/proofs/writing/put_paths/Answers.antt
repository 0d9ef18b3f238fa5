use Rattle.std.proofs.Common.{ℕ, arith}
use Rattle.std.specs.Prelude.{map}
use Rattle.wu_export.specs.Exports.{command_of, commands_of, file_entry, link_entry, path_entries}
use Rattle.wu_export.proofs.WrittenCommands.{all_paths, in_two}
use Rattle.wu_export.proofs.writing.put_paths.Goals as goal

pub returns : goal.returns
returns c =
    let directories = c.args.directories.now in
    let number : ℕ = c.args.number in
    let paths = c.args.paths.now in
    let least = c.as_slice.result.now in
    let others = c.others.result.now in
    in_two c.args.out.now.items c.put_file.new.out.items c.put_links.new.out.items (command_of (file_entry directories number least))
    (commands_of (map (link_entry directories number) others)) (commands_of (path_entries directories number paths))
    c.in_ok-put_file.ensures c.in_ok-put_links.ensures
    (all_paths directories number paths others least c.least-item.result (omega arith) c.as_slice.ensures c.least-item.is c.others.ensures)
