use Rattle.std.proofs.Common.{ℕ, ap, ◌∙◌}
use Rattle.std.specs.Prelude.{codes}
use Rattle.wu_export.specs.Exports.{Directory, command_of, directory_entry, last_name, number_of, parent_path}
use Rattle.wu_export.specs.Finding.{placed}
use Rattle.wu_export.proofs.WrittenCommands.{directory-command, in_two}
use Rattle.wu_export.proofs.writing.put_directory.Goals as goal

pub returns : goal.returns
returns c =
    let directories = c.args.directories.now in
    let path = c.args.path.now in
    let number : ℕ = c.number_of.result in
    let parent : ℕ = number_of directories (parent_path path) in
    in_two c.args.out.now.items c.put_place.new.out.items c.extend_from_slice.new.self.items
    (placed (codes "mkdir") number parent (last_name path)) (codes "\t0\t0\t755\n") (command_of (directory_entry directories path))
    c.in_ok-put_place.ensures.bytes c.in_ok-extend_from_slice.ensures.items
    (directory-command number parent (last_name path) c.number_of.ensures.small c.in_ok-put_place.ensures.small
    ∙ ap (λ (k : ℕ). command_of (Directory k parent (last_name path))) c.number_of.ensures.value)
