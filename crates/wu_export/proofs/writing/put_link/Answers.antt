use Rattle.std.proofs.Common.{ℕ, ◌<◌, ◌^◌, [], ◌∷◌, arith}
use Rattle.std.specs.Prelude.{codes}
use Rattle.wu_export.specs.Exports.{command_of, last_name, link_entry, number_of, parent_path}
use Rattle.wu_export.specs.Finding.{placed}
use Rattle.wu_export.proofs.WrittenCommands.{in_two, link-command}
use Rattle.wu_export.proofs.writing.put_link.Goals as goal

pub returns : goal.returns
returns c =
    let directories = c.args.directories.now in
    let path = c.args.path.now in
    let number : ℕ = c.args.number in
    let small : number < 2 ^ 64 = omega arith in
    let parent : ℕ = number_of directories (parent_path path) in
    in_two c.args.out.now.items c.put_place.new.out.items c.push.new.self.items
    (placed (codes "link") number parent (last_name path)) (10 ∷ []) (command_of (link_entry directories number path))
    c.in_ok-put_place.ensures.bytes c.in_ok-push.ensures.items
    (link-command number parent (last_name path) small c.in_ok-put_place.ensures.small)
