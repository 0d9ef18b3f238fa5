use Rattle.std.proofs.Common.{ap, sym, ◌∙◌}
use Rattle.wu_check.specs.Placed.{place_in}
use Rattle.wu_check.proofs.Placing.{few_before, found}
use Rattle.wu_check.proofs.places.place_of.Goals as goal

pub place_in-requires : goal.place_in-requires
place_in-requires c =
    rw c.split_at.ensures.back (few_before c.args.placed.now c.count_ended.result c.requires)

pub returns : goal.returns
returns c =
    let parted = c.count_ended.ensures.parted in
    c.place_in.ensures
    ∙ ap (λ l. place_in l c.args.address) c.split_at.ensures.back
    ∙ sym (found c.args.placed.now c.count_ended.result c.args.address c.requires parted.ended parted.others)
