use Rattle.std.proofs.Common.{◌≡◌, ◌∷◌, ◌++◌, append_assoc}
use Rattle.std.specs.List.{flat_map}
use Rattle.wu_gcl.specs.Printing.{spaced}
use Rattle.wu_gcl.proofs.Joining.{join_spaced}
use Rattle.wu_gcl.proofs.printer.put_words.Goals as goal

pub returns : goal.returns
returns c =
    let split : c.args.words.now ≡ c.in-Some.first.now ∷ c.in-Some.more.now = c.in-Some.ensures.cases.0 in
    let front : c.put.new.out.items ≡ c.args.out.now.items ++ c.in-Some.first.now = rw (← c.as_slice.ensures) c.in_ok-put.ensures in
    rw (split, c.in_ok-put_spaced.ensures, front, join_spaced)
    (append_assoc c.args.out.now.items c.in-Some.first.now (flat_map spaced c.in-Some.more.now))
