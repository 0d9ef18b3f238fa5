use Rattle.std.proofs.Common.{◌≡◌, [], sym, arith}
use Rattle.std.proofs.lemmas.List.{nil_from_length}
use Rattle.wu_solve.proofs.SameRegions.{no_words_whole}
use Rattle.wu_solve.proofs.operands.phrase.Goals as goal

pub returns-in-empty : goal.returns-in-empty
returns-in-empty c =
    let none : c.args.words.now ≡ [] = nil_from_length c.args.words.now (omega (arith, c.in-empty.len_below)) in
    rw (none, c.new.ensures.items) (sym (no_words_whole c.args.lists.now c.args.frames.now))
