use Rattle.std.proofs.lemmas.List.{take_rest}
use Rattle.wu_vbyte.proofs.NumberLemmas.{number_at}
use Rattle.wu_vbyte.proofs.numbers.take_number.Goals as goal

pub returns-in-Some-clause-found : goal.returns-in-Some-clause-found
returns-in-Some-clause-found c =
    number_at _ _ _ _ c.requires (rw (take_rest c.args.bytes.now c.args.place) at c.in-Some.ensures.found)

pub returns-in-None-clause-none : goal.returns-in-None-clause-none
returns-in-None-clause-none c = rw (take_rest c.args.bytes.now c.args.place) at c.in-None.ensures.none
