use Rattle.std.proofs.Common.{sym}
use Rattle.wu_solve.proofs.TermLists.{no_addresses, addresses_at}
use Rattle.wu_cursor.proofs.places.addresses_of.Goals as goal

pub returns-in-Some-clause-same : goal.returns-in-Some-clause-same
returns-in-Some-clause-same c = λ address.
    rw c.as_slice.ensures
    (addresses_at c.args.lists.now c.args.term.now c.in-Some.place c.index-lists-place.result c.in-Some.ensures address)

pub returns-in-None-clause-same : goal.returns-in-None-clause-same
returns-in-None-clause-same c = λ address. sym (no_addresses c.args.lists.now c.args.term.now address c.in-None.ensures)
