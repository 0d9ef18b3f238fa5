use Rattle.std.proofs.Common.{ℕ, List, sym, ap, ◌∙◌}
use Rattle.wu_solve.specs.Addresses.{is_among}
use Rattle.wu_solve.proofs.TermLists.{no_addresses, addresses_at}
use Rattle.wu_solve.proofs.lookup.has_address.Goals as goal

pub returns-in-Some : goal.returns-in-Some
returns-in-Some c =
    c.is_at.ensures ∙ ap (λ (xs : List ℕ). is_among xs c.args.address) c.as_slice-addresses.ensures
    ∙ addresses_at c.args.lists.now c.args.term.now c.in-Some.list c.index-lists-list.result c.in-Some.ensures c.args.address

pub returns-in-None : goal.returns-in-None
returns-in-None c = sym (no_addresses c.args.lists.now c.args.term.now c.args.address c.in-None.ensures)
