use Rattle.std.proofs.Common.{◌-◌, ◌^◌, ◌+◌, arith, rules}
use Rattle.wu_base.proofs.Results.{on_err}
use Rattle.wu_lists.proofs.Ascending.{ascend-higher, ascend-lower}
use Rattle.wu_lists.proofs.AskedFor.{asks-err, asks-memory, asks-ok}
use Rattle.wu_lists.proofs.Fetches.{gathered-some}
use Rattle.wu_lists.proofs.lists.Lists.put_block.Goals as goal

pub returns-in_err-addresses-clause-none : goal.returns-in_err-addresses-clause-none
returns-in_err-addresses-clause-none g c =
    on_err c.from_residual.result (g.met.S.AddressSink.none c.args.frames.now c.args.found.now)

pub returns-in_err-addresses-clause-asks : goal.returns-in_err-addresses-clause-asks
returns-in_err-addresses-clause-asks g c = asks-err _ _ c.from_residual.result (search rules) c.in_err-addresses.ensures.asks

pub returns-in_err-gain-clause-asks : goal.returns-in_err-gain-clause-asks
returns-in_err-gain-clause-asks g c = asks-memory _ _ c.from_residual-in_err-gain.result (search rules) c.in_ok-addresses.ensures.asks

pub gain-requires-clause-ascend : goal.gain-requires-clause-ascend
gain-requires-clause-ascend g c =
    rw c.deref.ensures.value
    (ascend-lower 0 c.args.block.now.first (2 ^ 64 - 1) c.in_ok-addresses.addresses.items (omega arith)
    (ascend-higher c.args.block.now.first (c.args.block.now.last + 1) (2 ^ 64 - 1) c.in_ok-addresses.addresses.items
    (omega (arith, c.requires.bounded)) c.in_ok-addresses.ensures.ascend))

pub returns-clause-addresses : goal.returns-clause-addresses
returns-clause-addresses g c =
    let frames = c.args.frames.now in
    let gained : g.S.AddressSink.gained frames c.in_ok-addresses.addresses.items c.args.found.now c.gain.new.self =
    (rw c.deref.ensures.value at c.in_ok-gain.ensures.ok) c.requires.given in
    gathered-some _ (g.S.AddressSink.gained frames) c.args.block.now frames (g.D.Store.holds c.args.store.now) c.args.self.now c.args.found.now
    c.gain.new.self c.in_ok-addresses.addresses.items c.in_ok-addresses.ensures.ascend c.in_ok-addresses.ensures.told gained

pub returns-clause-asks : goal.returns-clause-asks
returns-clause-asks g c = asks-ok _ _ _ c.in_ok-addresses.ensures.asks
