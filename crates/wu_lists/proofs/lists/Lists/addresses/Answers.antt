use Rattle.std.proofs.Common.{ℕ, sym, ◌∙◌, ap, rules}
use Rattle.std.specs.Map.{keys_of}
use Rattle.wu_lists.specs.Keeping.{asked}
use Rattle.wu_lists.proofs.AskedFor.{asks-err, asks-memory, asks-ok}
use Rattle.wu_lists.proofs.Fetches.{told-first}
use Rattle.wu_lists.proofs.Spans.{spelled_ascend}
use Rattle.wu_lists.proofs.lists.Lists.addresses.Goals as goal

pub first_kept-requires : goal.first_kept-requires
first_kept-requires g c = (
  keys_of c.args.self.now.entries,
  c.in_ok-ask.ensures.blocks.kept
      ∙ ap (λ (cap : ℕ). asked cap (keys_of c.args.self.now.entries) c.args.block.now) (sym c.in_ok-ask.ensures.blocks.capacity),
)

pub returns-clause-ascend : goal.returns-clause-ascend
returns-clause-ascend g c =
    spelled_ascend c.args.block.now c.in_ok-addresses.addresses.items c.first_kept.result.now c.in_ok-addresses.ensures

pub returns-clause-told : goal.returns-clause-told
returns-clause-told g c =
    told-first c.args.block.now (g.D.Store.holds c.args.store.now) c.args.self.now c.ask.new.self c.first_kept.result.now
    c.in_ok-addresses.addresses.items c.first_kept.ensures.first.0 c.in_ok-ask.ensures.blocks.held c.first_kept.ensures.first.1
    c.in_ok-addresses.ensures

pub returns-in_err-ask-clause-asks : goal.returns-in_err-ask-clause-asks
returns-in_err-ask-clause-asks g c = asks-err _ _ c.from_residual.result (search rules) c.in_err-ask.ensures

pub returns-in_err-addresses-clause-asks : goal.returns-in_err-addresses-clause-asks
returns-in_err-addresses-clause-asks g c = asks-memory _ _ c.from_residual-in_err-addresses.result (search rules) c.in_ok-ask.ensures

pub returns-clause-asks : goal.returns-clause-asks
returns-clause-asks g c = asks-ok _ _ _ c.in_ok-ask.ensures
