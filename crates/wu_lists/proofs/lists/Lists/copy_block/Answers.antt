use Rattle.std.proofs.Common.{ℕ, List, sym, ◌∙◌, ap, rules}
use Rattle.std.specs.Map.{keys_of}
use Rattle.wu_base.proofs.Results.{on_err}
use Rattle.wu_lists.specs.declared.blocks.Block.{Block}
use Rattle.wu_lists.specs.Keeping.{asked}
use Rattle.wu_lists.proofs.AskedFor.{asks-err, asks-memory, asks-ok}
use Rattle.wu_lists.proofs.Fetches.{gathered-some, told-first}
use Rattle.wu_lists.proofs.Spans.{spelled_ascend}
use Rattle.wu_lists.proofs.lists.Lists.copy_block.Goals as goal

pub returns-in_err-ask-clause-none : goal.returns-in_err-ask-clause-none
returns-in_err-ask-clause-none g c =
    on_err c.from_residual.result (λ frames. g.met.S.AddressSink.none frames c.args.found.now)

pub first_kept-requires : goal.first_kept-requires
first_kept-requires g c = (
  keys_of c.args.self.now.entries,
  c.in_ok-ask.ensures.blocks.kept
      ∙ ap (λ (cap : ℕ). asked cap (keys_of c.args.self.now.entries) c.args.block.now) (sym c.in_ok-ask.ensures.blocks.capacity),
)

pub returns-in_err-ask-clause-asks : goal.returns-in_err-ask-clause-asks
returns-in_err-ask-clause-asks g c = asks-err _ _ c.from_residual.result (search rules) c.in_err-ask.ensures

pub returns-in_err-gain_bytes-clause-asks : goal.returns-in_err-gain_bytes-clause-asks
returns-in_err-gain_bytes-clause-asks g c = asks-memory _ _ c.from_residual-in_err-gain_bytes.result (search rules) c.in_ok-ask.ensures

pub returns-clause-addresses : goal.returns-clause-addresses
returns-clause-addresses g c = λ frames.
    let block : Block = c.args.block.now in
    let addresses : List ℕ = c.first_kept.ensures.checked.0 in
    let spelled = c.first_kept.ensures.checked.1 in
    gathered-some _ (g.S.AddressSink.gained frames) block frames (g.D.Store.holds c.args.store.now) c.args.self.now c.args.found.now
    c.gain_bytes.new.self addresses (spelled_ascend block addresses c.first_kept.result.now spelled)
    (told-first block (g.D.Store.holds c.args.store.now) c.args.self.now c.ask.new.self c.first_kept.result.now addresses
    c.first_kept.ensures.first.0 c.in_ok-ask.ensures.blocks.held c.first_kept.ensures.first.1 spelled)
    (c.in_ok-gain_bytes.ensures.ok c.requires frames addresses spelled)

pub returns-clause-asks : goal.returns-clause-asks
returns-clause-asks g c = asks-ok _ _ _ c.in_ok-ask.ensures
