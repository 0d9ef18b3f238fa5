use Rattle.std.proofs.Common.{ℕ, List, sym, ◌∙◌, ap, rules}
use Rattle.std.specs.Map.{keys_of}
use Rattle.wu_base.proofs.Results.{on_err}
use Rattle.wu_lists.specs.declared.blocks.Block.{Block}
use Rattle.wu_lists.specs.Keeping.{asked}
use Rattle.wu_lists.proofs.AskedFor.{asks-err, asks-ok}
use Rattle.wu_lists.proofs.Fetches.{gathered-some, told-first}
use Rattle.wu_lists.proofs.Spans.{spelled_ascend}
use Rattle.wu_lists.proofs.lists.Lists.count_block.Goals as goal

pub returns-in_err-ask-clause-none : goal.returns-in_err-ask-clause-none
returns-in_err-ask-clause-none g c =
    on_err c.from_residual.result (g.met.S.AddressSink.none c.args.frames.now c.args.found.now)

pub returns-in_err-ask-clause-asks : goal.returns-in_err-ask-clause-asks
returns-in_err-ask-clause-asks g c = asks-err _ _ c.from_residual.result (search rules) c.in_err-ask.ensures

pub first_kept-bytes-requires : goal.first_kept-bytes-requires
first_kept-bytes-requires g c = (
  keys_of c.args.self.now.entries,
  c.in_ok-ask.ensures.blocks.kept
      ∙ ap (λ (cap : ℕ). asked cap (keys_of c.args.self.now.entries) c.args.block.now) (sym c.in_ok-ask.ensures.blocks.capacity),
)

pub returns-clause-addresses : goal.returns-clause-addresses
returns-clause-addresses g c =
    let block : Block = c.args.block.now in
    let frames = c.args.frames.now in
    let bytes : List ℕ = c.first_kept-bytes.result.now in
    let addresses : List ℕ = c.first_kept-bytes.ensures.checked.0 in
    let spelled = c.first_kept-bytes.ensures.checked.1 in
    gathered-some _ (g.S.AddressSink.gained frames) block frames (g.D.Store.holds c.args.store.now) c.args.self.now c.args.found.now
    c.gain_whole.new.self addresses (spelled_ascend block addresses bytes spelled)
    (told-first block (g.D.Store.holds c.args.store.now) c.args.self.now c.ask.new.self bytes addresses
    c.first_kept-bytes.ensures.first.0 c.in_ok-ask.ensures.blocks.held c.first_kept-bytes.ensures.first.1 spelled)
    (c.gain_whole.ensures c.requires.counted addresses bytes spelled)

pub returns-clause-asks : goal.returns-clause-asks
returns-clause-asks g c = asks-ok _ _ _ c.in_ok-ask.ensures
