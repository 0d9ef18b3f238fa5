use Rattle.std.proofs.Common.{◌≡◌, List, true, false, refl, sym, ◌∙◌, subst, rules}
use Rattle.wu_lists.specs.Asking.{AsksFor}
use Rattle.wu_lists.specs.declared.blocks.Block.{Block}
use Rattle.wu_lists.specs.Keeping.{Asks}
use Rattle.wu_lists.proofs.Asking.{asks-none}
use Rattle.wu_lists.proofs.Fetches.{gathered-none, needed-nothing, needed-one}
use Rattle.wu_lists.proofs.lists.Lists.visit.Goals as goal

pub returns-then-not-is_needed-clause-addresses : goal.returns-then-not-is_needed-clause-addresses
returns-then-not-is_needed-clause-addresses g c = λ wanted.
    let missed : c.is_needed.result ≡ false = search rules in
    gathered-none _ (g.S.AddressSink.gained c.args.frames.now) c.args.block.now c.args.frames.now (g.D.Store.holds c.args.store.now)
    c.args.self.now c.args.found.now (g.met.S.AddressSink.none c.args.frames.now c.args.found.now) c.requires.span
    (sym c.is_needed.ensures ∙ missed)

pub returns-then-not-is_needed-clause-asks : goal.returns-then-not-is_needed-clause-asks
returns-then-not-is_needed-clause-asks g c =
    let missed : c.is_needed.result ≡ false = search rules in
    record {
      blocks =
          subst (λ (bs : List Block). Asks bs (g.D.Store.holds c.args.store.now) c.args.self.now c.args.self.now
          (g.D.Store.reads c.args.store.now) (g.D.Store.reads c.args.store.now))
          (sym (needed-nothing c.args.frames.now c.args.block.now (sym c.is_needed.ensures ∙ missed)))
          (asks-none (g.D.Store.holds c.args.store.now) c.args.self.now (g.D.Store.reads c.args.store.now));
      kept = tt;
      holds = refl;
      moments = refl;
      calm = refl;
      cause = tt;
    }

pub returns-clause-asks : goal.returns-clause-asks
returns-clause-asks g c =
    let needed : c.is_needed.result ≡ true = search rules in
    subst (λ (bs : List Block). AsksFor g.D.Store.holds g.D.Store.moments g.D.Store.faults g.D.Store.reads bs c.args.block.now
    c.args.self.now c.pass_on.new.self c.args.store.now c.pass_on.new.store c.pass_on.result)
    (sym (needed-one c.args.frames.now c.args.block.now (sym c.is_needed.ensures ∙ needed))) c.pass_on.ensures.asks
