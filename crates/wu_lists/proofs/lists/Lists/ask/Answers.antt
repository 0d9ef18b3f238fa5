use Rattle.std.proofs.Common.{◌≡◌, [], ◌∷◌, true, false, refl, sym, ◌∙◌, ap, subst, rules}
use Rattle.std.specs.List.{list_any}
use Rattle.std.specs.Map.{keys_of}
use Rattle.wu_lists.specs.Asking.{AsksFor}
use Rattle.wu_lists.specs.Keeping.{Kept, is_same}
use Rattle.wu_lists.proofs.Fetches.{asks-kept}
use Rattle.wu_lists.proofs.lists.Lists.ask.Goals as goal

pub returns-then-is_kept : goal.returns-then-is_kept
returns-then-is_kept g c =
    let kept : c.is_kept.result ≡ true = search rules in
    record {
      blocks =
          asks-kept c.args.block.now (g.D.Store.holds c.args.store.now) c.args.self.now c.is_kept.new.self
          (g.D.Store.reads c.args.store.now) (g.D.Store.reads c.args.store.now) c.is_kept.ensures.capacity (c.is_kept.ensures.asked kept)
          (sym c.is_kept.ensures.kept ∙ kept) refl c.is_kept.ensures.held;
      kept = tt;
      holds = refl;
      moments = refl;
      calm = refl;
      cause = tt;
    }

pub load-requires : goal.load-requires
load-requires g c =
    let absent : c.is_kept.result ≡ false = search rules in
    ap (λ (k : Kept). list_any (is_same c.args.block.now) (keys_of k.entries)) (c.is_kept.ensures.absent absent)
    ∙ sym c.is_kept.ensures.kept ∙ absent

pub returns : goal.returns
returns g c =
    let absent : c.is_kept.result ≡ false = search rules in
    subst (λ (kept : Kept). AsksFor g.D.Store.holds g.D.Store.moments g.D.Store.faults g.D.Store.reads (c.args.block.now ∷ [])
    c.args.block.now kept c.load.new.self c.args.store.now c.load.new.store c.load.result) (c.is_kept.ensures.absent absent)
    c.load.ensures.asks
