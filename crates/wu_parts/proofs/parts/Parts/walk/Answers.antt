use Rattle.std.proofs.Common.{refl}
use Rattle.wu_base.proofs.Results.{on_err}
use Rattle.wu_parts.specs.ViewOfParts.{contents_of}
use Rattle.wu_parts.proofs.Asking.{asks-told, cause-told, first-told}
use Rattle.wu_parts.proofs.FetchedAddresses.{gathered-seen}
use Rattle.wu_parts.proofs.parts.Parts.walk.Goals as goal

pub returns-in_err-walk_parts-clause-cause : goal.returns-in_err-walk_parts-clause-cause
returns-in_err-walk_parts-clause-cause g c =
    cause-told c.args.self.now (contents_of c.self.inside) c.self.inside.parts.items c.as_slice-parts.result.now c.self.view_is refl refl
    c.as_slice-parts.ensures.value c.args.term.now c.args.frames.now (g.D.Store.holds c.args.store.now) c.from_residual.result
    c.in_err-walk_parts.field-0.0 (g.D.Store.faults c.args.store.now) (g.D.Store.faults c.walk_parts.new.store)
    (g.D.Store.reads c.args.store.now) (g.D.Store.reads c.walk_parts.new.store) c.from_residual.ensures.1
    c.in_err-walk_parts.ensures.cause

pub returns-in_err-walk_parts-clause-kept : goal.returns-in_err-walk_parts-clause-kept
returns-in_err-walk_parts-clause-kept g c =
    on_err c.from_residual.result
    (first-told c.args.self.now (contents_of c.self.inside) c.self.inside.parts.items c.as_slice-parts.result.now c.self.view_is refl refl
    c.as_slice-parts.ensures.value c.args.term.now c.args.frames.now (g.D.Store.holds c.args.store.now) c.walk_parts.new.lists
    c.in_err-walk_parts.ensures.kept)

pub returns-clause-blocks : goal.returns-clause-blocks
returns-clause-blocks g c =
    asks-told c.args.self.now (contents_of c.self.inside) c.self.inside.parts.items c.as_slice-parts.result.now c.self.view_is refl refl
    c.as_slice-parts.ensures.value c.args.term.now c.args.frames.now (g.D.Store.holds c.args.store.now) c.walk_parts.new.lists
    (g.D.Store.reads c.args.store.now) (g.D.Store.reads c.walk_parts.new.store) c.in_ok-walk_parts.ensures.blocks

pub returns-clause-addresses : goal.returns-clause-addresses
returns-clause-addresses g c = λ wanted.
    let gains = c.in_ok-walk_parts.ensures.addresses wanted in
    record {
      more = gains.more;
      gained = gains.gained;
      kind = gathered-seen c.args.self.now (contents_of c.self.inside) c.self.inside.parts.items c.as_slice-parts.result.now c.self.view_is
          refl refl c.as_slice-parts.ensures.value c.args.term.now c.args.frames.now (g.D.Store.holds c.args.store.now) gains.more
          c.self.invariant.stored.spans gains.kind;
    }
