use Rattle.std.proofs.Common.{◌≡◌, ℕ, ◌∙◌, ap, sym, subst, arith, List, [], None}
use Rattle.wu_base.specs.declared.addresses.PartRec.{PartRec}
use Rattle.wu_base.specs.declared.troubles.Trouble.TheVariants.{NoMemory}
use Rattle.lru.specs.LruCache.{lru_cache}
use Rattle.wu_lists.specs.Keeping.{Kept}
use Rattle.wu_parts.specs.declared.parts.TheConstants.{BLOCKS_KEPT}
use Rattle.wu_parts.specs.Contents.{Contents}
use Rattle.wu_parts.specs.Loading.{IsLoadCause, end_of}
use Rattle.wu_parts.specs.Memory.{Memory}
use Rattle.wu_parts.specs.StoredParts.{AreSound, directories_of, records_of}
use Rattle.wu_parts.proofs.Asking.{answered}
use Rattle.wu_parts.proofs.LoadedParts.{loaded-end, loaded-sound}
use Rattle.wu_parts.proofs.OpenedLemmas.{cause-memory}
use Rattle.wu_parts.proofs.parts.Parts.load.Goals as goal

pub end_of-requires : goal.end_of-requires
end_of-requires g c =
    let last = loaded-end (g.D.Store.holds c.args.store.now) c.args.records.now (g.D.Store.reads c.args.store.now)
    (g.D.Store.reads c.open_parts.new.store) c.in_ok-parts.parts.items c.in_ok-parts.ensures.opened in
    omega (arith, last)

pub from_address-requires : goal.from_address-requires
from_address-requires g c =
    let last = loaded-end (g.D.Store.holds c.args.store.now) c.args.records.now (g.D.Store.reads c.args.store.now)
    (g.D.Store.reads c.open_parts.new.store) c.in_ok-parts.parts.items c.in_ok-parts.ensures.opened in
    omega (arith, last, c.end_of.ensures)

pub returns-in_err-new-clause-cause : goal.returns-in_err-new-clause-cause
returns-in_err-new-clause-cause g c =
    answered
    (IsLoadCause (g.D.Store.holds c.args.store.now) c.args.records.now (g.D.Store.faults c.args.store.now)
    (g.D.Store.faults c.open_parts.new.store) (g.D.Store.reads c.args.store.now) (g.D.Store.reads c.open_parts.new.store))
    c.from_residual-in_err-new.result NoMemory c.from_residual-in_err-new.ensures.1
    (cause-memory (g.D.Store.holds c.args.store.now) c.args.records.now (g.D.Store.faults c.args.store.now)
    (g.D.Store.faults c.open_parts.new.store) (g.D.Store.reads c.args.store.now) (g.D.Store.reads c.open_parts.new.store)
    c.in_ok-parts.ensures.calm)

pub invariant_of-result : goal.invariant_of-result
invariant_of-result g c =
    let low : c.from_address.result.low ≡ c.end_of.result = ap (λ (m : Memory). m.low) c.from_address.ensures in
    subst (λ (n : ℕ). AreSound n c.args.next_blob c.args.flushes c.in_ok-parts.parts.items None) (sym (low ∙ c.end_of.ensures))
    (loaded-sound (g.D.Store.holds c.args.store.now) c.args.records.now (g.D.Store.reads c.args.store.now)
    (g.D.Store.reads c.open_parts.new.store) c.in_ok-parts.parts.items c.in_ok-parts.ensures.opened c.args.next_blob c.args.flushes
    c.requires)

pub returns-clause-loaded : goal.returns-clause-loaded
returns-clause-loaded g c =
    let opened = c.in_ok-parts.ensures.opened in
    let make : Memory → List PartRec → Kept → List ℕ → Contents = λ memory records kept stale.
    record {
      memory = memory;
      parts = records;
      directories = directories_of c.in_ok-parts.parts.items;
      kept = kept;
      flush_at = c.args.flush_at;
      next_blob = c.args.next_blob;
      flushes = c.args.flushes;
      stale = stale;
      job = None;
    } in
    let memory_at : ℕ → Memory = λ n. record { lists = []; stored = 0; low = n; end = n } in
    let memory : c.from_address.result ≡ memory_at (end_of c.args.records.now) = c.from_address.ensures ∙ ap memory_at c.end_of.ensures in
    record {
      read = opened.read;
      opened = opened.opened;
      kept =
          ap (λ (m : Memory). make m (records_of c.in_ok-parts.parts.items) c.in_ok-new.field-0 c.new-2.result.items) memory
          ∙ ap (λ (rs : List PartRec). make (memory_at (end_of c.args.records.now)) rs c.in_ok-new.field-0 c.new-2.result.items) opened.same
          ∙ ap (λ (k : Kept). make (memory_at (end_of c.args.records.now)) c.args.records.now k c.new-2.result.items) c.in_ok-new.ensures
          ∙ ap (make (memory_at (end_of c.args.records.now)) c.args.records.now (lru_cache [] BLOCKS_KEPT)) c.new-2.ensures.items;
      read_are = opened.read_are;
    }
