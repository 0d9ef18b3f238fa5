use Rattle.std.proofs.Common.{◌≡◌, ℕ, List, [], ◌∷◌, false, sym, ◌∙◌, subst, rules}
use Rattle.std.specs.Prelude.{Err, IfSome}
use Rattle.std.specs.List.{list_any}
use Rattle.std.specs.Map.{keys_of}
use Rattle.wu_layout.proofs.EntryLemmas.{IfSome-map}
use Rattle.wu_base.specs.declared.troubles.Trouble.TheVariants.{Damaged, NoMemory}
use Rattle.wu_lists.specs.Blocks.{HasBytes, IsSpelledIn, IsSpelling}
use Rattle.wu_lists.specs.declared.blocks.Block.{Block}
use Rattle.wu_lists.specs.Keeping.{Asks, Kept, is_same}
use Rattle.wu_lists.proofs.AskedFor.{asks-broken}
use Rattle.wu_lists.proofs.Fetches.{asks-read}
use Rattle.wu_lists.proofs.Readings.{cause-damaged, cause-memory, unspelled}
use Rattle.wu_lists.proofs.lists.Lists.load.Goals as goal

pub returns-in_err-bytes-clause-asks : goal.returns-in_err-bytes-clause-asks
returns-in_err-bytes-clause-asks g c =
    asks-broken c.args.block.now c.args.self.now c.take_room-room.new.self c.args.store.now c.read_bytes.new.store
    _ c.from_residual.result (search rules) c.requires c.take_room-room.ensures c.in_err-bytes.ensures.holds
    c.in_err-bytes.ensures.moments c.in_err-bytes.ensures.cause

pub returns-in_err-check-clause-asks : goal.returns-in_err-check-clause-asks
returns-in_err-check-clause-asks g c =
    let block : Block = c.args.block.now in
    let holds = g.D.Store.holds c.args.store.now in
    let none : (addresses : List ℕ) → IsSpelling block addresses c.in_ok-bytes.bytes.items → ⊥ =
    rw c.deref.ensures.value at c.in_err-check.ensures.err.1 in
    let damaged : c.from_residual-in_err-check.result ≡ Err (Damaged block.blob) = search rules in
    asks-broken block c.args.self.now c.take_room-room.new.self c.args.store.now c.read_bytes.new.store (Damaged block.blob)
    c.from_residual-in_err-check.result damaged c.requires c.take_room-room.ensures c.in_ok-bytes.ensures.holds
    c.in_ok-bytes.ensures.moments
    (cause-damaged block (IfSome holds (λ content. IsSpelledIn content block → ⊥)) (g.D.Store.faults c.args.store.now)
    (g.D.Store.faults c.read_bytes.new.store) (g.D.Store.reads c.args.store.now) (g.D.Store.reads c.read_bytes.new.store)
    c.in_ok-bytes.ensures.calm c.in_ok-bytes.ensures.reads
    (IfSome-map (λ content. HasBytes content block c.in_ok-bytes.bytes.items) (λ content. IsSpelledIn content block → ⊥) holds
    (λ content has. unspelled content block c.in_ok-bytes.bytes.items has none) c.in_ok-bytes.ensures.bytes))

pub returns-in_err-keep-clause-asks : goal.returns-in_err-keep-clause-asks
returns-in_err-keep-clause-asks g c =
    let block : Block = c.args.block.now in
    let Broken = IfSome (g.D.Store.holds c.args.store.now) (λ content. IsSpelledIn content block → ⊥) in
    let memory : c.from_residual-in_err-keep.result ≡ Err NoMemory = search rules in
    asks-broken block c.args.self.now c.keep.new.self c.args.store.now c.read_bytes.new.store NoMemory
    c.from_residual-in_err-keep.result memory c.requires (c.in_err-keep.ensures.err ∙ c.take_room-room.ensures)
    c.in_ok-bytes.ensures.holds c.in_ok-bytes.ensures.moments
    (cause-memory (block ∷ []) block.blob Broken (g.D.Store.faults c.args.store.now) (g.D.Store.faults c.read_bytes.new.store)
    (g.D.Store.reads c.args.store.now) (g.D.Store.reads c.read_bytes.new.store) c.in_ok-bytes.ensures.calm c.in_ok-bytes.ensures.reads)

pub keep-requires-clause-checked : goal.keep-requires-clause-checked
keep-requires-clause-checked g c = (c.in_ok-check.ensures.ok.0, rw c.deref.ensures.value at c.in_ok-check.ensures.ok.1)

pub returns-clause-asks : goal.returns-clause-asks
returns-clause-asks g c =
    let addresses = c.in_ok-check.ensures.ok.0 in
    let spelled : IsSpelling c.args.block.now addresses c.in_ok-bytes.bytes.items =
    rw c.deref.ensures.value at c.in_ok-check.ensures.ok.1 in
    let old : Kept = c.take_room-room.new.self in
    let absent = subst (λ (kept : Kept). list_any (is_same c.args.block.now) (keys_of kept.entries) ≡ false)
    (sym c.take_room-room.ensures) c.requires in
    record {
      blocks =
          subst (λ (kept : Kept). Asks (c.args.block.now ∷ []) (g.D.Store.holds c.args.store.now) kept c.keep.new.self
          (g.D.Store.reads c.args.store.now) (g.D.Store.reads c.read_bytes.new.store)) c.take_room-room.ensures
          (asks-read c.args.block.now (g.D.Store.holds c.args.store.now) old c.keep.new.self (g.D.Store.reads c.args.store.now)
          (g.D.Store.reads c.read_bytes.new.store) c.in_ok-keep.ensures.capacity c.in_ok-keep.ensures.asked
          c.in_ok-bytes.bytes.items addresses absent c.in_ok-bytes.ensures.reads c.in_ok-bytes.ensures.bytes spelled
          c.in_ok-keep.ensures.held);
      kept = tt;
      holds = c.in_ok-bytes.ensures.holds;
      moments = c.in_ok-bytes.ensures.moments;
      calm = c.in_ok-bytes.ensures.calm;
      cause = tt;
    }
