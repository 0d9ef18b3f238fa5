use Rattle.std.proofs.Common.{◌≡◌, ◌+◌, ◌<◌, ◌∙◌, ℕ, Bool, cond, ap, arith}
use Rattle.std.proofs.lemmas.Result.{on_ok_weaker}
use Rattle.wu_parts.specs.Contents.{Contents}
use Rattle.wu_engine.specs.Indexing.{FlushesFull, is_stored}
use Rattle.wu_engine.specs.Puts.{try_put}
use Rattle.wu_engine.proofs.DrawnNumbers.{draws_kept, draws_more, draws_then}
use Rattle.wu_engine.proofs.LeftImages.{changed_first, changed_twice}
use Rattle.wu_engine.proofs.OtherBlobs.{drawn_once, others_once, others_twice}
use Rattle.wu_engine.proofs.updating.follow.Goals as goal

pub index-requires : goal.index-requires
index-requires g c = rw c.in_ok-blob.ensures.parts c.requires.indexable

pub returns-clause-done : goal.returns-clause-done
returns-clause-done g c =
    on_ok_weaker c.flush_if_full.result
    (λ (flushed : FlushesFull c.index.new.space.ranges c.index.new.parts c.flush_if_full.new.parts
    (g.D.Store.holds c.store_text.new.store, g.D.Store.moments c.store_text.new.store)
    (g.D.Store.holds c.flush_if_full.new.store, g.D.Store.moments c.flush_if_full.new.store)). record {
      blob = c.in_ok-blob.blob;
      indexed = c.index.new.parts;
      between = (g.D.Store.holds c.store_text.new.store, g.D.Store.moments c.store_text.new.store);
      drawn = c.in_ok-blob.ensures.blob;
      stored = c.in_ok-blob.ensures.stored;
      catalog = rw c.in_ok-blob.ensures.parts at c.in_ok-index.ensures.catalog;
      gained = rw c.in_ok-blob.ensures.parts at c.in_ok-index.ensures.memory;
      others = rw c.in_ok-blob.ensures.parts at c.in_ok-index.ensures.others;
      flushed = flushed;
    })
    c.flush_if_full.ensures.flushed

pub flush_if_full-requires-clause-blob : goal.flush_if_full-requires-clause-blob
flush_if_full-requires-clause-blob g c =
    let drawn = drawn_once c.args.effect.texted c.args.text.now c.args.parts.now c.in_ok-blob.ensures.parts c.in_ok-index.ensures.others in
    omega (arith, drawn.most, c.requires.blobs)

pub flush_if_full-requires-clause-flushes : goal.flush_if_full-requires-clause-flushes
flush_if_full-requires-clause-flushes g c =
    let drawn = drawn_once c.args.effect.texted c.args.text.now c.args.parts.now c.in_ok-blob.ensures.parts c.in_ok-index.ensures.others in
    omega (arith, drawn.flushes, c.requires.flushes)

pub returns-clause-elsewhere : goal.returns-clause-elsewhere
returns-clause-elsewhere g c =
    others_twice (g.D.Store.holds c.flush_if_full.new.store)
    (drawn_once c.args.effect.texted c.args.text.now c.args.parts.now c.in_ok-blob.ensures.parts c.in_ok-index.ensures.others)
    c.store_text.ensures.elsewhere c.flush_if_full.ensures.elsewhere

pub returns-in_err-blob-clause-elsewhere : goal.returns-in_err-blob-clause-elsewhere
returns-in_err-blob-clause-elsewhere g c = others_once c.args.parts.now c.store_text.ensures.elsewhere

pub returns-in_err-index-clause-elsewhere : goal.returns-in_err-index-clause-elsewhere
returns-in_err-index-clause-elsewhere g c = others_once c.args.parts.now c.store_text.ensures.elsewhere

pub returns-clause-untouched : goal.returns-clause-untouched
returns-clause-untouched g c =
    let old = c.args.parts.now in
    let drawn = c.in_ok-blob.ensures.parts in
    let others = c.in_ok-index.ensures.others in
    on_ok_weaker c.flush_if_full.result
    (λ left stored few.
    let fewer : c.index.new.parts.memory.stored < c.index.new.parts.flush_at =
    omega (
      arith,
      few,
      c.in_ok-index.ensures.memory.stored,
      ap (λ (p : Contents). p.memory.stored) drawn,
      ap (λ (p : Contents). p.flush_at) others,
      ap (λ (p : Contents). p.flush_at) drawn,
    ) in
    let done = left fewer in
    let none : old.next_blob + cond {A = ℕ} (is_stored c.args.effect.texted c.args.text.now) 1 0 ≡ old.next_blob =
    omega (arith, ap (λ (b : Bool). cond {A = ℕ} b 1 0) stored) in (
      done.0 ∙ c.store_text.ensures.untouched stored,
      ap (λ (p : Contents). p.next_blob) done.1 ∙ ap (λ (p : Contents). p.next_blob) others
          ∙ ap (λ (p : Contents). p.next_blob) drawn ∙ none,
    ))
    c.flush_if_full.ensures.untouched

pub returns-clause-tried : goal.returns-clause-tried
returns-clause-tried g c =
    let next = c.args.parts.now.next_blob in
    let drawn = drawn_once c.args.effect.texted c.args.text.now c.args.parts.now c.in_ok-blob.ensures.parts c.in_ok-index.ensures.others in
    changed_twice try_put next (next + 2) next c.index.new.parts.next_blob (omega arith) (omega arith) drawn.least (omega (arith, drawn.most))
    c.store_text.ensures.tried c.flush_if_full.ensures.tried

pub returns-in_err-blob-clause-tried : goal.returns-in_err-blob-clause-tried
returns-in_err-blob-clause-tried g c =
    let next = c.args.parts.now.next_blob in changed_first try_put next (next + 2) next (omega arith) (omega arith) c.store_text.ensures.tried

pub returns-in_err-index-clause-tried : goal.returns-in_err-index-clause-tried
returns-in_err-index-clause-tried g c =
    let next = c.args.parts.now.next_blob in changed_first try_put next (next + 2) next (omega arith) (omega arith) c.store_text.ensures.tried

-- ---- the numbers

pub returns-in_err-blob-clause-numbers : goal.returns-in_err-blob-clause-numbers
returns-in_err-blob-clause-numbers g c =
    draws_more 1 2 c.args.parts.now c.store_text.new.parts (omega arith) c.store_text.ensures.numbers

pub returns-in_err-index-clause-numbers : goal.returns-in_err-index-clause-numbers
returns-in_err-index-clause-numbers g c =
    let old = c.args.parts.now in
    let between = c.store_text.new.parts in
    let new = c.index.new.parts in
    draws_more 1 2 old new (omega arith)
    (draws_then 1 0 old between new c.store_text.ensures.numbers (draws_kept between new c.index.ensures.others))

pub returns-clause-numbers : goal.returns-clause-numbers
returns-clause-numbers g c =
    let old = c.args.parts.now in
    let between = c.store_text.new.parts in
    let new = c.index.new.parts in
    draws_then 1 1 old new c.flush_if_full.new.parts
    (draws_then 1 0 old between new c.store_text.ensures.numbers (draws_kept between new c.index.ensures.others))
    c.flush_if_full.ensures.numbers
