use Rattle.std.proofs.Common.{◌≡◌, ◌<◌, ◌∙◌, true, List, length, arith, ap, refl, sym, subst}
use Rattle.std.specs.Prelude.{sum_by}
use Rattle.std.specs.List.{AllByRecursion, list_any}
use Rattle.wu_base.specs.declared.addresses.PartRec.{PartRec}
use Rattle.wu_image.specs.declared.records.FileRec.{FileRec}
use Rattle.wu_image.specs.Images.{IsByAddress}
use Rattle.wu_image.specs.LayoutRules.{lies_in}
use Rattle.wu_check.specs.Wrong.{counts_of}
use Rattle.wu_check.proofs.CheckedRanges.{if_sound, index_all, index_none, index_some}
use Rattle.wu_check.proofs.CheckedStores.{broken_told, live_fits, order_apart, order_given, order_homes, order_readable, sound_told, stored_fits}
use Rattle.wu_check.proofs.checking.check_index.Goals as goal

pub first_wrong-requires-clause-files : goal.first_wrong-requires-clause-files
first_wrong-requires-clause-files g c =
    let by_address : IsByAddress c.args.checkpoint.now.files c.deref.result.now =
    order_given c.as_slice.result.now c.args.checkpoint.now.files c.in_ok-files.files.items c.deref.result.now c.as_slice.ensures
    c.deref.ensures.value c.in_ok-files.ensures in
    order_readable c.args.version c.args.checkpoint.now c.requires.rules c.deref.result.now by_address

pub first_wrong-requires-clause-apart : goal.first_wrong-requires-clause-apart
first_wrong-requires-clause-apart g c =
    let by_address : IsByAddress c.args.checkpoint.now.files c.deref.result.now =
    order_given c.as_slice.result.now c.args.checkpoint.now.files c.in_ok-files.files.items c.deref.result.now c.as_slice.ensures
    c.deref.ensures.value c.in_ok-files.ensures in
    order_apart c.args.version c.args.checkpoint.now c.requires.rules c.deref.result.now by_address

pub first_wrong-requires-clause-homes : goal.first_wrong-requires-clause-homes
first_wrong-requires-clause-homes g c =
    let by_address : IsByAddress c.args.checkpoint.now.files c.deref.result.now =
    order_given c.as_slice.result.now c.args.checkpoint.now.files c.in_ok-files.files.items c.deref.result.now c.as_slice.ensures
    c.deref.ensures.value c.in_ok-files.ensures in
    let files : List FileRec = c.deref.result.now in
    subst
    (λ (l : List PartRec). 0 < length l → AllByRecursion (λ file. list_any (λ part. lies_in file.range part) l ≡ true) files)
    (sym c.counted_parts-parts.ensures)
    (order_homes c.args.version c.args.checkpoint.now c.requires.rules files by_address)

pub returns-in-Some-clause-checked : goal.returns-in-Some-clause-checked
returns-in-Some-clause-checked g c =
    let by_address : IsByAddress c.args.checkpoint.now.files c.deref.result.now =
    order_given c.as_slice.result.now c.args.checkpoint.now.files c.in_ok-files.files.items c.deref.result.now c.as_slice.ensures
    c.deref.ensures.value c.in_ok-files.ensures in
    broken_told c.args.version c.args.checkpoint.now c.requires.rules c.deref.result.now by_address (g.D.Store.holds c.args.store.now)
    c.counted_parts-parts.result.now c.counted_parts-parts.ensures c.in_ok-blob.field-0 c.in_ok-blob.ensures.found c.in-Some.blob
    c.in-Some.is

pub counts-requires-clause-live : goal.counts-requires-clause-live
counts-requires-clause-live g c =
    let by_address : IsByAddress c.args.checkpoint.now.files c.deref-in-None.result.now =
    order_given c.as_slice.result.now c.args.checkpoint.now.files c.in_ok-files.files.items c.deref-in-None.result.now c.as_slice.ensures
    c.deref-in-None.ensures.value c.in_ok-files.ensures in
    let fits = live_fits c.args.version c.args.checkpoint.now c.requires.rules c.deref-in-None.result.now by_address in
    omega (arith, fits, c.requires.next)

pub counts-requires-clause-stored : goal.counts-requires-clause-stored
counts-requires-clause-stored g c =
    let by_address : IsByAddress c.args.checkpoint.now.files c.deref.result.now =
    order_given c.as_slice.result.now c.args.checkpoint.now.files c.in_ok-files.files.items c.deref.result.now c.as_slice.ensures
    c.deref.ensures.value c.in_ok-files.ensures in
    let fits = stored_fits c.args.version c.args.checkpoint.now c.requires.rules c.deref.result.now by_address in
    let same = ap (λ (l : List PartRec). sum_by (λ part. part.stored) l) c.counted_parts-parts.ensures in
    omega (arith, fits, same, c.requires.next)

pub returns-clause-checked : goal.returns-clause-checked
returns-clause-checked g c =
    let by_address : IsByAddress c.args.checkpoint.now.files c.deref.result.now =
    order_given c.as_slice.result.now c.args.checkpoint.now.files c.in_ok-files.files.items c.deref.result.now c.as_slice.ensures
    c.deref.ensures.value c.in_ok-files.ensures in
    let parts : List PartRec = c.counted_parts-parts.result.now in
    let same : c.deref-in-None.result.now ≡ c.deref.result.now = c.deref-in-None.ensures.value ∙ sym c.deref.ensures.value in
    sound_told c.args.version c.args.checkpoint.now c.requires.rules c.deref.result.now by_address (g.D.Store.holds c.args.store.now)
    parts c.counted_parts-parts.ensures c.in_ok-blob.field-0 c.in_ok-blob.ensures.found c.counts.result c.in-None.is
    (c.counts.ensures ∙ ap (λ (l : List FileRec). counts_of c.args.version l parts) same)

pub returns-in_err-files-clause-ranges : goal.returns-in_err-files-clause-ranges
returns-in_err-files-clause-ranges g c =
    let reads = g.D.Store.reads c.args.store.now in
    index_none c.args.version c.args.checkpoint.now reads reads refl

pub returns-in_err-blob-clause-ranges : goal.returns-in_err-blob-clause-ranges
returns-in_err-blob-clause-ranges g c =
    let by_address : IsByAddress c.args.checkpoint.now.files c.deref.result.now =
    order_given c.as_slice.result.now c.args.checkpoint.now.files c.in_ok-files.files.items c.deref.result.now c.as_slice.ensures
    c.deref.ensures.value c.in_ok-files.ensures in
    index_some c.args.version c.args.checkpoint.now c.deref.result.now by_address c.counted_parts-parts.result.now
    c.counted_parts-parts.ensures (g.D.Store.reads c.args.store.now) (g.D.Store.reads c.first_wrong.new.store) c.first_wrong.ensures.ranges

pub returns-in-Some-clause-ranges : goal.returns-in-Some-clause-ranges
returns-in-Some-clause-ranges g c =
    let by_address : IsByAddress c.args.checkpoint.now.files c.deref.result.now =
    order_given c.as_slice.result.now c.args.checkpoint.now.files c.in_ok-files.files.items c.deref.result.now c.as_slice.ensures
    c.deref.ensures.value c.in_ok-files.ensures in
    index_some c.args.version c.args.checkpoint.now c.deref.result.now by_address c.counted_parts-parts.result.now
    c.counted_parts-parts.ensures (g.D.Store.reads c.args.store.now) (g.D.Store.reads c.first_wrong.new.store) c.first_wrong.ensures.ranges

pub returns-clause-ranges : goal.returns-clause-ranges
returns-clause-ranges g c =
    let by_address : IsByAddress c.args.checkpoint.now.files c.deref.result.now =
    order_given c.as_slice.result.now c.args.checkpoint.now.files c.in_ok-files.files.items c.deref.result.now c.as_slice.ensures
    c.deref.ensures.value c.in_ok-files.ensures in
    index_some c.args.version c.args.checkpoint.now c.deref.result.now by_address c.counted_parts-parts.result.now
    c.counted_parts-parts.ensures (g.D.Store.reads c.args.store.now) (g.D.Store.reads c.first_wrong.new.store) c.first_wrong.ensures.ranges

pub returns-clause-whole : goal.returns-clause-whole
returns-clause-whole g c =
    let by_address : IsByAddress c.args.checkpoint.now.files c.deref.result.now =
    order_given c.as_slice.result.now c.args.checkpoint.now.files c.in_ok-files.files.items c.deref.result.now c.as_slice.ensures
    c.deref.ensures.value c.in_ok-files.ensures in
    if_sound c.counts.result
    (index_all c.args.version c.args.checkpoint.now c.deref.result.now by_address c.counted_parts-parts.result.now
    c.counted_parts-parts.ensures (g.D.Store.reads c.args.store.now) (g.D.Store.reads c.first_wrong.new.store)
    (rw c.in-None.is at c.in_ok-blob.ensures.whole))
