use Rattle.std.proofs.Common.{◌+◌, ◌<◌, ◌∙◌, ℕ, List, ap, ap₂, length, take, refl, rules}
use Rattle.std.specs.List.{flat_map}
use Rattle.std.proofs.lemmas.Option.{IfSome_then}
use Rattle.wu_export.specs.Exporting.{Begun}
use Rattle.wu_query.specs.Exporting.{shown_at}
use Rattle.wu_query.specs.Finding.{text_at}
use Rattle.wu_query.specs.Reads.{IsTextOf}
use Rattle.wu_query.specs.View.{Shown}
use Rattle.wu_query.proofs.ExportedFiles.{damaged_at, each_more, first_read, read_more, read_some}
use Rattle.wu_query.proofs.PassedCauses.{err_from}
use Rattle.wu_query.proofs.ReadCauses.{cause_after, cause_behind}
use Rattle.wu_query.proofs.WrittenFiles.{written_more}
use Rattle.wu_query.proofs.exporting.with_texts.Goals as goal

pub loop-place-preserved : goal.loop-place-preserved
loop-place-preserved g c =
    let files = c.args.files.now.entries in
    let holds = g.D.Store.holds c.args.store.now in
    let i = c.loop-place.place in
    let view = c.args.view.now in
    let seen = c.index-view-place.result in
    let told = c.loop-place.invariant in
    let text = c.in_ok-text.ensures in
    let within : i < length view = search rules in
    let shown : List (List ℕ) → List ℕ → Shown = λ paths text. record { paths = paths; text = text } in
    record {
      holds = c.text_of.ensures.store.holds ∙ told.holds;
      moments = c.text_of.ensures.store.moments ∙ told.moments;
      calm = text.store.calm ∙ told.calm;
      directories = ap (λ (e : Begun). e.directories) c.in_ok-written.ensures ∙ told.directories;
      written = written_more (λ content. shown_at content files) view i i seen (shown c.as_slice.result.now c.deref.result.now)
          c.args.exporter c.loop-place.written within c.index-view-place.is refl told.directories c.in_ok-written.ensures told.holds
          told.written
          (IfSome_then (g.D.Store.holds c.loop-place.store) text.text
          (λ content is. ap₂ shown c.as_slice.ensures (c.deref.ensures.value ∙ is)));
      sound = each_more view i seen within c.index-view-place.is (text_at files) (IsTextOf holds files) told.sound
          (rw told.holds at text.sound);
      read = read_more view i seen within c.index-view-place.is (text_at files) (g.D.Store.reads c.args.store.now) told.read text.reads;
    }

pub returns-in_err-text-clause-only : goal.returns-in_err-text-clause-only
returns-in_err-text-clause-only g c =
    let within : c.loop-place.place < length c.args.view.now = search rules in
    read_some c.args.view.now c.loop-place.place c.index-view-place.result within c.index-view-place.is
    (text_at c.args.files.now.entries) (g.D.Store.reads c.args.store.now) c.loop-place.invariant.read c.in_err-text.ensures.only

pub returns-in_err-text-clause-cause : goal.returns-in_err-text-clause-cause
returns-in_err-text-clause-cause g c =
    let i = c.loop-place.place in
    let view = c.args.view.now in
    let told = c.loop-place.invariant in
    let within : i < length view = search rules in
    err_from _ c.from_residual.result c.in_err-text.field-0.0 c.from_residual.ensures.1
    (cause_behind (flat_map (text_at c.args.files.now.entries) (take i view)) told.read
    (cause_after told.calm c.in_err-text.ensures.cause
    (λ blob broken. damaged_at view i c.index-view-place.result within c.index-view-place.is c.args.files.now.entries
    (g.D.Store.holds c.args.store.now) blob (rw told.holds at broken))))

pub returns-in_err-written-clause-only : goal.returns-in_err-written-clause-only
returns-in_err-written-clause-only g c =
    let i = c.loop-place.place in
    let view = c.args.view.now in
    let text = text_at c.args.files.now.entries in
    let within : i < length view = search rules in
    first_read text view (i + 1) (g.D.Store.reads c.args.store.now)
    (read_more view i c.index-view-place.result within c.index-view-place.is text (g.D.Store.reads c.args.store.now)
    c.loop-place.invariant.read c.in_ok-text.ensures.reads)
