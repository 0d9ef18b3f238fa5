use Rattle.std.proofs.Common.{◌≡◌, ◌++◌, ◌∙◌, List, ap, arith, length, min, refl, subst, sym}
use Rattle.std.specs.Prelude.{option_map, slice_get}
use Rattle.std.specs.List.{AllByRecursion}
use Rattle.std.proofs.lemmas.List.{length-take}
use Rattle.std.proofs.lemmas.Option.{IfSome_then}
use Rattle.std.proofs.lemmas.Result.{on_ok_weaker}
use Rattle.wu_ask.specs.declared.Found.{Found}
use Rattle.wu_gcl.specs.Regions.{region_of}
use Rattle.wu_query.specs.Finding.{extents_of}
use Rattle.wu_lists.proofs.Asking.{ranges-none}
use Rattle.wu_outside.specs.declared.ranges.ReadRange.{ReadRange}
use Rattle.wu_query.specs.Reads.{IsTextOf}
use Rattle.wu_query.specs.Near.{lists_found}
use Rattle.wu_query.proofs.ExportedFiles.{none_read}
use Rattle.wu_query.proofs.FilesAtPlaces.{found_readable, no_hits, no_line, no_text, record_is}
use Rattle.wu_query.proofs.FirstLines.{lines_of_file}
use Rattle.wu_query.proofs.WholeTexts.{whole_shown}
use Rattle.wu_query.proofs.ReadCauses.{cause_after, if_err}
use Rattle.wu_query.proofs.DamagedTexts.{file_shown}
use Rattle.wu_query.proofs.finding.put_file.Goals as goal

pub first_extents-requires-clause-record : goal.first_extents-requires-clause-record
first_extents-requires-clause-record g c =
    found_readable c.args.files.now.entries (slice_get c.args.view.now c.args.place) c.in-Some.file.now c.in-Some.ensures c.requires.records

pub put_lines-requires-clause-record : goal.put_lines-requires-clause-record
put_lines-requires-clause-record g c =
    found_readable c.args.files.now.entries (slice_get c.args.view.now c.args.place) c.in-Some.file.now c.in-Some.ensures c.requires.records

pub returns-in_ok-extents-in-Some-clause-lines : goal.returns-in_ok-extents-in-Some-clause-lines
returns-in_ok-extents-in-Some-clause-lines g c = λ seen there.
    on_ok_weaker c.put_lines.result
    (λ told. IfSome_then (g.D.Store.holds c.args.store.now) told
    (λ content put.
    put
    ∙ ap (λ (lines : List Found). c.args.shown.now.items ++ lines)
    (lines_of_file content c.args.files.now.entries (region_of c.args.expr.now) (lists_found c.args.postings.now) seen c.in-Some.file.now
    c.args.left seen.paths c.deref.result.now (record_is c.args.files.now.entries _ seen _ there c.in-Some.ensures) refl
    (c.deref.ensures.value ∙ c.in_ok-extents-in-Some.ensures.extents))))
    (c.put_lines.ensures.lines seen there)

pub returns-in_ok-extents-in-Some-clause-cause : goal.returns-in_ok-extents-in-Some-clause-cause
returns-in_ok-extents-in-Some-clause-cause g c = λ seen there.
    if_err c.put_lines.result c.put_lines.ensures.cause
    (λ trouble cause. cause_after refl cause
    (file_shown c.args.files.now.entries (g.D.Store.holds c.args.store.now) (region_of c.args.expr.now) (lists_found c.args.postings.now)
    seen
    c.in-Some.file.now c.args.left c.deref.result.now (record_is c.args.files.now.entries _ seen _ there c.in-Some.ensures)
    (c.deref.ensures.value ∙ c.in_ok-extents-in-Some.ensures.extents)))

pub returns-in_ok-extents-in-Some-clause-sound : goal.returns-in_ok-extents-in-Some-clause-sound
returns-in_ok-extents-in-Some-clause-sound g c = λ seen there.
    on_ok_weaker c.put_lines.result
    (whole_shown (g.D.Store.holds c.args.store.now) c.args.files.now.entries (region_of c.args.expr.now) (lists_found c.args.postings.now)
    seen
    c.in-Some.file.now c.args.left c.deref.result.now (record_is c.args.files.now.entries _ seen _ there c.in-Some.ensures)
    (c.deref.ensures.value ∙ c.in_ok-extents-in-Some.ensures.extents))
    c.put_lines.ensures.sound

pub returns-in_ok-extents-in-Some-clause-count : goal.returns-in_ok-extents-in-Some-clause-count
returns-in_ok-extents-in-Some-clause-count g c = λ seen there.
    let first = extents_of (region_of c.args.expr.now) (lists_found c.args.postings.now) c.in-Some.file.now in
    let many : length c.deref.result.now ≡ min c.args.left (length first) =
    ap length (c.deref.ensures.value ∙ c.in_ok-extents-in-Some.ensures.extents) ∙ length-take c.args.left first in
    rw (record_is c.args.files.now.entries _ seen _ there c.in-Some.ensures) (rw many at c.put_lines.ensures.count)

pub returns-in_ok-extents-in-Some-clause-reads : goal.returns-in_ok-extents-in-Some-clause-reads
returns-in_ok-extents-in-Some-clause-reads g c = λ seen there.
    let first = extents_of (region_of c.args.expr.now) (lists_found c.args.postings.now) c.in-Some.file.now in
    let many : length c.deref.result.now ≡ min c.args.left (length first) =
    ap length (c.deref.ensures.value ∙ c.in_ok-extents-in-Some.ensures.extents) ∙ length-take c.args.left first in
    rw (record_is c.args.files.now.entries _ seen _ there c.in-Some.ensures) (rw many at c.put_lines.ensures.reads)

pub returns-in_ok-extents-in-Some-clause-only : goal.returns-in_ok-extents-in-Some-clause-only
returns-in_ok-extents-in-Some-clause-only g c = λ seen there.
    let first = extents_of (region_of c.args.expr.now) (lists_found c.args.postings.now) c.in-Some.file.now in
    let many : length c.deref.result.now ≡ min c.args.left (length first) =
    ap length (c.deref.ensures.value ∙ c.in_ok-extents-in-Some.ensures.extents) ∙ length-take c.args.left first in
    rw (record_is c.args.files.now.entries _ seen _ there c.in-Some.ensures) (rw many at c.put_lines.ensures.only)

pub returns-in-None-clause-lines : goal.returns-in-None-clause-lines
returns-in-None-clause-lines g c = λ seen there.
    no_line c.args.files.now.entries (region_of c.args.expr.now) (lists_found c.args.postings.now)
    seen c.args.left (record_is c.args.files.now.entries _ seen _ there c.in-None.ensures)
    (g.D.Store.holds c.args.store.now) c.args.shown.now.items

pub returns-in-None-clause-count : goal.returns-in-None-clause-count
returns-in-None-clause-count g c = λ seen there.
    let none = no_hits c.args.files.now.entries (region_of c.args.expr.now) (lists_found c.args.postings.now) seen c.args.left
    (record_is c.args.files.now.entries _ seen _ there c.in-None.ensures) in
    omega (arith, none)

pub returns-in-None-clause-sound : goal.returns-in-None-clause-sound
returns-in-None-clause-sound g c = λ seen there.
    subst (AllByRecursion (IsTextOf (g.D.Store.holds c.args.store.now) c.args.files.now.entries))
    (sym (no_text c.args.files.now.entries (region_of c.args.expr.now) (lists_found c.args.postings.now)
    seen c.args.left (record_is c.args.files.now.entries _ seen _ there c.in-None.ensures))) tt

pub returns-in-None-clause-reads : goal.returns-in-None-clause-reads
returns-in-None-clause-reads g c = λ seen there.
    ranges-none (g.D.Store.reads c.args.store.now)
    ∙ ap (λ (texts : List ReadRange). option_map (λ (ranges : List ReadRange). ranges ++ texts) (g.D.Store.reads c.args.store.now))
    (sym (no_text c.args.files.now.entries (region_of c.args.expr.now) (lists_found c.args.postings.now)
    seen c.args.left (record_is c.args.files.now.entries _ seen _ there c.in-None.ensures)))

pub returns-in-None-clause-only : goal.returns-in-None-clause-only
returns-in-None-clause-only g c = λ seen there. none_read _ (g.D.Store.reads c.args.store.now)
