use Rattle.std.proofs.Common.{◌∙◌, refl}
use Rattle.std.specs.List.{flat_map}
use Rattle.wu_query.specs.Finding.{text_at}
use Rattle.wu_query.proofs.ExportedFiles.{export_permitted, none_read, script_exported}
use Rattle.wu_query.proofs.exporting.export.Goals as goal

pub returns-in_err-seen-clause-permitted : goal.returns-in_err-seen-clause-permitted
returns-in_err-seen-clause-permitted g c = λ live s uid is keeps.
    export_permitted c.args.frames.now live s uid is c.args.files.now.entries (g.D.Store.holds c.args.store.now) c.args.frames.now.seen
    (g.D.Store.reads c.args.store.now) keeps refl
    (none_read (flat_map (text_at c.args.files.now.entries) c.args.frames.now.seen) (g.D.Store.reads c.args.store.now))

pub returns-in_err-begun-clause-permitted : goal.returns-in_err-begun-clause-permitted
returns-in_err-begun-clause-permitted g c = λ live s uid is keeps.
    export_permitted c.args.frames.now live s uid is c.args.files.now.entries (g.D.Store.holds c.args.store.now) c.as_slice-view.result.now
    (g.D.Store.reads c.args.store.now) keeps (c.as_slice-view.ensures.value ∙ c.in_ok-seen.ensures)
    (none_read (flat_map (text_at c.args.files.now.entries) c.as_slice-view.result.now) (g.D.Store.reads c.args.store.now))

pub returns-in_err-written-clause-permitted : goal.returns-in_err-written-clause-permitted
returns-in_err-written-clause-permitted g c = λ live s uid is keeps.
    export_permitted c.args.frames.now live s uid is c.args.files.now.entries (g.D.Store.holds c.args.store.now) c.as_slice-view.result.now
    (g.D.Store.reads c.args.store.now) keeps (c.as_slice-view.ensures.value ∙ c.in_ok-seen.ensures) c.with_texts.ensures.only

pub returns-clause-answer : goal.returns-clause-answer
returns-clause-answer g c = λ live s uid is keeps.
    script_exported c.args.frames.now live s uid is c.args.files.now.entries (g.D.Store.holds c.args.store.now) c.as_slice-view.result.now
    c.in_ok-begun.begun c.in_ok-written.written c.finish.result keeps (c.as_slice-view.ensures.value ∙ c.in_ok-seen.ensures)
    c.in_ok-begun.ensures c.in_ok-written.ensures.script c.finish.ensures

pub returns-clause-permitted : goal.returns-clause-permitted
returns-clause-permitted g c = λ live s uid is keeps.
    export_permitted c.args.frames.now live s uid is c.args.files.now.entries (g.D.Store.holds c.args.store.now) c.as_slice-view.result.now
    (g.D.Store.reads c.args.store.now) keeps (c.as_slice-view.ensures.value ∙ c.in_ok-seen.ensures) c.with_texts.ensures.only
