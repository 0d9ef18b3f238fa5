use Rattle.std.proofs.Common.{◌<◌, ◌∙◌, ap, refl, subst, sym}
use Rattle.std.specs.Prelude.{IfSome, Option}
use Rattle.std.specs.Option.{IsSomeAnd}
use Rattle.std.proofs.lemmas.Option.{IfSome_then}
use Rattle.std.proofs.lemmas.Result.{on_ok_weaker}
use Rattle.wu_image.specs.declared.records.FileRec.{FileRec}
use Rattle.wu_query.specs.Causes.{IsBrokenIn}
use Rattle.wu_query.specs.Exporting.{held_of}
use Rattle.wu_query.specs.Reads.{HasWholeText, StopsUnsized}
use Rattle.wu_query.proofs.AnswerLemmas.{if_ok}
use Rattle.wu_query.proofs.ReadCauses.{cause_after, if_err, recorded}
use Rattle.wu_query.proofs.WholeTexts.{whole_recorded}
use Rattle.wu_query.proofs.exporting.text_of.Goals as goal

pub read_text-requires : goal.read_text-requires
read_text-requires g c =
    (recorded c.args.files.now.entries c.args.ino c.in-Some.file.now (sym c.in-Some.ensures.value) c.requires).recorded

pub returns-in-Some-clause-text : goal.returns-in-Some-clause-text
returns-in-Some-clause-text g c =
    if_ok c.read_text.result c.read_text.ensures.text
    (λ text told. IfSome_then (g.D.Store.holds c.args.store.now) told (λ content is. is ∙ ap (held_of content) c.in-Some.ensures.value))

pub returns-in-Some-clause-sound : goal.returns-in-Some-clause-sound
returns-in-Some-clause-sound g c =
    let holds = g.D.Store.holds c.args.store.now in
    on_ok_weaker c.read_text.result
    (λ whole. whole_recorded holds c.args.files.now.entries c.args.ino
    (subst (λ (o : Option FileRec). IfSome o (λ file. 0 < file.blob → HasWholeText holds file)) c.in-Some.ensures.value whole))
    c.read_text.ensures.sound

pub returns-in-Some-clause-reads : goal.returns-in-Some-clause-reads
returns-in-Some-clause-reads g c = rw (sym c.in-Some.ensures.value) c.read_text.ensures.reads

pub returns-in-Some-clause-only : goal.returns-in-Some-clause-only
returns-in-Some-clause-only g c = rw (sym c.in-Some.ensures.value) c.read_text.ensures.only

pub returns-in-Some-clause-memory : goal.returns-in-Some-clause-memory
returns-in-Some-clause-memory g c = λ out.
    subst
    (λ (o : Option FileRec). IsSomeAnd o
    (λ file. StopsUnsized (g.D.Store.holds c.args.store.now) file (g.D.Store.reads c.args.store.now) (g.D.Store.reads c.read_text.new.store)))
    c.in-Some.ensures.value (c.read_text.ensures.memory out)

pub returns-in-Some-clause-cause : goal.returns-in-Some-clause-cause
returns-in-Some-clause-cause g c =
    let holds = g.D.Store.holds c.args.store.now in
    if_err c.read_text.result c.read_text.ensures.cause
    (λ trouble cause. cause_after refl cause
    (λ blob broken. subst (λ (o : Option FileRec). IsSomeAnd o (λ file. IsBrokenIn holds file blob)) c.in-Some.ensures.value broken))
