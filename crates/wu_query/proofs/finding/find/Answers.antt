use Rattle.std.proofs.Common.{◌∙◌, refl}
use Rattle.std.specs.Prelude.{nat_le}
use Rattle.wu_ask.specs.Questions.{Finding}
use Rattle.wu_gcl.specs.Regions.{region_of}
use Rattle.wu_query.specs.Finding.{hits_at, looked_through, text_at}
use Rattle.wu_query.specs.Near.{lists_found}
use Rattle.wu_query.specs.Reads.{texts_shown}
use Rattle.wu_query.specs.Units.{found_in}
use Rattle.wu_query.proofs.AskedTerms.{terms_named}
use Rattle.wu_query.proofs.FilesWithExtents.{looked_answer, looked_texts}
use Rattle.wu_query.proofs.FoundLines.{are_texts}
use Rattle.wu_query.proofs.NearLists.{same_of}
use Rattle.wu_query.proofs.DamagedTexts.{cause_of_text}
use Rattle.wu_query.proofs.QueryReads.{cause_of_fetch, cause_of_memory}
use Rattle.wu_query.proofs.PermittedBlocks.{asked_permitted, failed_permitted}
use Rattle.wu_query.proofs.PermittedTexts.{shown_permitted}
use Rattle.wu_query.proofs.UnitLemmas.{searched_few}
use Rattle.wu_query.proofs.finding.find.Goals as goal

pub postings_near-requires-clause-ascending : goal.postings_near-requires-clause-ascending
postings_near-requires-clause-ascending g c = rw c.deref.ensures.value c.in_ok-terms.ensures.ascending

pub count-requires-clause-few : goal.count-requires-clause-few
count-requires-clause-few g c =
    rw c.as_slice.ensures
    (searched_few (region_of c.args.expr.now) (lists_found c.in_ok-postings.postings) c.args.frames.now c.requires.fit)

pub returns-clause-answer : goal.returns-clause-answer
returns-clause-answer g c = λ live s uid is tells keeps.
    looked_answer c.args.frames.now live s uid is (region_of c.args.expr.now) c.in_ok-terms.terms.items c.in_ok-terms.ensures
    c.args.files.now.entries (lists_found c.in_ok-postings.postings)
    (same_of (region_of c.args.expr.now) c.args.frames.now.ranges (found_in c.args.frames.now.ranges s)
    {lists = lists_found c.in_ok-postings.postings} refl c.deref.ensures.value
    (c.in_ok-postings.ensures.lists s tells))
    c.args.k (nat_le c.in_ok-counts.counts.hits 4096) (g.D.Store.holds c.args.store.now) c.in_ok-counts.counts.hits
    c.in_ok-counts.counts.files _ keeps
    (rw c.as_slice.ensures at c.in_ok-counts.ensures.hits)
    (rw c.as_slice.ensures at c.in_ok-counts.ensures.files)
    (rw (c.postings_near.ensures.store.holds, ← c.from.ensures) at c.in_ok-shown.ensures.lines)

pub returns-clause-reads : goal.returns-clause-reads
returns-clause-reads g c =
    let files = c.args.files.now.entries in
    let region = region_of c.args.expr.now in
    let lists = lists_found c.in_ok-postings.postings in
    let terms = c.in_ok-terms.terms.items in
    let few = nat_le c.in_ok-counts.counts.hits 4096 in
    let looked = looked_through few region lists c.args.frames.now in
    record {
      between = g.D.Store.reads c.postings_near.new.store;
      asks = rw (c.deref.ensures.value ∙ terms_named region terms c.in_ok-terms.ensures) at c.in_ok-postings.ensures.blocks;
      texts = texts_shown (hits_at files region lists) (text_at files) c.args.k looked;
      are = record {
        are = are_texts (g.D.Store.holds c.args.store.now) files region lists c.args.k looked
            (rw c.postings_near.ensures.store.holds at c.in_ok-shown.ensures.sound);
        shown = λ live s uid is tells keeps.
            looked_texts c.args.frames.now live s uid is region terms c.in_ok-terms.ensures files lists
            (same_of region c.args.frames.now.ranges (found_in c.args.frames.now.ranges s)
            {lists = lists_found c.in_ok-postings.postings} refl c.deref.ensures.value
            (c.in_ok-postings.ensures.lists s tells)) c.args.k few keeps.records;
      };
      read = c.in_ok-shown.ensures.reads;
    }

pub returns-in_err-terms-clause-cause : goal.returns-in_err-terms-clause-cause
returns-in_err-terms-clause-cause g c = cause_of_memory c.from_residual.result _ _ _ refl c.from_residual.ensures.1

pub returns-in_err-postings-clause-cause : goal.returns-in_err-postings-clause-cause
returns-in_err-postings-clause-cause g c =
    cause_of_fetch c.from_residual-in_err-postings.result c.args.frames.now (Finding c.args.k (region_of c.args.expr.now)) c.args.parts.now
    c.args.files.now.entries (g.D.Store.holds c.args.store.now) c.from_residual-in_err-postings.ensures.1
    (c.deref.ensures.value ∙ terms_named (region_of c.args.expr.now) c.in_ok-terms.terms.items c.in_ok-terms.ensures)
    c.in_err-postings.ensures.cause

pub returns-in_err-counts-clause-cause : goal.returns-in_err-counts-clause-cause
returns-in_err-counts-clause-cause g c =
    cause_of_memory c.from_residual-in_err-counts.result _ _ _ c.in_ok-postings.ensures.store.calm c.from_residual-in_err-counts.ensures.1

pub returns-in_err-shown-clause-cause : goal.returns-in_err-shown-clause-cause
returns-in_err-shown-clause-cause g c =
    cause_of_text c.from_residual-in_err-shown.result c.args.frames.now c.args.parts.now c.args.files.now.entries
    (g.D.Store.holds c.args.store.now) c.from_residual-in_err-shown.ensures.1 (region_of c.args.expr.now) c.in_ok-terms.terms.items
    c.in_ok-terms.ensures (lists_found c.in_ok-postings.postings)
    (λ s tells.
    same_of (region_of c.args.expr.now) c.args.frames.now.ranges (found_in c.args.frames.now.ranges s) refl
    c.deref.ensures.value (c.in_ok-postings.ensures.lists s tells))
    c.args.k (nat_le c.in_ok-counts.counts.hits 4096) c.postings_near.ensures.store.holds c.in_ok-postings.ensures.store.calm _ _
    c.in_ok-postings.ensures.blocks.read c.in_err-shown.ensures.cause

pub returns-in_err-postings-clause-permitted : goal.returns-in_err-postings-clause-permitted
returns-in_err-postings-clause-permitted g c = λ live s uid is tells keeps.
    failed_permitted c.args.frames.now live s uid is c.args.parts.now (g.D.Store.holds c.args.store.now) tells
    (Finding c.args.k (region_of c.args.expr.now))
    (c.deref.ensures.value ∙ terms_named (region_of c.args.expr.now) c.in_ok-terms.terms.items c.in_ok-terms.ensures)
    (g.D.Store.reads c.args.store.now) (g.D.Store.reads c.postings_near.new.store) c.in_err-postings.ensures.cause

pub returns-in_err-counts-clause-permitted : goal.returns-in_err-counts-clause-permitted
returns-in_err-counts-clause-permitted g c = λ live s uid is tells keeps.
    asked_permitted c.args.frames.now live s uid is c.args.parts.now (g.D.Store.holds c.args.store.now) tells
    (Finding c.args.k (region_of c.args.expr.now))
    (c.deref.ensures.value ∙ terms_named (region_of c.args.expr.now) c.in_ok-terms.terms.items c.in_ok-terms.ensures)
    (g.D.Store.reads c.args.store.now) (g.D.Store.reads c.postings_near.new.store) c.in_ok-postings.ensures.blocks

pub returns-in_err-shown-clause-permitted : goal.returns-in_err-shown-clause-permitted
returns-in_err-shown-clause-permitted g c = λ live s uid is tells keeps.
    shown_permitted c.args.frames.now live s uid is (region_of c.args.expr.now) c.in_ok-terms.terms.items c.in_ok-terms.ensures
    c.args.files.now.entries (lists_found c.in_ok-postings.postings)
    (same_of (region_of c.args.expr.now) c.args.frames.now.ranges (found_in c.args.frames.now.ranges s) refl
    c.deref.ensures.value (c.in_ok-postings.ensures.lists s tells))
    c.args.parts.now (g.D.Store.holds c.args.store.now) tells keeps c.deref.ensures.value c.in_ok-postings.ensures.blocks c.args.k
    (nat_le c.in_ok-counts.counts.hits 4096) c.in_err-shown.ensures.only

pub returns-clause-permitted : goal.returns-clause-permitted
returns-clause-permitted g c = λ live s uid is tells keeps.
    shown_permitted c.args.frames.now live s uid is (region_of c.args.expr.now) c.in_ok-terms.terms.items c.in_ok-terms.ensures
    c.args.files.now.entries (lists_found c.in_ok-postings.postings)
    (same_of (region_of c.args.expr.now) c.args.frames.now.ranges (found_in c.args.frames.now.ranges s) refl
    c.deref.ensures.value (c.in_ok-postings.ensures.lists s tells))
    c.args.parts.now (g.D.Store.holds c.args.store.now) tells keeps c.deref.ensures.value c.in_ok-postings.ensures.blocks c.args.k
    (nat_le c.in_ok-counts.counts.hits 4096) c.in_ok-shown.ensures.only
