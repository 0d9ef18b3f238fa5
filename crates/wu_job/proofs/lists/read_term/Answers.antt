use Rattle.std.proofs.Common.{◌≡◌, ◌<◌, ◌==◌, true, ℕ, List, [], Option, length, refl, sym, ap, subst, ◌∙◌}
use Rattle.std.specs.Prelude.{IfSome}
use Rattle.std.specs.List.{list_any}
use Rattle.std.specs.Option.{IsSomeAnd}
use Rattle.std.proofs.lemmas.Result.{IfErr-weaker, IfOk-weaker, on_ok_weaker}
use Rattle.wu_base.proofs.Results.{on_err}
use Rattle.wu_layout.proofs.EntryLemmas.{IfSome-all, IfSome-map}
use Rattle.wu_outside.specs.declared.ranges.ReadRange.{ReadRange}
use Rattle.wu_part.specs.declared.entries.TermEntry.{TermEntry}
use Rattle.wu_job.specs.Jobs.{HoldsEntry, HoldsTerm}
use Rattle.wu_job.specs.Reading.{AreNoBlocks, IsNoPartOf}
use Rattle.wu_job.specs.Sources.{part_of}
use Rattle.wu_job.specs.Steps.{HasWholeRanges, IsCause, ReadsFront, adds, block_ranges, ranges_of}
use Rattle.wu_job.proofs.Blocks.{blocks_read}
use Rattle.wu_job.proofs.Fronts.{adds-none, cause_after}
use Rattle.wu_job.proofs.Terms.{entry_of_directory, found_has, held_nowhere, held_there, no_part, no_term, ranges_at, ranges_nowhere}
use Rattle.wu_job.proofs.lists.read_term.Goals as goal

pub read_list-requires : goal.read_list-requires
read_list-requires g c =
    let has = found_has c.args.source.now.directory.terms _ c.in-Some.entry c.requires.has c.in-Some.ensures.0 in
    entry_of_directory c.args.source.now.directory _ c.in-Some.entry c.is_spelled.ensures.1.holds has

pub returns-in-Some-clause-err : goal.returns-in-Some-clause-err
returns-in-Some-clause-err g c =
    on_err c.read_list.result
    (subst (λ (o : Option TermEntry). IsSomeAnd o (λ found. found.term ≡ c.args.term.now)) (sym c.in-Some.ensures.0) c.in-Some.ensures.1)

pub returns-in-Some-clause-held : goal.returns-in-Some-clause-held
returns-in-Some-clause-held g c =
    let has = found_has c.args.source.now.directory.terms _ c.in-Some.entry c.requires.has c.in-Some.ensures.0 in
    let part = part_of c.args.source.now in
    let entry = c.in-Some.entry in
    let holds = g.D.Store.holds c.args.store.now in
    IfOk-weaker c.read_list.result
    (λ found. IfSome holds (λ content. HoldsEntry (content.blobs part.recorded.blob) part.directory.low entry found.items))
    (λ found. IfSome holds (λ content. HoldsTerm content c.args.term.now part found.items))
    (λ found h.
    IfSome-map (λ content. HoldsEntry (content.blobs part.recorded.blob) part.directory.low entry found.items)
    (λ content. HoldsTerm content c.args.term.now part found.items) holds
    (λ content k.
    subst (λ t. HoldsTerm content t part found.items) c.in-Some.ensures.1
    (held_there content part entry found.items c.is_spelled.ensures.1.holds.ascending has k))
    h)
    c.read_list.ensures.held

pub returns-in-Some-clause-some : goal.returns-in-Some-clause-some
returns-in-Some-clause-some g c =
    let has = found_has c.args.source.now.directory.terms _ c.in-Some.entry c.requires.has c.in-Some.ensures.0 in
    let blob = c.args.source.now.recorded.blob in
    let low = c.args.source.now.directory.low in
    let high = c.args.source.now.directory.high in
    let same =
    ranges_at (part_of c.args.source.now) c.args.term.now c.in-Some.entry c.is_spelled.ensures.1.holds.ascending has
    c.in-Some.ensures.1 in
    let is = entry_of_directory c.args.source.now.directory _ c.in-Some.entry c.is_spelled.ensures.1.holds has in
    IfOk-weaker c.read_list.result _
    (λ found. 0 < length found.items → list_any (λ range. range.blob == blob) (ranges_of c.args.term.now (part_of c.args.source.now)) ≡ true)
    (λ found h l.
    subst (λ (rs : List ReadRange). list_any (λ range. range.blob == blob) rs ≡ true) (sym same)
    (blocks_read blob low high c.in-Some.entry is))
    c.read_list.ensures.ascend

pub returns-in-Some-clause-whole : goal.returns-in-Some-clause-whole
returns-in-Some-clause-whole g c =
    let has = found_has c.args.source.now.directory.terms _ c.in-Some.entry c.requires.has c.in-Some.ensures.0 in
    let holds = g.D.Store.holds c.args.store.now in
    let same =
    ranges_at (part_of c.args.source.now) c.args.term.now c.in-Some.entry c.is_spelled.ensures.1.holds.ascending has
    c.in-Some.ensures.1 in
    on_ok_weaker c.read_list.result
    (λ w. subst (λ (rs : List ReadRange). IfSome holds (λ content. HasWholeRanges content rs)) (sym same) w) c.read_list.ensures.whole

pub returns-in-Some-clause-reads : goal.returns-in-Some-clause-reads
returns-in-Some-clause-reads g c =
    let has = found_has c.args.source.now.directory.terms _ c.in-Some.entry c.requires.has c.in-Some.ensures.0 in
    let old = g.D.Store.reads c.args.store.now in
    let same =
    ranges_at (part_of c.args.source.now) c.args.term.now c.in-Some.entry c.is_spelled.ensures.1.holds.ascending has
    c.in-Some.ensures.1 in
    on_ok_weaker c.read_list.result (λ e. e ∙ ap (λ (rs : List ReadRange). adds rs old) (sym same)) c.read_list.ensures.reads

pub returns-in-Some-clause-front : goal.returns-in-Some-clause-front
returns-in-Some-clause-front g c =
    let has = found_has c.args.source.now.directory.terms _ c.in-Some.entry c.requires.has c.in-Some.ensures.0 in
    let old = g.D.Store.reads c.args.store.now in
    let new = g.D.Store.reads c.read_list.new.store in
    let same =
    ranges_at (part_of c.args.source.now) c.args.term.now c.in-Some.entry c.is_spelled.ensures.1.holds.ascending has
    c.in-Some.ensures.1 in
    IfErr-weaker c.read_list.result (ReadsFront (block_ranges c.args.source.now.recorded.blob c.in-Some.entry.blocks) old new)
    (ReadsFront (ranges_of c.args.term.now (part_of c.args.source.now)) old new)
    (λ t f. subst (λ (rs : List ReadRange). ReadsFront rs old new t) (sym same) f)
    c.read_list.ensures.front

pub returns-in-Some-clause-cause : goal.returns-in-Some-clause-cause
returns-in-Some-clause-cause g c =
    let has = found_has c.args.source.now.directory.terms _ c.in-Some.entry c.requires.has c.in-Some.ensures.0 in
    let source = c.args.source.now in
    let holds = g.D.Store.holds c.args.store.now in
    let before = g.D.Store.faults c.args.store.now in
    let now = g.D.Store.faults c.read_list.new.store in
    let P = λ (blob : ℕ).
    (source.recorded.blob ≡ blob) × IfSome holds (λ content. AreNoBlocks (content.blobs blob) source.directory.low c.in-Some.entry) in
    let part = part_of source in
    let Q = λ (blob : ℕ). (source.recorded.blob ≡ blob) × IfSome holds (λ content. IsNoPartOf content c.args.term.now part blob) in
    IfErr-weaker c.read_list.result (IsCause P before now) (IsCause Q before now)
    (λ t k.
    cause_after P Q before before now t refl
    (λ blob p. (
      p.0,
      IfSome-map (λ content. AreNoBlocks (content.blobs blob) source.directory.low c.in-Some.entry)
          (λ content. IsNoPartOf content c.args.term.now part blob) holds
          (λ content n. (
            no_part source.directory c.in-Some.entry (content.blobs blob) has n,
            no_term content part c.args.term.now c.in-Some.entry c.is_spelled.ensures.1.holds.ascending has c.in-Some.ensures.1
                (subst (λ b. AreNoBlocks (content.blobs b) source.directory.low c.in-Some.entry) (sym p.0) n),
          ))
          p.1,
    ))
    k)
    c.read_list.ensures.cause

pub returns-in-None-clause-held : goal.returns-in-None-clause-held
returns-in-None-clause-held g c =
    let part = part_of c.args.source.now in
    IfSome-all (λ content. HoldsTerm content c.args.term.now part _) (g.D.Store.holds c.args.store.now)
    (λ content.
    rw c.new.ensures.items
    (held_nowhere content c.args.term.now part (λ entry h e. c.in-None.ensures entry (c.requires.only entry h e) e)))

pub returns-in-None-clause-whole : goal.returns-in-None-clause-whole
returns-in-None-clause-whole g c =
    let holds = g.D.Store.holds c.args.store.now in
    let none =
    ranges_nowhere (part_of c.args.source.now) c.args.term.now
    (λ entry h e. c.in-None.ensures entry (c.requires.only entry h e) e) in
    subst (λ (rs : List ReadRange). IfSome holds (λ content. HasWholeRanges content rs)) (sym none)
    (IfSome-all (λ content. HasWholeRanges content []) holds (λ content. tt))

pub returns-in-None-clause-reads : goal.returns-in-None-clause-reads
returns-in-None-clause-reads g c =
    let old = g.D.Store.reads c.args.store.now in
    let none =
    ranges_nowhere (part_of c.args.source.now) c.args.term.now
    (λ entry h e. c.in-None.ensures entry (c.requires.only entry h e) e) in
    sym (ap (λ (rs : List ReadRange). adds rs old) none ∙ adds-none old)
