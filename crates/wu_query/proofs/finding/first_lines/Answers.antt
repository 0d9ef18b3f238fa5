use Rattle.std.proofs.Common.{◌≡◌, ◌-◌, ◌<◌, ◌∙◌, List, length, take, inl, ⊎_elim, subst, sym, arith, rules}
use Rattle.std.specs.Prelude.{Some, slice_get}
use Rattle.std.specs.List.{flat_map}
use Rattle.std.specs.Option.{IsSomeAnd}
use Rattle.wu_gcl.specs.Regions.{region_of}
use Rattle.wu_query.specs.Causes.{IsBrokenIn, IsDamagedOf}
use Rattle.wu_view.specs.declared.Seen.{Seen}
use Rattle.wu_query.specs.Finding.{files_at, hits_at, lines_at, text_at}
use Rattle.wu_query.specs.Near.{lists_found}
use Rattle.wu_query.proofs.FilesAtPlaces.{file_is, file_there}
use Rattle.wu_query.proofs.FirstLines.{at_place, lines_kept, texts_done, texts_kept}
use Rattle.wu_query.specs.Records.{record_at}
use Rattle.wu_query.specs.Reads.{IsTextOf}
use Rattle.wu_query.proofs.WholeTexts.{whole_done, whole_next}
use Rattle.wu_query.proofs.PermittedTexts.{file_blob, file_only, file_read}
use Rattle.wu_query.proofs.DamagedTexts.{some_behind}
use Rattle.wu_query.proofs.PassedCauses.{err_from}
use Rattle.wu_query.proofs.ReadCauses.{cause_after, cause_behind}
use Rattle.wu_query.proofs.finding.first_lines.Goals as goal

pub nth-place-requires : goal.nth-place-requires
nth-place-requires g c = c.len-turn-end.ensures.turns c.loop-turn.turn c.loop-turn-test.true

pub returns-then-len-k-clause-reads : goal.returns-then-len-k-clause-reads
returns-then-len-k-clause-reads g c =
    let files = c.args.files.now.entries in
    let long : c.len.result ≡ length c.loop-turn.shown.items = search rules in
    let full : c.args.k - length c.loop-turn.shown.items ≡ 0 = omega (arith, c.if-len-k.true) in
    texts_done c.args.k c.loop-turn.shown.items _ (hits_at files (region_of c.args.expr.now) (lists_found c.args.postings.now))
    (text_at files)
    (g.D.Store.reads c.loop-turn.store) _ (inl full) c.loop-turn.invariant.reads

pub loop-turn-preserved : goal.loop-turn-preserved
loop-turn-preserved g c =
    let files = c.args.files.now.entries in
    let region = region_of c.args.expr.now in
    let lists = lists_found c.args.postings.now in
    let hits = hits_at files region lists in
    let k = c.args.k in
    let i = c.loop-turn.turn in
    let looked = files_at c.args.places.now c.args.view.now in
    let within : i < length looked = omega (arith, c.loop-turn-test.true, c.len-turn-end.ensures.len) in
    let found = file_there looked i within in
    let seen = found.0 in
    let is = file_is looked i seen found.1 in
    let there : slice_get c.args.view.now c.nth-place.result ≡ Some seen =
    c.nth-place.ensures c.args.view.now c.requires.within ∙ found.1 in
    let before = c.loop-turn.shown.items in
    let after = c.put_file.new.shown.items in
    let reads = g.D.Store.reads in
    let told = c.loop-turn.invariant in
    let put = c.in_ok-put_file.ensures in
    let count = put.count seen there in
    let long : c.len-in-loop-turn.result ≡ length before = search rules in
    record {
      holds = put.store.holds ∙ told.holds;
      moments = c.put_file.ensures.store.moments ∙ told.moments;
      calm = put.store.calm ∙ told.calm;
      none = λ h. absurd (omega (arith, c.if-len-k.false));
      lines = lines_kept k i looked seen within is before after (λ content. lines_at content files region lists)
          (λ content. take k (flat_map (lines_at content files region lists) looked)) long told.holds (put.lines seen there) told.lines;
      reads = texts_kept k i looked seen within is before after hits (text_at files) (reads c.loop-turn.store) long count
          (put.reads seen there) told.reads;
      sound = whole_next (IsTextOf (g.D.Store.holds c.args.store.now) files) hits (text_at files) k i looked seen within is
          long count told.sound (rw told.holds at (put.sound seen there));
      only = file_read hits (text_at files) k i looked seen within is long (reads c.args.store.now) told.only count
          (put.reads seen there);
    }

pub returns-in_err-put_file-clause-only : goal.returns-in_err-put_file-clause-only
returns-in_err-put_file-clause-only g c =
    let files = c.args.files.now.entries in
    let i = c.loop-turn.turn in
    let looked = files_at c.args.places.now c.args.view.now in
    let within : i < length looked = omega (arith, c.loop-turn-test.true, c.len-turn-end.ensures.len) in
    let found = file_there looked i within in
    let there : slice_get c.args.view.now c.nth-place.result ≡ Some found.0 =
    c.nth-place.ensures c.args.view.now c.requires.within ∙ found.1 in
    let long : c.len-in-loop-turn.result ≡ length c.loop-turn.shown.items = search rules in
    file_only (hits_at files (region_of c.args.expr.now) (lists_found c.args.postings.now)) (text_at files) c.args.k i looked found.0 within
    (file_is looked i found.0 found.1) long (g.D.Store.reads c.args.store.now) c.loop-turn.invariant.only
    (c.in_err-put_file.ensures.only found.0 there)

pub returns-then-len-k-clause-sound : goal.returns-then-len-k-clause-sound
returns-then-len-k-clause-sound g c =
    let files = c.args.files.now.entries in
    let long : c.len.result ≡ length c.loop-turn.shown.items = search rules in
    let full : c.args.k - length c.loop-turn.shown.items ≡ 0 = omega (arith, c.if-len-k.true) in
    whole_done (IsTextOf (g.D.Store.holds c.args.store.now) files)
    (hits_at files (region_of c.args.expr.now) (lists_found c.args.postings.now))
    (text_at files) c.args.k c.loop-turn.shown.items _ (inl full) c.loop-turn.invariant.sound

pub returns-in_err-put_file-clause-cause : goal.returns-in_err-put_file-clause-cause
returns-in_err-put_file-clause-cause g c =
    let files = c.args.files.now.entries in
    let i = c.loop-turn.turn in
    let looked = files_at c.args.places.now c.args.view.now in
    let within : i < length looked = omega (arith, c.loop-turn-test.true, c.len-turn-end.ensures.len) in
    let found = file_there looked i within in
    let seen = found.0 in
    let is = file_is looked i seen found.1 in
    let there : slice_get c.args.view.now c.nth-place.result ≡ Some seen =
    c.nth-place.ensures c.args.view.now c.requires.within ∙ found.1 in
    let holds = g.D.Store.holds c.args.store.now in
    let told = c.loop-turn.invariant in
    let long : c.len-in-loop-turn.result ≡ length c.loop-turn.shown.items = search rules in
    err_from _ c.from_residual.result c.in_err-put_file.field-0.0 c.from_residual.ensures.1
    (cause_behind told.only.0 told.only.2
    (cause_after told.calm (c.in_err-put_file.ensures.cause seen there)
    (λ blob broken. (
      file_blob (hits_at files (region_of c.args.expr.now) (lists_found c.args.postings.now))
          (text_at files) c.args.k i looked seen within is long
          (g.D.Store.reads c.args.store.now) told.only blob broken.0,
      some_behind (λ file. IsSomeAnd (record_at files file.ino) (λ recorded. IsBrokenIn holds recorded blob)) i looked
          (subst (λ (some : List Seen). IsDamagedOf some files holds blob) (sym (at_place looked i seen within is))
          (⊎_elim (λ here. inl (rw told.holds at here)) (λ none. absurd none) broken.1)),
    ))))
