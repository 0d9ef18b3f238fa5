use Rattle.std.proofs.Common.{◌≡◌, ◌<◌, ◌+◌, ℕ, true, false, List, length, filter, get_or, refl, sym, ap, subst, ◌∙◌, arith, inl, inr}
use Rattle.std.specs.Prelude.{◌⊎◌, IfSome}
use Rattle.std.specs.List.{AllByRecursion, list_any}
use Rattle.std.proofs.lemmas.Result.{err_from_is_err_and}
use Rattle.wu_base.specs.declared.limits.TheConstants.{ADDRESSES_MAX}
use Rattle.wu_base.proofs.EachLemmas.{each-filter}
use Rattle.wu_layout.specs.Ascending.{AscendBetween}
use Rattle.wu_layout.proofs.Ascending.{ascend-filter, ascend-higher, ascend-lower}
use Rattle.wu_layout.specs.Postings.{is_live}
use Rattle.wu_layout.proofs.EntryLemmas.{IfSome-map}
use Rattle.wu_job.specs.Jobs.{HoldsTerm}
use Rattle.wu_job.specs.Live.{ranges_alone}
use Rattle.wu_job.specs.Reading.{IsCutOf, IsNoPartOf, IsRefused, IsSomeMarked, is_some_marked}
use Rattle.wu_job.specs.Sources.{part_of}
use Rattle.wu_job.specs.Steps.{ranges_of}
use Rattle.wu_job.proofs.Fronts.{cause_after, cause_calm, front_all, front_damaged, no_fault, no_memory, same_blob}
use Rattle.wu_job.proofs.Marking.{marked_some, places_within}
use Rattle.wu_job.proofs.lists.live_addresses.Goals as goal

pub cut_to_live-requires-clause-ascend : goal.cut_to_live-requires-clause-ascend
cut_to_live-requires-clause-ascend g c =
    let low = c.args.source.now.directory.low in
    let high = c.args.source.now.directory.high in
    let found = c.in_ok-found.found.items in
    rw c.deref.ensures.value
    (ascend-lower 0 low ADDRESSES_MAX found (omega arith)
    (ascend-higher low (high + 1) ADDRESSES_MAX found (omega (arith, c.in_ok-found.ensures.bounded)) c.in_ok-found.ensures.ascend))

pub check_unmarked-requires : goal.check_unmarked-requires
check_unmarked-requires g c =
    let live = ranges_alone c.args.live.now in
    let addresses = c.in_ok-cut.cut.addresses.items in
    let alive : AllByRecursion (λ address. is_live live address ≡ true) addresses =
    subst (AllByRecursion (λ address. is_live live address ≡ true)) (sym c.in_ok-cut.ensures.addresses)
    (each-filter (is_live live) c.deref.result.now) in
    rw (c.deref-2.ensures.value, c.in_ok-cut.ensures.places)
    (places_within live (length c.args.marks.now) addresses (sym c.requires.marks) alive)

pub returns-in_err-found-clause-cause : goal.returns-in_err-found-clause-cause
returns-in_err-found-clause-cause g c =
    let p = err_from_is_err_and c.from_residual.result c.from_residual.ensures.1 in
    let part = part_of c.args.source.now in
    let live = ranges_alone c.args.live.now in
    let holds = g.D.Store.holds c.args.store.now in
    let before = g.D.Store.faults c.args.store.now in
    rw (p.1, p.2)
    (cause_after
    (λ blob. (part.recorded.blob ≡ blob) × IfSome holds (λ content. IsNoPartOf content c.args.term.now part blob))
    (IsRefused holds live c.args.marks.now c.args.term.now part) before before (g.D.Store.faults c.read_term.new.store)
    c.in_err-found.field-0.0 refl
    (λ blob b. (
      b.0,
      IfSome-map (λ content. IsNoPartOf content c.args.term.now part blob)
          (λ content. IsNoPartOf content c.args.term.now part blob ⊎ IsSomeMarked content live c.args.marks.now c.args.term.now part) holds
          (λ content n. inl n) b.1,
    ))
    c.in_err-found.ensures.cause)

pub returns-in_err-cut-clause-front : goal.returns-in_err-cut-clause-front
returns-in_err-cut-clause-front g c =
    let p = err_from_is_err_and c.from_residual-in_err-cut.result c.from_residual-in_err-cut.ensures.1 in
    rw (p.1, p.2)
    (front_all (ranges_of c.args.term.now (part_of c.args.source.now)) (g.D.Store.reads c.args.store.now)
    (g.D.Store.reads c.read_term.new.store) _ c.in_ok-found.ensures.reads (λ blob e. absurd (no_memory blob e)))

-- the addresses that were found are cut to those that are live, and one of these is marked
pub returns-in_err-check_unmarked-clause-front : goal.returns-in_err-check_unmarked-clause-front
returns-in_err-check_unmarked-clause-front g c =
    let p = err_from_is_err_and c.from_residual-in_err-check_unmarked.result c.from_residual-in_err-check_unmarked.ensures.1 in
    let live = ranges_alone c.args.live.now in
    let marks = c.args.marks.now in
    let found = c.in_ok-found.found.items in
    let all : c.deref.result.now ≡ found = c.deref.ensures.value in
    let cut : c.in_ok-cut.cut.addresses.items ≡ filter (is_live live) found =
    c.in_ok-cut.ensures.addresses ∙ ap (filter (is_live live)) all in
    let marked : is_some_marked live marks c.in_ok-cut.cut.addresses.items ≡ true =
    ap (list_any (λ place. get_or marks place false)) (sym c.in_ok-cut.ensures.places ∙ sym c.deref-2.ensures.value)
    ∙ c.in_err-check_unmarked.ensures.some.1 in
    let some : 0 < length found =
    marked_some live marks found (subst (λ (xs : List ℕ). is_some_marked live marks xs ≡ true) cut marked) in
    rw (p.1, p.2, c.in_err-check_unmarked.ensures.some.0)
    (front_damaged (ranges_of c.args.term.now (part_of c.args.source.now)) (g.D.Store.reads c.args.store.now)
    (g.D.Store.reads c.read_term.new.store) c.args.source.now.recorded.blob c.in_ok-found.ensures.reads (c.in_ok-found.ensures.some some))

pub returns-in_err-check_unmarked-clause-cause : goal.returns-in_err-check_unmarked-clause-cause
returns-in_err-check_unmarked-clause-cause g c =
    let p = err_from_is_err_and c.from_residual-in_err-check_unmarked.result c.from_residual-in_err-check_unmarked.ensures.1 in
    let part = part_of c.args.source.now in
    let live = ranges_alone c.args.live.now in
    let marks = c.args.marks.now in
    let found = c.in_ok-found.found.items in
    let holds = g.D.Store.holds c.args.store.now in
    let cut : c.in_ok-cut.cut.addresses.items ≡ filter (is_live live) found =
    c.in_ok-cut.ensures.addresses ∙ ap (filter (is_live live)) c.deref.ensures.value in
    let marked : is_some_marked live marks c.in_ok-cut.cut.addresses.items ≡ true =
    ap (list_any (λ place. get_or marks place false)) (sym c.in_ok-cut.ensures.places ∙ sym c.deref-2.ensures.value)
    ∙ c.in_err-check_unmarked.ensures.some.1 in
    rw (p.1, p.2, c.in_err-check_unmarked.ensures.some.0)
    (cause_calm (IsRefused holds live marks c.args.term.now part) (g.D.Store.faults c.args.store.now) (g.D.Store.faults c.read_term.new.store)
    _ c.in_ok-found.ensures.calm (no_fault part.recorded.blob)
    (λ blob e. (
      same_blob part.recorded.blob blob e,
      IfSome-map (λ content. HoldsTerm content c.args.term.now part found)
          (λ content. IsNoPartOf content c.args.term.now part blob ⊎ IsSomeMarked content live marks c.args.term.now part) holds
          (λ content h. inr (found, h, subst (λ (xs : List ℕ). is_some_marked live marks xs ≡ true) cut marked))
          c.in_ok-found.ensures.held,
    )))

pub returns-clause-new : goal.returns-clause-new
returns-clause-new g c =
    let live = ranges_alone c.args.live.now in
    let marks = c.args.marks.now in
    let low = c.args.source.now.directory.low in
    let high = c.args.source.now.directory.high in
    let found = c.in_ok-found.found.items in
    let cut : c.in_ok-cut.cut.addresses.items ≡ filter (is_live live) found =
    c.in_ok-cut.ensures.addresses ∙ ap (filter (is_live live)) c.deref.ensures.value in
    record {
      ascend = subst (AscendBetween low (high + 1)) (sym cut) (ascend-filter (is_live live) low (high + 1) found c.in_ok-found.ensures.ascend);
      alive = subst (AllByRecursion (λ address. is_live live address ≡ true)) (sym cut) (each-filter (is_live live) found);
      places = c.in_ok-cut.ensures.places;
      unmarked =
          ap (list_any (λ place. get_or marks place false))
          (sym c.in_ok-cut.ensures.places ∙ sym c.deref-2.ensures.value)
          ∙ c.in_ok-check_unmarked.ensures.none;
    }

pub returns-clause-held : goal.returns-clause-held
returns-clause-held g c =
    let part = part_of c.args.source.now in
    let live = ranges_alone c.args.live.now in
    let found = c.in_ok-found.found.items in
    let cut : c.in_ok-cut.cut.addresses.items ≡ filter (is_live live) found =
    c.in_ok-cut.ensures.addresses ∙ ap (filter (is_live live)) c.deref.ensures.value in
    IfSome-map (λ content. HoldsTerm content c.args.term.now part found)
    (λ content. IsCutOf content live c.args.term.now part c.in_ok-cut.cut.addresses.items) (g.D.Store.holds c.args.store.now)
    (λ content h. (found, h, cut))
    c.in_ok-found.ensures.held
