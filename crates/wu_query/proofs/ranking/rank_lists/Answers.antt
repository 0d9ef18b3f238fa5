use Rattle.std.proofs.Common.{◌∙◌, ap, drop, map, refl, take}
use Rattle.std.proofs.lemmas.List.{drop-map}
use Rattle.std.proofs.lemmas.List.Elements.{All-take}
use Rattle.std.specs.List.Sorted.{IsStrictlyIncreasing}
use Rattle.wu_base.specs.declared.addresses.TermList.{TermList}
use Rattle.wu_gcl.specs.Regions.{region_of}
use Rattle.wu_query.specs.Units.{AreUnits, found_in, list_at}
use Rattle.wu_query.proofs.AnswerLemmas.{if_ok}
use Rattle.wu_query.proofs.AskedTerms.{front_told}
use Rattle.wu_query.proofs.FramesOfFiles.{are_lists}
use Rattle.wu_query.proofs.UnitLemmas.{units_told}
use Rattle.wu_query.proofs.ranking.rank_lists.Goals as goal

pub solve_apart-requires-clause-lists : goal.solve_apart-requires-clause-lists
solve_apart-requires-clause-lists c =
    let front = take c.args.count c.args.lists.now in
    rw c.split_at.ensures.front
    (are_lists (map (λ list. list.term) front) front refl
    (All-take (λ (list : TermList). IsStrictlyIncreasing list.at) c.args.count c.args.lists.now c.requires.ascending)
    c.requires.of_unit.ascending)

pub solve_apart-requires-clause-apart : goal.solve_apart-requires-clause-apart
solve_apart-requires-clause-apart c = rw c.as_slice.ensures c.requires.fit.apart

pub returns : goal.returns
returns c =
    let frames = c.args.frames.now in
    let lists = c.args.lists.now in
    let count = c.args.count in
    let region = region_of c.args.unit.now in
    let found_units : AreUnits region frames (take count lists) c.in_ok-units.units.items =
    c.in_ok-units.ensures region (take count lists)
    (c.deref.ensures.value ∙ (rw (c.as_slice.ensures, c.split_at.ensures.front) at c.in_ok-extents.ensures.extents)) in
    if_ok c.rank_units.result c.rank_units.ensures
    (λ answered known. λ s uid is terms told among.
    known s uid is region
    (units_told region frames s (take count lists) c.in_ok-units.units.items c.deref-2.result.now c.requires.of_unit found_units
    (front_told (found_in frames.ranges s) terms lists count told) c.deref-2.ensures.value)
    terms (drop count terms) told
    (c.split_at.ensures.back ∙ ap (drop count) told ∙ drop-map (list_at (found_in frames.ranges s)) count terms) among)
