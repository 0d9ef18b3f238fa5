use Rattle.std.proofs.Common.{◌≡◌, ◌<◌, ◌∙◌, false, length, arith}
use Rattle.std.specs.List.{list_any}
use Rattle.std.proofs.lemmas.List.{get_or_read}
use Rattle.wu_query.specs.Finding.{is_at_place}
use Rattle.wu_query.proofs.FilesAtPlaces.{met_more, within_more}
use Rattle.wu_query.proofs.units.places_with.Goals as goal

pub loop-place-preserved : goal.loop-place-preserved
loop-place-preserved c =
    let view = c.args.view.now in
    let units = c.args.units.now in
    let places = c.loop-place.places.items in
    let told = c.loop-place.invariant in
    let place = c.loop-place.place in
    let within : place < length view = omega (arith, c.loop-place-test.true, c.len-place-end.ensures) in
    let counted : place < c.len.result = omega (arith, within, c.len.ensures) in
    let inside : place < length c.in_ok-met.met.items = omega (arith, counted, c.in_ok-met.ensures.len, c.in_ok-met.met.ok.0) in
    let met : c.index.result.now ≡ list_any (is_at_place place) units =
    get_or_read c.in_ok-met.met.items place c.index.result.now inside c.index.ensures false ∙ c.in_ok-met.ensures.met place counted in
    record {
      files = met_more view units places place within c.in_ok-put_place_met.ensures met told.files;
      within = within_more view units places place within c.index.result.now c.in_ok-put_place_met.ensures told.within;
    }
