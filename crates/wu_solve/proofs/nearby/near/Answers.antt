use Rattle.std.proofs.Common.{ℕ, sym, subst, ◌^◌, ◌<◌, ◌≤◌, List, [], ◌∷◌}
use Rattle.std.specs.List.{All}
use Rattle.std.proofs.lemmas.Result.{IfOk-weaker}
use Rattle.wu_base.specs.declared.addresses.Extent.{Extent}
use Rattle.wu_gcl.specs.declared.expressions.Op.TheVariants.{FollowedBy}
use Rattle.wu_gcl.specs.Regions.{Phrase, Mark, Both}
use Rattle.wu_gcl.specs.Reading.{tag_text}
use Rattle.wu_solve.specs.Addresses.{AreAddressesOf}
use Rattle.wu_solve.specs.Listing.{IsAscending}
use Rattle.wu_solve.specs.Simple.{Means}
use Rattle.wu_solve.specs.declared.nearby.Simple.{Simple as SimpleExpr}
use Rattle.wu_solve.specs.declared.nearby.Simple.TheVariants.{Spans, Term}
use Rattle.wu_solve.specs.Spanning.{AreSpansNear, ArePlacesNear, AreHitsNear}
use Rattle.wu_solve.proofs.NearHits.{all_ordered, all_low, near_alike, places_hits_near}
use Rattle.wu_solve.proofs.Results.{frames_ascend}
use Rattle.wu_solve.proofs.SpansWhole.{hits_near}
use Rattle.wu_solve.proofs.nearby.near.Goals as goal

pub spans_near-requires-clause-extents : goal.spans_near-requires-clause-extents
spans_near-requires-clause-extents c =
    let hits = c.requires.hits in
    subst IsAscending (sym hits.1) (frames_ascend hits.0 c.args.lists.now c.args.frames.now c.requires.apart)

pub spans_near-requires-clause-ordered : goal.spans_near-requires-clause-ordered
spans_near-requires-clause-ordered c =
    let hits = c.requires.hits in
    subst (λ (xs : List Extent). All (λ x. x.start ≤ x.end) xs) (sym hits.1) (all_ordered hits.0 c.args.lists.now c.args.frames.now)

pub spans_near-requires-clause-low : goal.spans_near-requires-clause-low
spans_near-requires-clause-low c =
    let hits = c.requires.hits in
    subst (λ (xs : List Extent). All (λ x. x.end < 2 ^ 47) xs) (sym hits.1)
    (all_low hits.0 c.args.lists.now c.args.frames.now c.requires.frames)

pub places_near-requires-clause-extents : goal.places_near-requires-clause-extents
places_near-requires-clause-extents c =
    let hits = c.requires.hits in
    subst IsAscending (sym hits.1) (frames_ascend hits.0 c.args.lists.now c.args.frames.now c.requires.apart)

pub places_near-requires-clause-ordered : goal.places_near-requires-clause-ordered
places_near-requires-clause-ordered c =
    let hits = c.requires.hits in
    subst (λ (xs : List Extent). All (λ x. x.start ≤ x.end) xs) (sym hits.1) (all_ordered hits.0 c.args.lists.now c.args.frames.now)

pub returns-in-Spans : goal.returns-in-Spans
returns-in-Spans c = λ region means.
    let lists = c.args.lists.now in
    let frames = c.args.frames.now in
    let extents = c.args.extents.now in
    let first = c.in-Spans.first in
    let last = c.in-Spans.last in
    let starts = c.addresses_of-starts.result.now in
    let ends = c.addresses_of-ends.result.now in
    let starts_are : AreAddressesOf lists (tag_text first) starts =
    subst (λ (term : List ℕ). AreAddressesOf lists term starts) c.tag_bytes.ensures
    (record { ascending = c.addresses_of-starts.ensures.ascending; same = c.addresses_of-starts.ensures.same }) in
    let ends_are : AreAddressesOf lists (tag_text last) ends =
    subst (λ (term : List ℕ). AreAddressesOf lists term ends) c.tag_bytes-in-Spans.ensures
    (record { ascending = c.addresses_of-ends.ensures.ascending; same = c.addresses_of-ends.ensures.same }) in
    let same : Means (Spans first last) region = subst (λ (s : SimpleExpr). Means s region) c.in-Spans.is means in
    IfOk-weaker c.spans_near.result (λ v. AreSpansNear starts ends frames extents v.items)
    (λ v. AreHitsNear region lists frames extents v.items)
    (λ v close. near_alike (Both FollowedBy (Mark first) (Mark last)) region lists frames extents v.items (same lists frames)
    (hits_near lists first last starts ends starts_are ends_are frames extents v.items close)) c.spans_near.ensures

pub returns-in-Term : goal.returns-in-Term
returns-in-Term c = λ region means.
    let lists = c.args.lists.now in
    let frames = c.args.frames.now in
    let extents = c.args.extents.now in
    let term = c.in-Term.term in
    let addresses = c.addresses_of.result.now in
    let are : AreAddressesOf lists term.now addresses =
    record { ascending = c.addresses_of.ensures.ascending; same = c.addresses_of.ensures.same } in
    let same : Means (Term term) region = subst (λ (s : SimpleExpr). Means s region) c.in-Term.is means in
    IfOk-weaker c.places_near.result (λ v. ArePlacesNear addresses extents v.items)
    (λ v. AreHitsNear region lists frames extents v.items)
    (λ v close. near_alike (Phrase (term.now ∷ [])) region lists frames extents v.items (same lists frames)
    (places_hits_near lists frames c.requires.apart term.now addresses are extents v.items c.requires.hits close)) c.places_near.ensures
