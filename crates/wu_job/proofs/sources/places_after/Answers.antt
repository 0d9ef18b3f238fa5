use Rattle.std.proofs.Common.{◌≡◌, drop, sym, subst, ap, ◌∙◌}
use Rattle.std.specs.Prelude.{option_map, slice_get}
use Rattle.wu_job.specs.Sources.{ArePassed, passed, terms_from, terms_of, terms_of_other}
use Rattle.wu_job.proofs.Merging.{merged_up}
use Rattle.wu_job.proofs.Walking.{bounded_first, left_after, passed_after, place_below, term_at, term_at_other}
use Rattle.wu_job.proofs.sources.places_after.Goals as goal

pub place_after-requires : goal.place_after-requires
place_after-requires c = place_below (terms_of c.args.left.now) c.args.places.left c.args.front.now.left
    (ap (option_map (λ entry. entry.term)) c.requires.front.first ∙ term_at c.args.left.now.directory.terms c.args.places.left)
    c.are_whole.ensures.whole.terms

pub place_after-requires-2 : goal.place_after-requires-2
place_after-requires-2 c = place_below (terms_of_other c.args.right.now) c.args.places.right c.args.front.now.right
    (ap (option_map (λ entry. entry.term)) c.requires.front.second ∙ term_at_other c.args.right.now c.args.places.right)
    c.are_whole.ensures.whole.others

left_place : (c : goal.After-place_after-2)
    → c.place_after.result ≡ passed (slice_get (terms_of c.args.left.now) c.args.places.left) c.args.term.now c.args.places.left
left_place c = rw (c.requires.front.first, term_at c.args.left.now.directory.terms c.args.places.left) at c.place_after.ensures

right_place : (c : goal.After-place_after-2)
    → c.place_after-2.result ≡ passed (slice_get (terms_of_other c.args.right.now) c.args.places.right) c.args.term.now c.args.places.right
right_place c = rw (c.requires.front.second, term_at_other c.args.right.now c.args.places.right) at c.place_after-2.ensures

pub returns-clause-left : goal.returns-clause-left
returns-clause-left c =
    let xs = terms_of c.args.left.now in
    let ys = terms_of_other c.args.right.now in
    rw (left_place c, right_place c)
    (left_after c.args.term.now xs ys c.args.places.left c.args.places.right c.are_whole.ensures.whole.terms.ascending
    c.are_whole.ensures.whole.others.ascending c.requires.first)

pub returns-clause-passed : goal.returns-clause-passed
returns-clause-passed c = λ a.
    let left = c.args.left.now in
    let right = c.args.right.now in
    let xs = terms_of left in
    let ys = terms_of_other right in
    let i = c.args.places.left in
    let j = c.args.places.right in
    let before = terms_from left right c.args.places in
    let later = terms_from left right (record { left = c.place_after.result; right = c.place_after-2.result }) in
    let up = merged_up (drop i xs) (drop j ys) in
    let is = returns-clause-left c in (
      subst (λ n. ArePassed xs n later) (sym (left_place c)) (passed_after c.args.term.now before later i xs up is a.0),
      subst (λ n. ArePassed ys n later) (sym (right_place c)) (passed_after c.args.term.now before later j ys up is a.1),
    )

pub returns-clause-bounded : goal.returns-clause-bounded
returns-clause-bounded c =
    bounded_first c.args.term.now (terms_of c.args.left.now) (terms_of_other c.args.right.now)
    (terms_from c.args.left.now c.args.right.now (record { left = c.place_after.result; right = c.place_after-2.result }))
    c.args.places.left c.args.places.right
    c.are_whole.ensures.whole.terms c.are_whole.ensures.whole.others (returns-clause-left c)
