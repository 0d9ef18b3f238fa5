use Rattle.std.proofs.Common.{◌+◌, ◌≤◌, ◌∙◌, ap, map, subst, sym}
use Rattle.std.specs.List.Sorted.{IsStrictlyIncreasing}
use Rattle.std.proofs.lemmas.List.Elements.{All-filter}
use Rattle.wu_base.specs.declared.addresses.Range.{Range}
use Rattle.wu_base.specs.declared.addresses.TermList.{TermList}
use Rattle.wu_base.specs.declared.limits.TheConstants.{ADDRESSES_MAX}
use Rattle.wu_solve.specs.Frames.{has_one_of}
use Rattle.wu_solve.proofs.FramePlaces.{apart_kept}
use Rattle.wu_query.proofs.AnswerLemmas.{if_ok}
use Rattle.wu_query.proofs.NearLists.{cut_named, same_for, same_lists}
use Rattle.wu_query.proofs.near.lists_for.Goals as goal

pub lists_within-requires-clause-apart : goal.lists_within-requires-clause-apart
lists_within-requires-clause-apart c =
    rw (c.deref.ensures.value ∙ c.in_ok-near-in-Some.ensures)
    (apart_kept (has_one_of c.as_slice.result.now) c.args.frames.now c.requires.apart)

pub lists_within-requires-clause-bounded : goal.lists_within-requires-clause-bounded
lists_within-requires-clause-bounded c =
    rw (c.deref.ensures.value ∙ c.in_ok-near-in-Some.ensures)
    (All-filter (has_one_of c.as_slice.result.now) (λ (frame : Range). frame.start + frame.len ≤ ADDRESSES_MAX) c.args.frames.now
    c.requires.bounded)

pub returns-in_ok-near-in-Some-clause-lists : goal.returns-in_ok-near-in-Some-clause-lists
returns-in_ok-near-in-Some-clause-lists c =
    if_ok c.lists_within.result c.lists_within.ensures.lists
    (λ lists are. λ region found terms needs tells.
    same_for region c.args.frames.now c.args.gathered.now found terms c.args.needed.now needs tells c.in-Some.place c.in-Some.ensures
    c.index-gathered-place.result c.index-gathered-place.is (c.as_slice.ensures ∙ c.in_ok-addresses-in-Some.ensures.addresses)
    (subst IsStrictlyIncreasing (sym c.as_slice.ensures) c.in_ok-addresses-in-Some.ensures.ascending)
    (c.deref.ensures.value ∙ c.in_ok-near-in-Some.ensures) are)

pub returns-in_ok-near-in-Some-clause-named : goal.returns-in_ok-near-in-Some-clause-named
returns-in_ok-near-in-Some-clause-named c =
    if_ok c.lists_within.result c.lists_within.ensures.lists
    (λ lists are. ap (map (λ (l : TermList). l.term)) are ∙ cut_named c.deref.result.now c.args.gathered.now)

pub returns-in-None-clause-lists : goal.returns-in-None-clause-lists
returns-in-None-clause-lists c =
    if_ok c.lists_within-in-None.result c.lists_within-in-None.ensures.lists
    (λ lists are. λ region found terms needs tells. same_lists region c.args.frames.now (are ∙ tells))

pub returns-in-None-clause-named : goal.returns-in-None-clause-named
returns-in-None-clause-named c =
    if_ok c.lists_within-in-None.result c.lists_within-in-None.ensures.lists
    (λ lists are. ap (map (λ (l : TermList). l.term)) are ∙ cut_named c.args.frames.now c.args.gathered.now)
