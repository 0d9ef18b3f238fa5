use Rattle.std.proofs.Common.{[], ◌∷◌, ◌+◌, ◌<◌, ◌∙◌, ap, length, map, rules}
use Rattle.std.proofs.lemmas.List.{map-append}
use Rattle.wu_query.specs.Near.{cut_to}
use Rattle.wu_query.specs.Units.{found_in}
use Rattle.wu_query.proofs.FetchedLists.{asked_then, cause_then, fails_on_the_way, lists_next, told_then}
use Rattle.wu_query.proofs.NearLists.{named_more}
use Rattle.wu_query.proofs.PassedCauses.{cause_at_once}
use Rattle.wu_query.proofs.near.gathered_of.Goals as goal

pub loop-term-preserved : goal.loop-term-preserved
loop-term-preserved g c =
    let terms = c.args.terms.now in
    let i = c.loop-term.term-index in
    let term = c.term-item.result in
    let ranges = c.args.frames.now.ranges in
    let within : i < length terms = search rules in
    let told = c.loop-term.invariant in
    record {
      lists = λ s tells.
          lists_next terms i term within c.term-item.is (found_in ranges s) (told.lists s tells)
          (ap (map (cut_to ranges)) c.in_ok-push.ensures.items
          ∙ map-append (cut_to ranges) c.loop-term.gathered.items (c.in_ok-gather.field-0 ∷ []))
          (c.in_ok-gather.ensures.list s (told_then terms i term within c.term-item.is g.D.Store ranges told.asked s tells));
      named = named_more terms i term within c.term-item.is c.loop-term.gathered.items c.push.new.self.items c.in_ok-gather.field-0
          told.named c.in_ok-push.ensures.items c.in_ok-gather.ensures.named;
      asked = asked_then terms i term within c.term-item.is g.D.Store ranges told.asked c.in_ok-gather.ensures.blocks
          c.gather.ensures.others c.in_ok-gather.ensures.store;
    }

pub returns-in_err-gathered-clause-cause : goal.returns-in_err-gathered-clause-cause
returns-in_err-gathered-clause-cause g c =
    cause_at_once c.from_residual.result c.args.parts.now c.args.frames.now.ranges c.args.terms.now _ _ _ c.from_residual.ensures.1

pub returns-in_err-gather-clause-cause : goal.returns-in_err-gather-clause-cause
returns-in_err-gather-clause-cause g c =
    let within : c.loop-term.term-index < length c.args.terms.now = search rules in
    cause_then c.args.terms.now c.loop-term.term-index c.term-item.result within c.term-item.is g.D.Store c.args.frames.now.ranges
    c.loop-term.invariant.asked c.from_residual-in_err-gather.result c.from_residual-in_err-gather.ensures.1
    c.in_err-gather.ensures.cause

pub returns-in_err-push-clause-cause : goal.returns-in_err-push-clause-cause
returns-in_err-push-clause-cause g c =
    let terms = c.args.terms.now in
    let i = c.loop-term.term-index in
    let within : i < length terms = search rules in
    let asked = asked_then terms i c.term-item.result within c.term-item.is g.D.Store c.args.frames.now.ranges
    c.loop-term.invariant.asked c.in_ok-gather.ensures.blocks c.gather.ensures.others c.in_ok-gather.ensures.store in
    fails_on_the_way c.from_residual-in_err-push.result terms (i + 1) c.args.parts.now c.args.frames.now.ranges
    c.from_residual-in_err-push.ensures.1 asked.calm asked.blocks
