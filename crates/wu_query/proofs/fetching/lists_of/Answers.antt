use Rattle.std.proofs.Common.{◌+◌, ◌<◌, length, rules}
use Rattle.wu_query.specs.Units.{found_in}
use Rattle.wu_query.proofs.FetchedLists.{ascending_next, asked_then, cause_then, fails_on_the_way, lists_next, named_next, told_then}
use Rattle.wu_query.proofs.PassedCauses.{cause_at_once}
use Rattle.wu_query.proofs.fetching.lists_of.Goals as goal

pub loop-term-preserved : goal.loop-term-preserved
loop-term-preserved g c =
    let terms = c.args.terms.now in
    let i = c.loop-term.term-index in
    let term = c.term-item.result in
    let ranges = c.args.frames.now.ranges in
    let within : i < length terms = search rules in
    let told = c.loop-term.invariant in
    record {
      lists = λ s tells.
          lists_next terms i term within c.term-item.is (found_in ranges s) (told.lists s tells) c.in_ok-push.ensures.items
          (c.in_ok-list_of.ensures.list s (told_then terms i term within c.term-item.is g.D.Store ranges told.asked s tells));
      named = named_next terms i term within c.term-item.is c.loop-term.lists.items c.push.new.self.items c.in_ok-list_of.field-0
          told.named c.in_ok-push.ensures.items c.in_ok-list_of.ensures.named;
      ascending = ascending_next c.loop-term.lists.items c.push.new.self.items c.in_ok-list_of.field-0 told.ascending
          c.in_ok-push.ensures.items c.in_ok-list_of.ensures.ascending;
      asked = asked_then terms i term within c.term-item.is g.D.Store ranges told.asked c.in_ok-list_of.ensures.blocks
          c.list_of.ensures.others c.in_ok-list_of.ensures.store;
    }

pub returns-in_err-lists-clause-cause : goal.returns-in_err-lists-clause-cause
returns-in_err-lists-clause-cause g c =
    cause_at_once c.from_residual.result c.args.parts.now c.args.frames.now.ranges c.args.terms.now _ _ _ c.from_residual.ensures.1

pub returns-in_err-list_of-clause-cause : goal.returns-in_err-list_of-clause-cause
returns-in_err-list_of-clause-cause g c =
    let within : c.loop-term.term-index < length c.args.terms.now = search rules in
    cause_then c.args.terms.now c.loop-term.term-index c.term-item.result within c.term-item.is g.D.Store c.args.frames.now.ranges
    c.loop-term.invariant.asked c.from_residual-in_err-list_of.result c.from_residual-in_err-list_of.ensures.1
    c.in_err-list_of.ensures.cause

pub returns-in_err-push-clause-cause : goal.returns-in_err-push-clause-cause
returns-in_err-push-clause-cause g c =
    let terms = c.args.terms.now in
    let i = c.loop-term.term-index in
    let within : i < length terms = search rules in
    let asked = asked_then terms i c.term-item.result within c.term-item.is g.D.Store c.args.frames.now.ranges
    c.loop-term.invariant.asked c.in_ok-list_of.ensures.blocks c.list_of.ensures.others c.in_ok-list_of.ensures.store in
    fails_on_the_way c.from_residual-in_err-push.result terms (i + 1) c.args.parts.now c.args.frames.now.ranges
    c.from_residual-in_err-push.ensures.1 asked.calm asked.blocks
