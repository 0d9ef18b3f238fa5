use Rattle.std.proofs.Common.{◌<◌, length, rules, subst, sym}
use Rattle.std.specs.List.Sorted.{IsStrictlyIncreasing}
use Rattle.wu_base.specs.declared.addresses.TermList.{TermList}
use Rattle.wu_query.specs.Units.{list_in}
use Rattle.wu_query.proofs.AskedTerms.{list_in_ascends}
use Rattle.wu_query.proofs.AnswerLemmas.{mapped_more}
use Rattle.wu_query.proofs.FetchedLists.{ascending_next}
use Rattle.wu_query.proofs.ranking.lists_for.Goals as goal

pub loop-word-preserved : goal.loop-word-preserved
loop-word-preserved c =
    let words = c.args.words.now in
    let lists = c.args.lists.now in
    let i = c.loop-word.word-index in
    let within : i < length words = search rules in
    record {
      lists =
          mapped_more (list_in lists) words c.loop-word.found.items c.push.new.self.items i c.word-item.result
          c.in_ok-list_for.field-0 within c.word-item.is c.loop-word.invariant.lists c.in_ok-push.ensures.items
          c.in_ok-list_for.ensures;
      ascending =
          ascending_next c.loop-word.found.items c.push.new.self.items c.in_ok-list_for.field-0 c.loop-word.invariant.ascending
          c.in_ok-push.ensures.items
          (subst (λ (list : TermList). IsStrictlyIncreasing list.at) (sym c.in_ok-list_for.ensures)
          (list_in_ascends lists c.word-item.result c.requires));
    }
