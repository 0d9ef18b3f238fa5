use Rattle.std.proofs.Common.{List, ◌∷◌, [], ◌++◌, ◌-◌, cond, eqb, length, take, ap, ◌∙◌, subst, sym}
use Rattle.wu_rank.specs.declared.results.Ranked.{Ranked}
use Rattle.wu_rank.specs.Choices.{IsChoice, ranked_or_none}
use Rattle.wu_rank.specs.Entries.{ranked_at}
use Rattle.wu_rank.specs.Order.{in_order}
use Rattle.wu_rank.proofs.FirstUnits.{passed_over, kept_too, only_first_kept}
use Rattle.wu_rank.proofs.choosing.with_entry.Goals as goal

pub returns-then-entry-least : goal.returns-then-entry-least
returns-then-entry-least c = λ seen choice.
    passed_over c.args.count seen c.args.choice.ranked.items c.args.choice.least (ranked_at c.args.units.now c.args.entry) choice
    c.if-entry-least.true

pub returns-then-len-room_for : goal.returns-then-len-room_for
returns-then-len-room_for c = λ seen choice.
    subst
    (λ (us : List Ranked). IsChoice c.args.count (seen ++ ranked_at c.args.units.now c.args.entry ∷ []) us c.args.choice.least)
    (sym c.in_ok-push.ensures.items)
    (kept_too c.args.count seen c.args.choice.ranked.items c.args.choice.least (ranked_at c.args.units.now c.args.entry) choice
    c.if-entry-least.false)

pub returns : goal.returns
returns c = λ seen choice.
    let unit : Ranked = ranked_at c.args.units.now c.args.entry in
    only_first_kept c.args.count (seen ++ unit ∷ []) (c.args.choice.ranked.items ++ unit ∷ []) c.in_ok-ranked.ranked.items
    c.args.choice.least c.score_to_reach-least.result
    (kept_too c.args.count seen c.args.choice.ranked.items c.args.choice.least unit choice c.if-entry-least.false)
    (c.in_ok-ranked.ensures ∙ ap (λ (us : List Ranked). take c.args.count (in_order us)) c.in_ok-push.ensures.items)
    (c.score_to_reach-least.ensures
    ∙ ap (λ (us : List Ranked). cond (eqb (length us) c.args.count) (ranked_or_none us (c.args.count - 1)).score 0) c.deref.ensures.value)
