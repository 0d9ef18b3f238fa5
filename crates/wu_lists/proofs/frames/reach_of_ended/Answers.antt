use Rattle.std.proofs.Common.{◌-◌, ◌^◌, ◌≡◌, false, ◌∙◌, sym, arith, rules}
use Rattle.std.proofs.lemmas.Bool.{leb-false}
use Rattle.wu_base.specs.declared.addresses.Range.{Range}
use Rattle.wu_lists.proofs.Ascending.{ends_from_place}
use Rattle.wu_lists.proofs.frames.reach_of_ended.Goals as goal

pub returns-then-not-has_ended-clause-others : goal.returns-then-not-has_ended-clause-others
returns-then-not-has_ended-clause-others c =
    let d : Range = record { start = 0; len = 0 } in
    let not_ended : c.has_ended.result ≡ false = search rules in
    ends_from_place c.args.address 0 (2 ^ 64 - 1) c.loop-end.end c.args.frames.now d c.requires (omega arith)
    (leb-false _ _ (sym c.has_ended.ensures ∙ not_ended))
