use Rattle.std.proofs.Common.{Bool, subst, arith}
use Rattle.std.specs.Prelude.{MatchBool}
use Rattle.wu_image.specs.Checks.{AreApart, RangesLieInParts}
use Rattle.wu_image.proofs.RuleLemmas.{decided, homes_of_layout, layout_of_checks, parts_of_layout, rules_of_parts, texts_end, texts_filled}
use Rattle.wu_image.proofs.rules.keep_rules.Goals as goal

pub returns-then-not-are_parts : goal.returns-then-not-are_parts
returns-then-not-are_parts c = λ rules. c.if-not-are_parts.ensures (parts_of_layout _ _ _ _ _ rules) rules.few

pub returns-then-not-are_texts : goal.returns-then-not-are_texts
returns-then-not-are_texts c = λ rules. c.if-not-are_texts.ensures rules.texts

pub are_apart-requires : goal.are_apart-requires
are_apart-requires c = texts_end c.args.next_address _ (omega arith) c.if-not-are_texts.ensures

pub have_homes-requires-clause-filled : goal.have_homes-requires-clause-filled
have_homes-requires-clause-filled c = texts_filled _ _ c.if-not-are_texts.ensures

pub have_homes-requires-clause-spans : goal.have_homes-requires-clause-spans
have_homes-requires-clause-spans c =
    (c.args.next_address, (rules_of_parts _ _ _ _ _ (omega arith) c.if-not-are_parts.ensures.0).spans)

pub returns-then-not-apart : goal.returns-then-not-apart
returns-then-not-apart c = λ rules.
    let no = subst (λ (b : Bool). MatchBool b (AreApart c.args.files.now) (AreApart c.args.files.now → ⊥)) c.if-not-apart.true
    c.in_ok-apart.ensures in
    no rules.apart

pub returns-then-not-homes : goal.returns-then-not-homes
returns-then-not-homes c = λ rules.
    let no = subst
    (λ (b : Bool). MatchBool b (RangesLieInParts c.args.files.now c.args.parts.now) (RangesLieInParts c.args.files.now c.args.parts.now → ⊥))
    c.if-not-homes.true c.in_ok-homes.ensures in
    no (homes_of_layout _ _ _ _ _ rules)

pub returns : goal.returns
returns c =
    let apart = subst (λ (b : Bool). MatchBool b (AreApart c.args.files.now) (AreApart c.args.files.now → ⊥)) c.if-not-apart.false
    c.in_ok-apart.ensures in
    let homes = subst
    (λ (b : Bool). MatchBool b (RangesLieInParts c.args.files.now c.args.parts.now) (RangesLieInParts c.args.files.now c.args.parts.now → ⊥))
    c.if-not-homes.false c.in_ok-homes.ensures in
    decided c.in_ok-blobs.blobs c.in_ok-blobs.ensures
    (λ distinct drawn. layout_of_checks _ _ _ _ _ c.if-not-are_parts.ensures.0 c.if-not-are_parts.ensures.1 c.if-not-are_texts.ensures
    apart homes distinct drawn)
    (λ rules. (rules.distinct, rules.drawn))
