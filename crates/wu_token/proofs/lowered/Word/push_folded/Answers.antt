use Rattle.std.proofs.Common.{◌≡◌, ◌≤◌, ◌++◌, length, take, chars, encode_utf8, refl, sym, ap, ◌∙◌, arith}
use Rattle.std.proofs.lemmas.List.{length-take}
use Rattle.unicode_normalization.proofs.IterLemmas.{Spells-chars}
use Rattle.caseless.specs.Caseless.{default_case_fold}
use Rattle.wu_base.specs.declared.limits.TheConstants.{WORD_MAX}
use Rattle.wu_token.specs.Words.{folded_text}
use Rattle.wu_token.proofs.WordLemmas.{pushed_letter, pushed_all, pushed_full, pushed_some}
use Rattle.wu_token.proofs.lowered.Word.push_folded.Goals as goal

pub loop-self-init : goal.loop-self-init
unfolding folded_text
loop-self-init c = (default_case_fold (chars c.args.text.now), c.default_case_fold-letters.ensures.text _ (Spells-chars _ _ c.utf8.text c.chars.ensures.rest), refl)

pub loop-self-preserved : goal.loop-self-preserved
loop-self-preserved c =
    let now = c.loop-self.invariant in
    let next = c.in-Some.ensures.steps.first.at now.0 now.1 in
    let bytes : c.as_bytes.result.now ≡ encode_utf8 c.in-Some.letter = c.as_bytes.ensures.value ∙ c.encode_utf8.ensures.value in (
      next.0,
      next.2,
      pushed_letter c.loop-self.self c.push.new.self _ next.0 now.0 c.in-Some.letter next.1
          (c.push.ensures ∙ ap (λ b. take WORD_MAX (c.loop-self.self ++ b)) bytes) now.2,
    )

pub loop-self-smaller : goal.loop-self-smaller
loop-self-smaller c =
    let len = ap length (sym c.self.view_is) ∙ length-take c.self.inside.len c.self.inside.room in
    let test = c.loop-self-test.true in
    let room = c.self.told in
    let some : 1 ≤ length c.as_bytes.result.now = omega (arith, c.as_bytes.ensures.len, c.encode_utf8.ensures.lower_bound) in
    pushed_some c.loop-self.self c.as_bytes.result.now c.push.new.self c.push.ensures (omega arith) some

pub returns-in_default : goal.returns-in_default
returns-in_default c =
    let now = c.loop-self.invariant in
    let none = c.in_default.ensures.steps.first.at now.0 now.1 in
    let len = ap length (sym c.self.view_is) ∙ length-take c.self.inside.len c.self.inside.room in
    let room = c.self.told in
    let within = c.self.invariant in
    pushed_all c.loop-self.self now.0 _ (omega arith) none now.2

pub returns : goal.returns
returns c =
    let now = c.loop-self.invariant in
    let len = ap length (sym c.self.view_is) ∙ length-take c.self.inside.len c.self.inside.room in
    let room = c.self.told in
    let test = c.loop-self-test.false in
    pushed_full c.loop-self.self now.0 _ (omega arith) now.2
