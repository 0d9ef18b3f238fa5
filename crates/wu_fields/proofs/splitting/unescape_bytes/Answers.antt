use Rattle.std.proofs.Common.{◌+◌, ◌∷◌, drop, true, false, Some, sym, ◌∙◌, arith, ap}
use Rattle.wu_fields.specs.Fields.{unescaped}
use Rattle.std.proofs.lemmas.List.{at_drop_all}
use Rattle.wu_fields.proofs.FieldLemmas.{onto, onto-step, onto-end, onto_nil, onto_absent, onto_none, unescaped-letter, unescaped-fault}
use Rattle.wu_fields.proofs.FieldLemmas.{unescaped-backslash, unescaped-plain}
use Rattle.wu_fields.proofs.splitting.unescape_bytes.Goals as goal
use Rattle.wu_fields.proofs.splitting.unescape_bytes.Goals.{then-after_backslash+in-Some+in_ok-push-in-Some}
use Rattle.wu_fields.proofs.splitting.unescape_bytes.Goals.{else-after_backslash+then-byte-eq92}
use Rattle.wu_fields.proofs.splitting.unescape_bytes.Goals.{else-after_backslash+else-byte-eq92+in_ok-push}

pub loop-byte-init : goal.loop-byte-init
loop-byte-init c = rw c.in_ok-field.ensures.items (sym (onto_none _))

pub returns-in-None : goal.returns-in-None
returns-in-None c =
    let read = c.loop-byte.field.items in
    let fault = unescaped-fault read c.args.written.now c.loop-byte.byte-index c.loop-byte-test.true (sym c.in-None.ensures) in
    sym (onto-end _ _ read _ true _ c.loop-byte.invariant c.if-after_backslash.true fault)

pub loop-byte-preserved : goal.loop-byte-preserved
loop-byte-preserved c =
    let written = c.args.written.now in
    let i = c.loop-byte.byte-index in
    let read = c.loop-byte.field.items in
    let rest = drop (i + 1) written in
    elim c.if-after_backslash.branch [
      | then-after_backslash+in-Some+in_ok-push-in-Some w ↦
          let step = unescaped-letter read written i w.in-Some.meant c.loop-byte-test.true (sym w.in-Some.ensures) in
          onto-step _ read _ _ _ true _ false (drop i written) rest c.loop-byte.invariant step w.if-after_backslash.true
          (ap (λ v. v.items) w.field-is ∙ w.in_ok-push-in-Some.ensures.items)
          w.after_backslash-is
      | else-after_backslash+then-byte-eq92 w ↦
          let step = unescaped-backslash read written i c.loop-byte-test.true w.if-byte-eq92.true in
          onto-step _ read _ _ _ false _ true (drop i written) rest c.loop-byte.invariant step w.if-after_backslash.false (ap (λ v. v.items) w.field-is) w.after_backslash-is
      | else-after_backslash+else-byte-eq92+in_ok-push w ↦
          let step = unescaped-plain read written i c.loop-byte-test.true w.if-byte-eq92.false in
          onto-step _ read _ _ _ false _ false (drop i written) rest c.loop-byte.invariant step w.if-after_backslash.false
          (ap (λ v. v.items) w.field-is ∙ w.in_ok-push.ensures.items)
          (w.after_backslash-is ∙ w.if-after_backslash.false)
    ]

pub returns-then-after_backslash-2 : goal.returns-then-after_backslash-2
returns-then-after_backslash-2 c =
    let read = c.loop-byte.field.items in
    let over = at_drop_all (λ w. onto read (unescaped (92 ∷ w))) c.args.written.now c.loop-byte.byte-index (omega arith) in
    sym (onto-end _ _ read _ true _ c.loop-byte.invariant c.if-after_backslash-2.true (over ∙ onto_absent read))

pub returns : goal.returns
returns c =
    let read = c.loop-byte.field.items in
    let over = at_drop_all (λ w. onto read (unescaped w)) c.args.written.now c.loop-byte.byte-index (omega arith) in
    ap Some c.from.ensures ∙ sym (onto-end _ _ read _ false _ c.loop-byte.invariant c.if-after_backslash-2.false (over ∙ onto_nil read))
