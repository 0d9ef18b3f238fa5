use Rattle.std.proofs.Common.{◌≡◌, ℕ, [], ◌∷◌, refl, ap, sym, ◌∙◌, arith}
use Rattle.lru.specs.LruCache.{LruCache}
use Rattle.wu_frames.specs.declared.Frames.{Frames}
use Rattle.wu_frames.specs.Changes.{is_spared}
use Rattle.wu_frames.proofs.Turns.{forgotten-first, last-is, last-same, next-turn, spared-first, turned-none}
use Rattle.wu_frames.proofs.walks.forget_changed.Goals.{then-is_spared, else-is_spared}
use Rattle.wu_frames.proofs.walks.forget_changed.Goals as goal

pub loop-init : goal.loop-init
loop-init c = record { turned = turned-none _ c.args.kept.now.entries refl; cap = refl }

pub loop-preserved : goal.loop-preserved
loop-preserved c =
    let now = c.loop.kept.entries in
    let turn =
    next-turn _ c.args.kept.now.entries now c.loop.counter c.loop.invariant.turned
    (omega (arith, c.loop-test.true, c.len-end.ensures.len)) in
    let last = last-same now turn.rest turn.entry c.in-Some.uid.now c.in-Some.field-0-1.now turn.now_is c.in-Some.ensures in
    let same : c.is_spared.result ≡ is_spared c.args.tree.now c.args.change.now turn.entry.0 =
    c.is_spared.ensures ∙ ap (λ (x : ℕ × Frames). is_spared c.args.tree.now c.args.change.now x.0) last in
    elim c.if-is_spared.branch [
      | then-is_spared w ↦ record {
        turned =
            turn.turned (turn.entry ∷ []) c.if-is_spared.kept.entries
            (ap (λ (k : LruCache ℕ Frames). k.entries) w.kept-is
            ∙ w.last_to_front.ensures.entries turn.rest turn.entry turn.now_is)
            (λ gone done b.
            spared-first (is_spared c.args.tree.now c.args.change.now) turn.entry gone done (sym same ∙ w.if-is_spared.true) b);
        cap = ap (λ (k : LruCache ℕ Frames). k.cap) w.kept-is ∙ w.last_to_front.ensures.cap ∙ c.loop.invariant.cap;
      }
      | else-is_spared w ↦ record {
        turned =
            turn.turned [] c.if-is_spared.kept.entries
            (ap (λ (k : LruCache ℕ Frames). k.entries) (w.kept-is ∙ w.pop_lru.ensures.entries)
            ∙ (last-is now turn.rest turn.entry turn.now_is).1)
            (λ gone done b.
            forgotten-first (is_spared c.args.tree.now c.args.change.now) turn.entry gone done (sym same ∙ w.if-is_spared.false) b);
        cap = ap (λ (k : LruCache ℕ Frames). k.cap) (w.kept-is ∙ w.pop_lru.ensures.entries) ∙ c.loop.invariant.cap;
      }
    ]

pub returns-in_default-clause-entries : goal.returns-in_default-clause-entries
returns-in_default-clause-entries c =
    let now = c.loop.kept.entries in
    let turn =
    next-turn _ c.args.kept.now.entries now c.loop.counter c.loop.invariant.turned
    (omega (arith, c.loop-test.true, c.len-end.ensures.len)) in
    let is = (last-is now turn.rest turn.entry turn.now_is).0 in
    let none = c.in_default.ensures in
    cc
