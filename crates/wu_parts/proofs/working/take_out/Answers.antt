use Rattle.std.proofs.Common.{◌≡◌, ℕ, ◌+◌, ◌++◌, ◌∷◌, [], List, map, take, drop, ap, sym, ◌∙◌, arith, append_assoc}
use Rattle.std.proofs.lemmas.List.{map-append}
use Rattle.std.proofs.lemmas.Result.{err_from_is_err_and}
use Rattle.wu_parts.specs.declared.writing.StoredPart.{StoredPart}
use Rattle.wu_parts.proofs.NextJobs.{one_out, which_out}
use Rattle.wu_parts.proofs.working.take_out.Goals as goal

pub loop-preserved : goal.loop-preserved
loop-preserved c =
    let place : ℕ = c.args.place in
    let out : ℕ = c.loop.counter in
    let old : List StoredPart = c.args.parts.now.items in
    let stale : List ℕ = c.args.stale.now.items in
    let blob = λ (part : StoredPart). part.recorded.blob in
    let taken : List StoredPart = take out (drop place old) in
    let more : take (out + 1) (drop place old) ≡ taken ++ c.remove-part.result ∷ [] =
    which_out place out old c.loop.parts.items c.remove-part.result
    (omega (arith, c.requires, c.loop-test.true, c.args.parts.now.ok.0)) c.loop.invariant.parts c.remove-part.ensures.value in
    record {
      parts =
          one_out place out old c.loop.parts.items c.remove-part.new.self.items (omega (arith, c.requires, c.args.parts.now.ok.0))
          c.loop.invariant.parts c.remove-part.ensures.items;
      stale =
          c.in_ok-push.ensures.items
          ∙ ap (λ (l : List ℕ). l ++ c.remove-part.result.recorded.blob ∷ []) c.loop.invariant.stale
          ∙ append_assoc stale (map blob taken) (c.remove-part.result.recorded.blob ∷ [])
          ∙ ap (λ (l : List ℕ). stale ++ l)
          (sym (map-append blob taken (c.remove-part.result ∷ [])) ∙ ap (map blob) (sym more));
    }

pub returns-in_err-push-clause-some : goal.returns-in_err-push-clause-some
returns-in_err-push-clause-some c =
    let p = err_from_is_err_and c.from_residual.result c.from_residual.ensures.1 in
    rw (p.1, p.2) (
      c.loop.counter + 1,
      one_out c.args.place c.loop.counter c.args.parts.now.items c.loop.parts.items c.remove-part.new.self.items
          (omega (arith, c.requires, c.args.parts.now.ok.0)) c.loop.invariant.parts c.remove-part.ensures.items,
    )

pub returns-in_err-push-clause-noted : goal.returns-in_err-push-clause-noted
returns-in_err-push-clause-noted c =
    let p = err_from_is_err_and c.from_residual.result c.from_residual.ensures.1 in
    rw (p.1, p.2) (
      map (λ (part : StoredPart). part.recorded.blob) (take c.loop.counter (drop c.args.place c.args.parts.now.items)),
      c.in_err-push.ensures.items ∙ c.loop.invariant.stale,
    )
