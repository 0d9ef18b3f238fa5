use Rattle.std.proofs.Common.{◌≡◌, ◌++◌, ◌∷◌, [], ◌∙◌, List, map, sym, ap, rules, arith, append_assoc}
use Rattle.std.specs.List.{range_with_len}
use Rattle.std.proofs.lemmas.List.{map-append}
use Rattle.std.proofs.lemmas.List.FromFn.{map-range_with_len_more}
use Rattle.wu_base.specs.declared.addresses.Extent.{Extent}
use Rattle.wu_solve.specs.Operands.{run_from}
use Rattle.wu_solve.specs.Solving.{moved}
use Rattle.wu_solve.proofs.operands.put_runs.Goals as goal

pub loop-i-preserved : goal.loop-i-preserved
loop-i-preserved c =
    let i = c.loop-i.i in
    let put = moved c.args.start in
    let runs = map (run_from c.args.after) (range_with_len 0 i) in
    let pushed : c.push.new.self.items ≡ c.loop-i.found.items ++ put (run_from c.args.after i) ∷ [] = search rules in
    pushed ∙ rw c.loop-i.invariant
    (append_assoc c.args.found.now.items (map put runs) (put (run_from c.args.after i) ∷ [])
    ∙ ap (λ (xs : List Extent). c.args.found.now.items ++ xs)
    (sym (ap (map put) (map-range_with_len_more (run_from c.args.after) 0 i i (omega arith))
    ∙ map-append put runs (run_from c.args.after i ∷ []))))
