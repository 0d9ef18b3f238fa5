use Rattle.std.proofs.Common.{sym, arith}
use Rattle.wu_export.proofs.CutPaths.{cut_nowhere, cut_at, name_at}
use Rattle.wu_export.proofs.paths.cut.Goals as goal

pub returns-in-Some-clause-parent : goal.returns-in-Some-clause-parent
returns-in-Some-clause-parent c =
    let is = c.in-Some.ensures in
    sym (cut_at c.args.path.now c.in-Some.place is.0.high is.1 (λ j low high e. is.0.after j (omega arith) high e)).0

pub returns-in-Some-clause-name : goal.returns-in-Some-clause-name
returns-in-Some-clause-name c =
    let is = c.in-Some.ensures in
    name_at c.args.path.now c.in-Some.place
    (cut_at c.args.path.now c.in-Some.place is.0.high is.1 (λ j low high e. is.0.after j (omega arith) high e)).1

pub returns-in-None-clause-parent : goal.returns-in-None-clause-parent
returns-in-None-clause-parent c = sym (cut_nowhere c.args.path.now (λ k within e. c.in-None.ensures k (omega arith) within e)).0

pub returns-in-None-clause-name : goal.returns-in-None-clause-name
returns-in-None-clause-name c = sym (cut_nowhere c.args.path.now (λ k within e. c.in-None.ensures k (omega arith) within e)).1
