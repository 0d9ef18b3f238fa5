use Rattle.std.proofs.Common.{◌≡◌, ◌∷◌, List, reverse, subst, sym, rules}
use Rattle.std.proofs.lemmas.Grind.{common_steps}
use Rattle.wu_outside.specs.Crash.{LeftNow}
use Rattle.wu_outside.specs.Logs.{moments_of, content_of, crash_log}
use Rattle.wu_outside.specs.declared.logs.Entry.{Entry}
use Rattle.wu_outside.specs.declared.logs.Entry.TheVariants.{HasSynced}
use Rattle.wu_outside.proofs.CrashLogs.{crash_may_leave}
use Rattle.wu_outside.proofs.memory_store.MemStore.crashed.Goals as goal

pub returns-clause-outcome : goal.returns-clause-outcome
returns-clause-outcome c =
    let log = c.args.self.now.log in
    let left : reverse c.push.new.self.items ≡ HasSynced ∷ crash_log c.args.choice log = search (rules, common_steps) in
    let P : List Entry → Type 0 = λ after. LeftNow (moments_of log) (content_of after) in
    subst P (sym left) (crash_may_leave c.args.choice log)
