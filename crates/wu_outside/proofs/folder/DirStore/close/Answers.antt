use Rattle.std.proofs.Common.{rules, ◌==◌, not}
use Rattle.std.proofs.lemmas.Fn.{filter_same}
use Rattle.wu_outside.proofs.folder.DirStore.close.Goals as goal

pub returns-clause-closed : goal.returns-clause-closed
returns-clause-closed g c = filter_same _ (λ one. not (one.blob == c.args.blob)) _ (λ x b f k. search rules) _ _ c.retain.ensures.filtered
