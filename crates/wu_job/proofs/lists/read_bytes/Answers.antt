use Rattle.std.proofs.Common.{◌≡◌, [], ◌∷◌, rules}
use Rattle.wu_job.specs.Steps.{adds, block_range}
use Rattle.wu_job.proofs.Fronts.{front_of_one}
use Rattle.wu_job.proofs.lists.read_bytes.Goals as goal

pub returns-in_default-clause-front : goal.returns-in_default-clause-front
returns-in_default-clause-front g c =
    let reads = g.D.Store.reads in
    let read : reads c.read.new.self ≡ adds (block_range c.args.blob c.args.block.now ∷ []) (reads c.args.store.now) = search rules in
    front_of_one (block_range c.args.blob c.args.block.now) (reads c.args.store.now) (reads c.read.new.self) read
