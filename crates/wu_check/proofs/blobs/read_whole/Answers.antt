use Rattle.std.proofs.Common.{[], ◌∷◌, inl, inr, refl, rules}
use Rattle.wu_outside.specs.Ranges.{asked_size}
use Rattle.wu_check.specs.Reads.{whole_blob}
use Rattle.wu_check.proofs.ReadRanges.{blob_read, front_all, size_asked}
use Rattle.wu_check.proofs.blobs.read_whole.Goals as goal

pub returns-in_default-clause-ranges : goal.returns-in_default-clause-ranges
returns-in_default-clause-ranges g c =
    let reads = g.D.Store.reads in
    size_asked c.args.blob c.args.size (reads c.args.store.now) (reads c.size.new.self) (reads c.size.new.self)
    c.in_ok-found.ensures.noted refl

pub returns-in_err-bytes-clause-ranges : goal.returns-in_err-bytes-clause-ranges
returns-in_err-bytes-clause-ranges g c =
    let reads = g.D.Store.reads in
    size_asked c.args.blob c.args.size (reads c.args.store.now) (reads c.size.new.self) (reads c.size.new.self)
    c.in_ok-found.ensures.noted refl

pub returns-in_err-count-clause-ranges : goal.returns-in_err-count-clause-ranges
returns-in_err-count-clause-ranges g c =
    let reads = g.D.Store.reads in
    size_asked c.args.blob c.args.size (reads c.args.store.now) (reads c.size.new.self) (reads c.read.new.self)
    c.in_ok-found.ensures.noted c.in_err-count.ensures.noted

pub returns-in-Some-2-clause-ranges : goal.returns-in-Some-2-clause-ranges
returns-in-Some-2-clause-ranges g c =
    let reads = g.D.Store.reads in
    front_all (whole_blob c.args.blob c.args.size) (reads c.args.store.now) (reads c.read.new.self)
    (blob_read c.args.blob c.args.size _ (reads c.args.store.now) (reads c.size.new.self) (reads c.read.new.self)
    c.in_ok-found.ensures.noted c.in_ok-count.ensures.noted (search rules))

pub returns-in-Some-2-clause-tried : goal.returns-in-Some-2-clause-tried
returns-in-Some-2-clause-tried g c =
    let reads = g.D.Store.reads in (
      whole_blob c.args.blob c.args.size,
      inl refl,
      blob_read c.args.blob c.args.size _ (reads c.args.store.now) (reads c.size.new.self) (reads c.read.new.self)
          c.in_ok-found.ensures.noted c.in_ok-count.ensures.noted (search rules),
    )

pub returns-in_default-2-clause-ranges : goal.returns-in_default-2-clause-ranges
returns-in_default-2-clause-ranges g c =
    let reads = g.D.Store.reads in
    front_all (whole_blob c.args.blob c.args.size) (reads c.args.store.now) (reads c.read.new.self)
    (blob_read c.args.blob c.args.size _ (reads c.args.store.now) (reads c.size.new.self) (reads c.read.new.self)
    c.in_ok-found.ensures.noted c.in_ok-count.ensures.noted (search rules))

pub returns-in_default-2-clause-tried : goal.returns-in_default-2-clause-tried
returns-in_default-2-clause-tried g c =
    let reads = g.D.Store.reads in (
      whole_blob c.args.blob c.args.size,
      inl refl,
      blob_read c.args.blob c.args.size _ (reads c.args.store.now) (reads c.size.new.self) (reads c.read.new.self)
          c.in_ok-found.ensures.noted c.in_ok-count.ensures.noted (search rules),
    )

pub returns-in_default-clause-tried : goal.returns-in_default-clause-tried
returns-in_default-clause-tried g c = (asked_size c.args.blob ∷ [], inr refl, c.in_ok-found.ensures.noted)
