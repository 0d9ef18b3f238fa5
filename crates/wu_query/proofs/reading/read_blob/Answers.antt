use Rattle.std.proofs.Common.{◌∙◌, [], ◌∷◌, inr, refl, rules}
use Rattle.wu_outside.specs.Ranges.{asked_size}
use Rattle.wu_query.proofs.PassedCauses.{err_from}
use Rattle.wu_query.proofs.PermittedTexts.{all_read}
use Rattle.wu_query.proofs.ReadTexts.{IsReadThen, count_cause, count_right, read_asked, size_cause}
use Rattle.wu_query.specs.Reads.{text_ranges}
use Rattle.wu_query.proofs.reading.read_blob.Goals as goal

pub returns-in_err-check_count-clause-only : goal.returns-in_err-check_count-clause-only
returns-in_err-check_count-clause-only g c =
    let file = c.args.file.now in
    let is_read : IsReadThen file [] (g.D.Store.reads c.args.store.now) (g.D.Store.reads c.read.new.self) = search rules in
    (record { blob = file.blob; at = 0; len = file.len } ∷ [], (asked_size file.blob ∷ [], refl), is_read)

pub returns-in_err-size-clause-only : goal.returns-in_err-size-clause-only
returns-in_err-size-clause-only g c =
    let file = c.args.file.now in
    let is_read : IsReadThen file [] (g.D.Store.reads c.args.store.now) (g.D.Store.reads c.size.new.self) = search rules in
    (record { blob = file.blob; at = 0; len = file.len } ∷ [], (asked_size file.blob ∷ [], refl), is_read)

pub returns-in_err-size-clause-memory : goal.returns-in_err-size-clause-memory
returns-in_err-size-clause-memory g c = λ _.
    let file = c.args.file.now in
    let is_read : IsReadThen file [] (g.D.Store.reads c.args.store.now) (g.D.Store.reads c.size.new.self) = search rules in
    inr (
      is_read,
      count_right (g.D.Store.holds c.args.store.now) file c.in_ok-count.count c.read.new.buf c.in_ok-count.ensures.bytes
          c.in_ok-check_count.ensures.count,
    )

pub returns-in_err-check_size-clause-only : goal.returns-in_err-check_size-clause-only
returns-in_err-check_size-clause-only g c =
    let file = c.args.file.now in
    let is_read : IsReadThen file [] (g.D.Store.reads c.args.store.now) (g.D.Store.reads c.read.new.self) = search rules in
    all_read (text_ranges file.blob file.len) (g.D.Store.reads c.args.store.now) (g.D.Store.reads c.size.new.self)
    (read_asked file (g.D.Store.reads c.args.store.now) (g.D.Store.reads c.read.new.self) (g.D.Store.reads c.size.new.self) is_read
    c.in_ok-size.ensures.noted)

pub returns-clause-only : goal.returns-clause-only
returns-clause-only g c =
    let file = c.args.file.now in
    let is_read : IsReadThen file [] (g.D.Store.reads c.args.store.now) (g.D.Store.reads c.read.new.self) = search rules in
    all_read (text_ranges file.blob file.len) (g.D.Store.reads c.args.store.now) (g.D.Store.reads c.size.new.self)
    (read_asked file (g.D.Store.reads c.args.store.now) (g.D.Store.reads c.read.new.self) (g.D.Store.reads c.size.new.self) is_read
    c.in_ok-size.ensures.noted)

pub returns-clause-reads : goal.returns-clause-reads
returns-clause-reads g c =
    let file = c.args.file.now in
    let is_read : IsReadThen file [] (g.D.Store.reads c.args.store.now) (g.D.Store.reads c.read.new.self) = search rules in
    read_asked file (g.D.Store.reads c.args.store.now) (g.D.Store.reads c.read.new.self) (g.D.Store.reads c.size.new.self) is_read
    c.in_ok-size.ensures.noted

pub returns-in_err-check_count-clause-cause : goal.returns-in_err-check_count-clause-cause
returns-in_err-check_count-clause-cause g c =
    err_from _ c.from_residual-in_err-check_count.result c.in_err-check_count.field-0.0 c.from_residual-in_err-check_count.ensures.1
    (count_cause (g.D.Store.holds c.args.store.now) c.args.file.now c.in_ok-count.count c.read.new.buf (g.D.Store.faults c.args.store.now)
    (g.D.Store.faults c.read.new.self) c.in_err-check_count.field-0.0 c.requires.stored c.requires.bytes c.in_ok-count.ensures.bytes (search rules)
    c.in_err-check_count.ensures.damaged.0 c.in_err-check_count.ensures.damaged.1 c.in_ok-count.ensures.cause.calm (search rules))

pub returns-in_err-check_size-clause-cause : goal.returns-in_err-check_size-clause-cause
returns-in_err-check_size-clause-cause g c =
    let file = c.args.file.now in
    let is_read : IsReadThen file [] (g.D.Store.reads c.args.store.now) (g.D.Store.reads c.read.new.self) = search rules in
    err_from _ c.from_residual-in_err-check_size.result c.in_err-check_size.field-0.0 c.from_residual-in_err-check_size.ensures.1
    (size_cause (g.D.Store.holds c.args.store.now) file c.in_ok-size.size (g.D.Store.faults c.args.store.now)
    (g.D.Store.faults c.size.new.self) c.in_err-check_size.field-0.0 c.requires.stored c.requires.bytes
    (rw c.read.ensures.same at c.in_ok-size.ensures.size) c.in_err-check_size.ensures.damaged (c.in_ok-size.ensures.cause.calm ∙ c.in_ok-count.ensures.cause.calm)
    (read_asked file (g.D.Store.reads c.args.store.now) (g.D.Store.reads c.read.new.self) (g.D.Store.reads c.size.new.self) is_read
    c.in_ok-size.ensures.noted))
