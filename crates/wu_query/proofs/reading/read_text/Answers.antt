use Rattle.std.proofs.Common.{◌≡◌, ◌<◌, arith, rules}
use Rattle.wu_query.proofs.PassedCauses.{err_from}
use Rattle.wu_query.proofs.ReadTexts.{empty_exact, empty_long, has_bytes, tokens_cause}
use Rattle.wu_query.proofs.reading.read_text.Goals as goal

pub returns-then-file-eq0-clause-tokens : goal.returns-then-file-eq0-clause-tokens
returns-then-file-eq0-clause-tokens g c = rw c.new.ensures.items (empty_long c.args.file.now c.requires (search rules))

pub returns-then-file-eq0-clause-exact : goal.returns-then-file-eq0-clause-exact
returns-then-file-eq0-clause-exact g c = λ some. rw c.new.ensures.items (empty_exact c.args.file.now c.requires (search rules) some)

pub returns-then-file-eq0-clause-sound : goal.returns-then-file-eq0-clause-sound
returns-then-file-eq0-clause-sound g c = λ some. let none : c.args.file.now.blob ≡ 0 = search rules in absurd (omega (arith, none, some))

pub read_blob-requires-clause-bytes : goal.read_blob-requires-clause-bytes
read_blob-requires-clause-bytes g c =
    let some : 0 < c.args.file.now.blob = search rules in has_bytes c.args.file.now c.requires some

pub returns-in_err-check_tokens-clause-cause : goal.returns-in_err-check_tokens-clause-cause
returns-in_err-check_tokens-clause-cause g c =
    let some : 0 < c.args.file.now.blob = search rules in
    err_from _ c.from_residual-in_err-check_tokens.result c.in_err-check_tokens.field-0.0 c.from_residual-in_err-check_tokens.ensures.1
    (tokens_cause (g.D.Store.holds c.args.store.now) c.args.file.now c.in_ok-text.text.items (g.D.Store.faults c.args.store.now)
    (g.D.Store.faults c.read_blob.new.store) c.in_err-check_tokens.field-0.0 some
    (has_bytes c.args.file.now c.requires some) c.in_ok-text.ensures.text
    (rw c.deref.ensures.value at c.in_err-check_tokens.ensures.damaged) c.in_ok-text.ensures.store.calm
    c.in_ok-text.ensures.reads)
