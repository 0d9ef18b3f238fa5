use Rattle.std.proofs.Common.{arith}
use Rattle.wu_engine.proofs.ReindexedTexts.{end_gained, first_only, text_gained}
use Rattle.wu_engine.proofs.reindexing.index_text.Goals as goal

pub add_text-requires-clause-bounded : goal.add_text-requires-clause-bounded
add_text-requires-clause-bounded g c =
    rw c.deref.ensures.value (omega (arith, c.in_ok-text.ensures.exact c.requires.file.some, c.requires.file.within))

pub returns-clause-memory : goal.returns-clause-memory
returns-clause-memory g c =
    text_gained (g.D.Store.holds c.args.store.now) c.args.file.now c.in_ok-text.text.items _ _ c.in_ok-text.ensures.text
    (c.in_ok-text.ensures.exact c.requires.file.some) (rw c.deref.ensures.value at c.in_ok-add_text.ensures.terms.memory)

pub returns-clause-end : goal.returns-clause-end
returns-clause-end g c =
    end_gained c.args.file.now.range.start _ c.args.file.now.range.len _ _ (c.in_ok-text.ensures.exact c.requires.file.some)
    (omega (arith, c.requires.file.some)) (rw c.deref.ensures.value at c.in_ok-add_text.ensures.terms.memory)

pub returns-clause-only : goal.returns-clause-only
returns-clause-only g c =
    first_only c.args.file.now.blob c.args.file.now.len (g.D.Store.reads c.args.store.now) (g.D.Store.reads c.read_text.new.store)
    c.read_text.ensures.only

pub returns-in_err-text-clause-only : goal.returns-in_err-text-clause-only
returns-in_err-text-clause-only g c =
    first_only c.args.file.now.blob c.args.file.now.len (g.D.Store.reads c.args.store.now) (g.D.Store.reads c.read_text.new.store)
    c.read_text.ensures.only

pub returns-in_err-add_text-clause-only : goal.returns-in_err-add_text-clause-only
returns-in_err-add_text-clause-only g c =
    first_only c.args.file.now.blob c.args.file.now.len (g.D.Store.reads c.args.store.now) (g.D.Store.reads c.read_text.new.store)
    c.read_text.ensures.only
