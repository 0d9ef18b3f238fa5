use Rattle.std.proofs.Common.{◌≡◌, false, IfOk, IfErr, subst}
use Rattle.wu_script.specs.Holding.{Held, EndsEarly}
use Rattle.wu_script.specs.Items.{first_of, TakesItem}
use Rattle.wu_script.proofs.UnclosedLemmas.{early_before_item}
use Rattle.wu_script.proofs.ItemListLemmas.{next_ok}
use Rattle.wu_script.proofs.reader.Reader.next.Goals as goal

pub returns-clause-first : goal.returns-clause-first
returns-clause-first g c =
    let left = g.I.Source.left in
    let last_read = g.I.Source.last_read c.take_item.new.source in
    next_ok (left c.args.source.now) (left c.take_item.new.source) last_read c.args.self.now c.take_item.new.input c.take_item.result
    (subst (λ (h : Held). IfOk c.take_item.result
    (TakesItem (left c.args.source.now)
    (left c.take_item.new.source) last_read h c.take_item.new.input)) c.self.view_is c.take_item.ensures.taken)

pub returns-clause-early : goal.returns-clause-early
returns-clause-early g c =
    let left = g.I.Source.left in
    let last_read = g.I.Source.last_read c.take_item.new.source in
    early_before_item (left c.args.source.now) (left c.take_item.new.source) last_read c.args.self.now c.take_item.result
    (subst (λ (h : Held). IfErr c.take_item.result
    (EndsEarly (λ bytes. (first_of bytes).closed ≡ false) (left c.args.source.now)
    (left c.take_item.new.source) last_read h)) c.self.view_is c.take_item.ensures.early)
