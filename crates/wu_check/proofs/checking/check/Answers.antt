use Rattle.std.proofs.Common.{◌≡◌, length, rules}
use Rattle.std.proofs.lemmas.Result.{IfOk-weaker}
use Rattle.wu_image.specs.declared.roots.TheConstants.{ROOT_LEN}
use Rattle.wu_check.specs.Reads.{MayBeUnderRoot, ReadsFrontOf}
use Rattle.wu_check.proofs.CheckedRanges.{from_all, from_some, none_there, root_alone, root_found, root_read, root_unread}
use Rattle.wu_check.proofs.ToldContents.{told_before}
use Rattle.wu_check.proofs.checking.check.Goals as goal

pub returns-in_err-root-clause-ranges : goal.returns-in_err-root-clause-ranges
returns-in_err-root-clause-ranges g c =
    root_unread (g.D.Store.holds c.args.store.now) (g.D.Store.reads c.args.store.now) (g.D.Store.reads c.root.new.self)
    c.in_err-root.ensures.noted

pub returns-in-None-clause-ranges : goal.returns-in-None-clause-ranges
returns-in-None-clause-ranges g c =
    let long : length c.root.new.buf ≡ ROOT_LEN = search rules in
    let before = g.D.Store.reads c.args.store.now in
    let after = g.D.Store.reads c.root.new.self in
    root_alone (g.D.Store.holds c.args.store.now) before after
    (root_read (length c.root.new.buf) before after long c.in_ok-root.ensures.noted)

pub returns-in-None-clause-whole : goal.returns-in-None-clause-whole
returns-in-None-clause-whole g c =
    let long : length c.root.new.buf ≡ ROOT_LEN = search rules in
    let before = g.D.Store.reads c.args.store.now in
    let after = g.D.Store.reads c.root.new.self in
    none_there (g.D.Store.holds c.args.store.now) c.in_ok-root.field-0 c.root.new.buf before after c.in-None.is
    (root_read (length c.root.new.buf) before after long c.in_ok-root.ensures.noted) c.in_ok-root.ensures.bytes

pub returns-in-Some-root_given-clause-ranges : goal.returns-in-Some-root_given-clause-ranges
returns-in-Some-root_given-clause-ranges g c =
    let long : length c.root.new.buf ≡ ROOT_LEN = search rules in
    let before = g.D.Store.reads c.args.store.now in
    let after = g.D.Store.reads c.root.new.self in
    let last = g.D.Store.reads c.check_saved.new.store in
    let root = c.in-Some-root_given.root in
    from_some (g.D.Store.holds c.args.store.now) root
    (root_found (g.D.Store.holds c.args.store.now) root c.in_ok-root.field-0 c.in-Some.count c.root.new.buf c.in-Some.is
    (rw c.in-Some-root_given.is at c.root_given.ensures.whole) (rw c.in-Some-root_given.is at c.root_given.ensures.found)
    c.in_ok-root.ensures.bytes)
    before after last (root_read (length c.root.new.buf) before after long c.in_ok-root.ensures.noted)
    (told_before (λ content. ReadsFrontOf (MayBeUnderRoot content root) after last) (g.D.Store.holds c.args.store.now)
    (g.D.Store.holds c.root.new.self) c.root.ensures.same c.check_saved.ensures.ranges)

pub returns-in-Some-root_given-clause-whole : goal.returns-in-Some-root_given-clause-whole
returns-in-Some-root_given-clause-whole g c =
    let long : length c.root.new.buf ≡ ROOT_LEN = search rules in
    let before = g.D.Store.reads c.args.store.now in
    let after = g.D.Store.reads c.root.new.self in
    let last = g.D.Store.reads c.check_saved.new.store in
    let root = c.in-Some-root_given.root in
    IfOk-weaker c.check_saved.result _ _
    (λ checked whole. from_all (g.D.Store.holds c.args.store.now) root
    (root_found (g.D.Store.holds c.args.store.now) root c.in_ok-root.field-0 c.in-Some.count c.root.new.buf c.in-Some.is
    (rw c.in-Some-root_given.is at c.root_given.ensures.whole) (rw c.in-Some-root_given.is at c.root_given.ensures.found)
    c.in_ok-root.ensures.bytes)
    before after last (root_read (length c.root.new.buf) before after long c.in_ok-root.ensures.noted) checked
    (rw c.root.ensures.same at whole))
    c.check_saved.ensures.whole

pub returns-in-None-root_given-clause-ranges : goal.returns-in-None-root_given-clause-ranges
returns-in-None-root_given-clause-ranges g c =
    let long : length c.root.new.buf ≡ ROOT_LEN = search rules in
    let before = g.D.Store.reads c.args.store.now in
    let after = g.D.Store.reads c.root.new.self in
    root_alone (g.D.Store.holds c.args.store.now) before after
    (root_read (length c.root.new.buf) before after long c.in_ok-root.ensures.noted)
