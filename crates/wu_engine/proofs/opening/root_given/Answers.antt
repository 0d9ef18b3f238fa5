use Rattle.std.proofs.Common.{◌≡◌, length, refl, rules}
use Rattle.std.proofs.lemmas.Result.{IfErr-weaker}
use Rattle.wu_engine.proofs.OpenedRoots.{opened_given, opened_room, spent_fault}
use Rattle.wu_engine.proofs.opening.root_given.Goals as goal

pub returns-in-Some-clause-root : goal.returns-in-Some-clause-root
returns-in-Some-clause-root c =
    let whole : c.args.count ≡ length c.args.bytes.now = search rules in
    opened_given c.args.count c.args.bytes.now c.in-Some.root c.with_room.result
    (record { whole = whole; spelled = c.in-Some.ensures.found }) c.with_room.ensures.same

pub returns-in-Some-clause-room : goal.returns-in-Some-clause-room
returns-in-Some-clause-room c =
    opened_room c.in-Some.root c.args.bytes.now c.with_room.result c.in-Some.ensures.found c.with_room.ensures.same
    c.with_room.ensures.unspent

pub returns-in-Some-clause-fault : goal.returns-in-Some-clause-fault
returns-in-Some-clause-fault c =
    let whole : c.args.count ≡ length c.args.bytes.now = search rules in
    IfErr-weaker c.with_room.result _ _
    (spent_fault c.args.count c.args.bytes.now c.in-Some.root (record { whole = whole; spelled = c.in-Some.ensures.found }))
    c.with_room.ensures.spent

pub returns-in-None-clause-fault : goal.returns-in-None-clause-fault
returns-in-None-clause-fault c = (refl, λ root given. c.in-None.ensures.none root given.spelled)
