use Rattle.std.specs.Prelude.{Result, Ok, Err, IfOk}
use Rattle.wu_check.proofs.IndexedParts.{indexed_part, unindexed_part}
use Rattle.wu_check.proofs.indexing.index_part.Goals as goal

if_ok : {X E : Type 0} (r : Result X E) (P Q : X → Type 0) → ((x : X) → P x → Q x) → IfOk r P → IfOk r Q
if_ok (Ok x) P Q f p = f x p
if_ok (Err e) P Q f p = tt

pub returns-in_default-clause-none : goal.returns-in_default-clause-none
returns-in_default-clause-none c =
    let none = rw c.in_default.is at c.in_ok-directory.ensures.none in
    λ directory lists spelled told. none directory spelled.own told

pub returns-clause-found : goal.returns-clause-found
returns-clause-found c =
    let is = rw c.in-Some.is at c.in_ok-directory.ensures.found in
    if_ok c.index_lists.result _ _
    (λ index has. indexed_part c.args.part.now c.in-Some.directory c.args.bytes.now c.args.ranges.now index is.0 is.1 has)
    c.index_lists.ensures.found

pub returns-clause-none : goal.returns-clause-none
returns-clause-none c =
    let is = rw c.in-Some.is at c.in_ok-directory.ensures.found in
    if_ok c.index_lists.result _ _
    (λ index none. unindexed_part c.args.part.now c.in-Some.directory c.args.bytes.now index is.0 none)
    c.index_lists.ensures.none
