use Rattle.wu_image.proofs.ListedLemmas.{layout_at, listed_of_spelled, made_checkpoint, tree_at}
use Rattle.wu_image.proofs.reading.read_checkpoint.Goals as goal

pub returns-in-None-clause-none : goal.returns-in-None-clause-none
returns-in-None-clause-none c checkpoint s =
    (rw c.in-None.is at c.in_ok-lists.ensures.none) checkpoint (listed_of_spelled checkpoint _ s)

pub returns-in-None-2-clause-none : goal.returns-in-None-2-clause-none
returns-in-None-2-clause-none c checkpoint s =
    let l = rw c.in-Some.is at c.in_ok-lists.ensures.found in
    let no = rw (c.deref.ensures.value, c.deref-2.ensures.value, c.deref-3.ensures.value, c.deref-4.ensures.value) at (rw c.in-None-2.is at c.in_ok-tree.ensures) in
    no (tree_at _ _ l checkpoint s)

pub returns-then-not-keep-clause-none : goal.returns-then-not-keep-clause-none
returns-then-not-keep-clause-none c checkpoint s =
    let l = rw c.in-Some.is at c.in_ok-lists.ensures.found in
    let no = rw (c.deref-5.ensures.value, c.deref-6.ensures.value) at (rw c.if-not-keep.true at c.in_ok-keep.ensures) in
    no (layout_at _ _ l checkpoint s)

pub returns-clause-found : goal.returns-clause-found
returns-clause-found c =
    let l = rw c.in-Some.is at c.in_ok-lists.ensures.found in
    let t = rw (c.deref.ensures.value, c.deref-2.ensures.value, c.deref-3.ensures.value, c.deref-4.ensures.value) at (rw c.in-Some-2.is at c.in_ok-tree.ensures) in
    let keep = rw (c.deref-5.ensures.value, c.deref-6.ensures.value) at (rw c.if-not-keep.false at c.in_ok-keep.ensures) in
    made_checkpoint _ _ _ _ _ l t.0 keep t.1 c.from.ensures c.from-2.ensures
