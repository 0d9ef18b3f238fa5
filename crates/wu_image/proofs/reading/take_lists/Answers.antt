use Rattle.std.proofs.Common.{[], map, refl}
use Rattle.wu_image.specs.Items.{Number, list_items}
use Rattle.wu_image.specs.Checkpoints.{link_items, part_items, user_items}
use Rattle.wu_image.specs.Reading.{entry_items}
use Rattle.wu_image.proofs.ItemLemmas.{parted}
use Rattle.wu_image.proofs.ListedLemmas.{acls_left, entries_left, links_left, listed_of_read, numbers_of, parts_left, same_acls}
use Rattle.wu_image.proofs.ListedLemmas.{sections_at}
use Rattle.wu_image.proofs.ListedLemmas.{users_and_later, users_left}
use Rattle.wu_image.proofs.reading.take_lists.Goals as goal

pub returns-in_default-clause-none : goal.returns-in_default-clause-none
returns-in_default-clause-none c checkpoint s = c.in_default.ensures.none s.version s.spelled.code s.spelled.mark

pub returns-in_default-next_numbers-clause-none : goal.returns-in_default-next_numbers-clause-none
returns-in_default-next_numbers-clause-none c checkpoint s =
    let h = sections_at _ checkpoint _ _ c.in-Some.ensures.found s in
    let n = parted _ [] (map Number (numbers_of checkpoint))
    (users_and_later c.in-Some.version checkpoint.tree.users h.entries checkpoint.tree.links checkpoint.parts checkpoint.tree.acls)
    h.items in
    c.in_default-next_numbers.ensures.none (numbers_of checkpoint) n.0 refl n.1

pub returns-in-None-clause-none : goal.returns-in-None-clause-none
returns-in-None-clause-none c checkpoint s =
    let h = sections_at _ checkpoint _ _ c.in-Some.ensures.found s in
    let u = users_left _ checkpoint _ _ _ h c.in-Some-next_numbers.ensures.length c.in-Some-next_numbers.ensures.found in
    let n = parted _ [] (list_items user_items checkpoint.tree.users) _ u in
    (rw c.in-None.is at c.in_ok-taken.ensures.none) checkpoint.tree.users n.0 n.1

pub returns-in-None-2-clause-none : goal.returns-in-None-2-clause-none
returns-in-None-2-clause-none c checkpoint s =
    let h = sections_at _ checkpoint _ _ c.in-Some.ensures.found s in
    let u = users_left _ checkpoint _ _ _ h c.in-Some-next_numbers.ensures.length c.in-Some-next_numbers.ensures.found in
    let e = entries_left _ _ _ _ _ h.entries _ _ _ u (rw c.in-Some-2.is at c.in_ok-taken.ensures.found) in
    let n = parted _ [] (list_items entry_items h.entries) _ e in
    (rw c.in-None-2.is at c.in_ok-taken-2.ensures.none) h.entries n.0 h.valid n.1

pub returns-in-None-3-clause-none : goal.returns-in-None-3-clause-none
returns-in-None-3-clause-none c checkpoint s =
    let h = sections_at _ checkpoint _ _ c.in-Some.ensures.found s in
    let u = users_left _ checkpoint _ _ _ h c.in-Some-next_numbers.ensures.length c.in-Some-next_numbers.ensures.found in
    let e = entries_left _ _ _ _ _ h.entries _ _ _ u (rw c.in-Some-2.is at c.in_ok-taken.ensures.found) in
    let l = links_left _ _ _ h.entries _ _ _ _ _ h.valid e (rw c.in-Some-3.is at c.in_ok-taken-2.ensures.found) in
    let n = parted _ [] (list_items link_items checkpoint.tree.links) _ l in
    (rw c.in-None-3.is at c.in_ok-taken-3.ensures.none) checkpoint.tree.links n.0 n.1

pub returns-in-None-4-clause-none : goal.returns-in-None-4-clause-none
returns-in-None-4-clause-none c checkpoint s =
    let h = sections_at _ checkpoint _ _ c.in-Some.ensures.found s in
    let u = users_left _ checkpoint _ _ _ h c.in-Some-next_numbers.ensures.length c.in-Some-next_numbers.ensures.found in
    let e = entries_left _ _ _ _ _ h.entries _ _ _ u (rw c.in-Some-2.is at c.in_ok-taken.ensures.found) in
    let l = links_left _ _ _ h.entries _ _ _ _ _ h.valid e (rw c.in-Some-3.is at c.in_ok-taken-2.ensures.found) in
    let p = parts_left _ _ _ _ _ _ _ l (rw c.in-Some-4.is at c.in_ok-taken-3.ensures.found) in
    let n = parted _ [] (list_items part_items checkpoint.parts) _ p in
    (rw c.in-None-4.is at c.in_ok-taken-4.ensures.none) checkpoint.parts n.0 h.parts_fit n.1

pub returns-in-None-5-clause-none : goal.returns-in-None-5-clause-none
returns-in-None-5-clause-none c checkpoint s =
    let h = sections_at _ checkpoint _ _ c.in-Some.ensures.found s in
    let u = users_left _ checkpoint _ _ _ h c.in-Some-next_numbers.ensures.length c.in-Some-next_numbers.ensures.found in
    let e = entries_left _ _ _ _ _ h.entries _ _ _ u (rw c.in-Some-2.is at c.in_ok-taken.ensures.found) in
    let l = links_left _ _ _ h.entries _ _ _ _ _ h.valid e (rw c.in-Some-3.is at c.in_ok-taken-2.ensures.found) in
    let p = parts_left _ _ _ _ _ _ _ l (rw c.in-Some-4.is at c.in_ok-taken-3.ensures.found) in
    let read = rw c.in-Some-5.is at c.in_ok-taken-4.ensures.found in
    let a = acls_left _ _ _ _ _ _ read.0 h.parts_fit read.1 p in
    (rw c.in-None-5.is at c.in_ok-taken-5.ensures.none) checkpoint.tree.acls [] h.acls_fit a

pub returns-then-not-is_end-clause-none : goal.returns-then-not-is_end-clause-none
returns-then-not-is_end-clause-none c checkpoint s =
    let h = sections_at _ checkpoint _ _ c.in-Some.ensures.found s in
    let u = users_left _ checkpoint _ _ _ h c.in-Some-next_numbers.ensures.length c.in-Some-next_numbers.ensures.found in
    let e = entries_left _ _ _ _ _ h.entries _ _ _ u (rw c.in-Some-2.is at c.in_ok-taken.ensures.found) in
    let l = links_left _ _ _ h.entries _ _ _ _ _ h.valid e (rw c.in-Some-3.is at c.in_ok-taken-2.ensures.found) in
    let p = parts_left _ _ _ _ _ _ _ l (rw c.in-Some-4.is at c.in_ok-taken-3.ensures.found) in
    let read = rw c.in-Some-5.is at c.in_ok-taken-4.ensures.found in
    let a = acls_left _ _ _ _ _ _ read.0 h.parts_fit read.1 p in
    let lists = rw c.in-Some-6.is at c.in_ok-taken-5.ensures.found in
    c.if-not-is_end.ensures
    (same_acls c.in-Some.version _ checkpoint.tree.acls _ _ [] lists.0 h.acls_fit lists.1 h.can_tell lists.2 a).1

pub returns-clause-found : goal.returns-clause-found
returns-clause-found c =
    let parts = rw c.in-Some-5.is at c.in_ok-taken-4.ensures.found in
    let lists = rw c.in-Some-6.is at c.in_ok-taken-5.ensures.found in
    listed_of_read c.in-Some.version _ _ _ _ _ _ _ _ _ _ _ _ _ _ _ c.in-Some.ensures.found c.in-Some-next_numbers.ensures.length
    c.in-Some-next_numbers.ensures.found (rw c.in-Some-2.is at c.in_ok-taken.ensures.found)
    (rw c.in-Some-3.is at c.in_ok-taken-2.ensures.found) (rw c.in-Some-4.is at c.in_ok-taken-3.ensures.found) parts.0 parts.1
    lists.0 lists.1 lists.2 c.if-not-is_end.ensures
