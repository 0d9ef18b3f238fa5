use Rattle.std.proofs.Common.{◌≡◌, ℕ, ap, subst, sym, arith}
use Rattle.std.specs.Prelude.{None}
use Rattle.std.specs.Map.{lookup, remove_entry}
use Rattle.std.specs.BTreeMap.{is_at, insert_entry}
use Rattle.std.specs.Ordering.{nat_cmp}
use Rattle.std.specs.Cmp.{nat_cmp_total}
use Rattle.std.proofs.lemmas.Map.{none_passes_from_lookup}
use Rattle.wu_base.proofs.MapEntries.{remove_entry-insert_entry, number_itself}
use Rattle.wu_base.specs.declared.addresses.Range.{Range}
use Rattle.wu_space.specs.Addresses.{Addresses, Ranges}
use Rattle.wu_space.proofs.Order.{total-le}
use Rattle.wu_space.proofs.Live.{sound-placed}
use Rattle.wu_space.proofs.spaces.Space.place.Goals as goal

pub push-requires : goal.push-requires
push-requires c =
    omega (arith, total-le _ _ _ c.self.invariant.by_address, c.requires.fits, ap (λ (s : Addresses). s.next) c.self.view_is)

pub overflow_add-self-in-Ok : goal.overflow_add-self-in-Ok
overflow_add-self-in-Ok c =
    omega (
      arith,
      total-le _ _ _ c.self.invariant.by_address,
      c.self.invariant.sum,
      c.requires.fits,
      ap (λ (s : Addresses). s.next) c.self.view_is,
    )

pub invariant_of-self-in-Ok : goal.invariant_of-self-in-Ok
invariant_of-self-in-Ok c =
    let free : lookup (is_at (nat_cmp c.args.ino)) c.self.inside.ranges.entries ≡ None =
    subst (λ (s : Addresses). lookup (is_at (nat_cmp c.args.ino)) s.ranges ≡ None) (sym c.self.view_is) c.requires.free in
    rw (c.in-Ok.ensures.ok, c.in_ok-insert.ensures.entries)
    (sound-placed _ _ _ _ c.self.invariant c.args.ino c.args.len free c.requires.some)

-- what was put in is taken out again
abbrev put_back : (files : Ranges) (ino : ℕ) (range : Range) → Type 0
put_back files ino range = remove_entry (is_at (nat_cmp ino)) (insert_entry nat_cmp files ino range) ≡ files

back : (files : Ranges) (ino : ℕ) (range : Range) → lookup (is_at (nat_cmp ino)) files ≡ None → put_back files ino range
back files ino range h =
    remove_entry-insert_entry nat_cmp_total files ino range (none_passes_from_lookup (is_at (nat_cmp ino)) files h) (number_itself ino)

pub invariant_of-self-in-Err : goal.invariant_of-self-in-Err
invariant_of-self-in-Err c =
    let free : lookup (is_at (nat_cmp c.args.ino)) c.self.inside.ranges.entries ≡ None =
    subst (λ (s : Addresses). lookup (is_at (nat_cmp c.args.ino)) s.ranges ≡ None) (sym c.self.view_is) c.requires.free in
    rw (c.in-Err.ensures.err, c.remove.ensures.entries, c.in_ok-insert.ensures.entries, back c.self.inside.ranges.entries c.args.ino _ free)
    c.self.invariant

pub returns-in-Err-clause-err : goal.returns-in-Err-clause-err
returns-in-Err-clause-err c =
    let free : lookup (is_at (nat_cmp c.args.ino)) c.self.inside.ranges.entries ≡ None =
    subst (λ (s : Addresses). lookup (is_at (nat_cmp c.args.ino)) s.ranges ≡ None) (sym c.self.view_is) c.requires.free in
    rw (c.remove.ensures.entries, c.in_ok-insert.ensures.entries, back c.self.inside.ranges.entries c.args.ino _ free) c.self.view_is
