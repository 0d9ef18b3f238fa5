use Rattle.std.proofs.Common.{ℕ, ◌<◌, List, subst, arith}
use Rattle.std.specs.Prelude.{IsPermutation}
use Rattle.std.specs.List.{AllByRecursion}
use Rattle.std.proofs.lemmas.List.Sorted.{IsNonDecreasingBy-from_sort}
use Rattle.wu_image.specs.LayoutRules.{named_blobs}
use Rattle.wu_image.proofs.DistinctBlobs.{blobs_decided, drawn_fit, drawn_moved}
use Rattle.wu_image.proofs.rules.are_blobs.Goals as goal

pub rise-requires : goal.rise-requires
rise-requires c =
    let drawn = rw c.deref.ensures.value at c.if-not-are_drawn.ensures in
    rw c.deref-2.ensures.value
    (drawn_fit c.args.next_blob _ (omega arith) (drawn_moved c.args.next_blob _ _ c.sort_unstable.ensures.permutation drawn))

pub returns : goal.returns
returns c =
    let sorted = c.sort_unstable.new.self.items in
    let p = subst (λ (l : List ℕ). IsPermutation l sorted) c.in_ok-blobs.ensures c.sort_unstable.ensures.permutation in
    let drawn = subst (λ (l : List ℕ). AllByRecursion (λ (b : ℕ). (0 < b) × (b < c.args.next_blob)) l) c.in_ok-blobs.ensures
    (rw c.deref.ensures.value at c.if-not-are_drawn.ensures) in
    blobs_decided (named_blobs c.args.files.now c.args.parts.now) sorted c.rise.result p
    (IsNonDecreasingBy-from_sort (λ (n : ℕ). n) sorted c.sort_unstable.ensures.sorted) drawn (rw c.deref-2.ensures.value at c.rise.ensures)
