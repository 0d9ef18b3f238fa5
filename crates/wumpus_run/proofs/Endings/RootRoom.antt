-- A store that holds an image of a state with room isn't spent.
use Rattle.std.proofs.Common.{◌≡◌, ℕ, ◌<◌, Bool, true, false, List, Option, None, Some, refl, sym, ap, ◌∙◌, subst, arith, IfSome}
use Rattle.std.specs.Prelude.{nat_le, if◌then◌else◌}
use Rattle.std.proofs.lemmas.Bool.{leb-true}
use Rattle.wu_base.specs.declared.limits.TheConstants.{BLOBS_SPENT_AT, SPENT_AT}
use Rattle.wu_outside.specs.Content.{Content}
use Rattle.wu_image.specs.declared.roots.Root.{Root}
use Rattle.wu_image.specs.Images.{HasSaved, IsSaved}
use Rattle.wu_image.proofs.RootLemmas.{same_root}
use Rattle.wu_query.specs.States.{State}
use Rattle.wu_engine.specs.Opening.{HasRoot, HoldsImage, IsSpentAt, spent_of}
use Rattle.wumpus_run.specs.Session.{HasRoom}

-- a root with such numbers leaves room
leaves_room : (root : Root) (number : ℕ) → root.next_address < SPENT_AT → root.next_blob < BLOBS_SPENT_AT → spent_of root ≡ Some number → ⊥
leaves_room root number address blob spent = by_address (nat_le SPENT_AT root.next_address) refl spent
  where
    by_blob : (full : Bool) → nat_le BLOBS_SPENT_AT root.next_blob ≡ full → (if full then Some root.next_blob else None) ≡ Some number → ⊥
    by_blob true is e = omega (arith, leb-true BLOBS_SPENT_AT root.next_blob is, blob)
    by_blob false is e = cc

    by_address : (full : Bool) → nat_le SPENT_AT root.next_address ≡ full
        → (if full then Some root.next_address else if nat_le BLOBS_SPENT_AT root.next_blob then Some root.next_blob else None)
        ≡ Some number → ⊥
    by_address true is e = omega (arith, leb-true SPENT_AT root.next_address is, address)
    by_address false is e = by_blob (nat_le BLOBS_SPENT_AT root.next_blob) refl e

-- the root of an image has the numbers of its state
root_room : (content : Content) (s : State) (root : Root) → HasRoot content root → IsSaved content content.root s.tree s.texts s.layout
    → HasRoom s → (root.next_address < SPENT_AT) × (root.next_blob < BLOBS_SPENT_AT)
root_room content s root has saved room =
    let found : HasSaved content has.code s.tree s.texts s.layout =
    subst (λ (code : Option (List ℕ)). IsSaved content code s.tree s.texts s.layout) has.there saved in
    let same : root ≡ found.root = same_root root found.root has.code has.spelled found.root_spelled in
    let address : root.next_address ≡ s.layout.next =
    ap (λ (r : Root). r.next_address) same ∙ sym found.spelled.next_address ∙ found.next in
    let blob : root.next_blob ≡ s.layout.blob =
    ap (λ (r : Root). r.next_blob) same ∙ sym found.spelled.next_blob ∙ found.blob in
    (omega (arith, address, room.0), omega (arith, blob, room.1))

pub has_room : (holds : Option Content) (s : State) → HoldsImage holds s → HasRoom s → (next : ℕ)
    → IfSome holds (λ content. IsSpentAt content next) → ⊥
has_room None s image room next spent = image
has_room (Some content) s image room next spent =
    let open_at = root_room content s spent.0 spent.1 image.1.saved room in
    leaves_room spent.0 next open_at.0 open_at.1 spent.2
