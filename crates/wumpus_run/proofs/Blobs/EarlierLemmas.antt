-- What is left of the blobs that the store held at the start of a session.
use Rattle.std.proofs.Common.{◌≡◌, ℕ, ◌≤◌, Option, Some, sym, subst, arith}
use Rattle.std.specs.Prelude.{IfSome}
use Rattle.wu_outside.specs.Content.{Content}
use Rattle.wu_parts.proofs.LayoutUnits.{if_told}
use Rattle.wu_image.specs.declared.roots.Root.{Root}
use Rattle.wu_engine.specs.Earlier.{LeavesEarlier}
use Rattle.wu_engine.specs.Opening.{HasRoot}
use Rattle.wu_engine.proofs.EarlierBlobs.{earlier_same, earlier_then}

-- what is left of the blobs below the next one of the root that the store had
abbrev pub LeavesItsOwn : Option Content → Option Content → Type 0
LeavesItsOwn before after = (content : Content) → before ≡ Some content → (root : Root) → HasRoot content root
    → LeavesEarlier root.next_blob before after

-- so it is so far, and no number below that one is drawn again
abbrev pub HasLeft : Option Content → Option Content → ℕ → Type 0
HasLeft before now next = (content : Content) → before ≡ Some content → (root : Root) → HasRoot content root
    → (root.next_blob ≤ next) × LeavesEarlier root.next_blob before now

pub left_alone : (before after : Option Content) → after ≡ before → LeavesItsOwn before after
left_alone before after same = λ content told root has.
    subst (LeavesEarlier root.next_blob before) (sym same) (earlier_same root.next_blob before)

pub HasLeft-none : (before now : Option Content) (next : ℕ) → now ≡ before
    → IfSome before (λ content. (root : Root) → HasRoot content root → next ≡ root.next_blob) → HasLeft before now next
HasLeft-none before now next same drawn = λ content told root has. (
  omega (arith, if_told (λ (c : Content). (r : Root) → HasRoot c r → next ≡ r.next_blob) before content told drawn root has),
  left_alone before now same content told root has,
)

pub HasLeft-turn : (before between now : Option Content) (next later : ℕ) → HasLeft before between next
    → ((content : Content) → before ≡ Some content → LeavesEarlier next between now) → next ≤ later → HasLeft before now later
HasLeft-turn before between now next later left turn onward = λ content told root has.
    let so_far = left content told root has in (
      omega (arith, so_far.0, onward),
      earlier_then root.next_blob next before between now so_far.0 so_far.1 (turn content told),
    )

pub left_so_far : (before now : Option Content) (next : ℕ) → HasLeft before now next → LeavesItsOwn before now
left_so_far before now next left = λ content told root has. (left content told root has).1

pub left_then : (before between now : Option Content) (next : ℕ) → HasLeft before between next
    → ((content : Content) → before ≡ Some content → LeavesEarlier next between now) → LeavesItsOwn before now
left_then before between now next left turn =
    left_so_far before now next (HasLeft-turn before between now next next left turn (omega arith))
