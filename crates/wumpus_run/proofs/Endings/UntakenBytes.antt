-- Where no byte of an input was taken no item was answered, and the store is as the opening left it.
use Rattle.std.proofs.Common.{◌≡◌, ◌⊎◌, inr, ℕ, List, [], ◌∷◌, ◌++◌, length, Option, None, Some, refl, sym, ap}
use Rattle.std.proofs.Common.{◌∙◌, arith, length-append}
use Rattle.std.specs.Io.KnownBytes.{Consumes, IsAtEnd}
use Rattle.wu_outside.specs.Content.{Content}
use Rattle.wu_outside.specs.Crash.{Moments, settle}
use Rattle.std.specs.Prelude.{option_map}
use Rattle.wu_script.specs.Holding.{Held}
use Rattle.wu_script.specs.Items.{IsBeforeEnd, TakesItem}
use Rattle.wu_script.specs.declared.types.Item.{Item}
use Rattle.wumpus_run.specs.Session.{Moment, OpensAlone, UnlessTaken}
use Rattle.wumpus_run.proofs.SessionLemmas.{one_item}

-- what is so anyway
pub untaken_so : (IsSo : Type 0) (before now : Option (List ℕ)) → IsSo → UnlessTaken before now IsSo
untaken_so IsSo None now so = tt
untaken_so IsSo (Some input) now so = λ some same. so

pub untaken_map : (IsSo IsToo : Type 0) (before now : Option (List ℕ)) → (IsSo → IsToo) → UnlessTaken before now IsSo
    → UnlessTaken before now IsToo
untaken_map IsSo IsToo None now too so = tt
untaken_map IsSo IsToo (Some input) now too so = λ some same. too (so some same)

-- where none was taken in the end, none was before, nor then
lengths : (input mid left first more : List ℕ) → input ≡ first ++ mid → mid ≡ more ++ left → Some left ≡ Some input
    → (length first ≡ 0) × (length more ≡ 0)
lengths input mid left first more one two same =
    let e : left ≡ input = cc in (
      omega (arith, ap length one, ap length two, ap length e, length-append first mid, length-append more left),
      omega (arith, ap length one, ap length two, ap length e, length-append first mid, length-append more left),
    )

no_bytes : (bytes : List ℕ) → length bytes ≡ 0 → bytes ≡ []
no_bytes [] e = refl
no_bytes (byte ∷ bytes) e = absurd (omega (arith, e))

mid_same : (input mid left first more : List ℕ) → input ≡ first ++ mid → mid ≡ more ++ left → Some left ≡ Some input
    → Some mid ≡ Some input
mid_same input mid left first more one two same =
    ap Some (sym (one ∙ ap (λ bs. bs ++ mid) (no_bytes first (lengths input mid left first more one two same).0)))

pub untaken_further : (IsSo : Type 0) (before mid now : Option (List ℕ)) (first more : List ℕ) → Consumes before mid first
    → Consumes mid now more → UnlessTaken before mid IsSo → UnlessTaken before now IsSo
untaken_further IsSo None mid now first more one two so = tt
untaken_further IsSo (Some input) None now first more one two so = absurd one
untaken_further IsSo (Some input) (Some mid) None first more one two so = absurd two
untaken_further IsSo (Some input) (Some mid) (Some left) first more one two so = λ some same.
    so some (mid_same input mid left first more one two same)

-- an item takes a byte
pub untaken_item : (IsSo : Type 0) (before mid now : Option (List ℕ)) (first : List ℕ) (last_read : ℕ) (old new : Held) (item : Item)
    → Consumes before mid first → IsBeforeEnd item → TakesItem mid now last_read old new item
    → UnlessTaken before mid (old.bytes ≡ []) → UnlessTaken before now IsSo
untaken_item IsSo None mid now first last_read old new item one other taken so = tt
untaken_item IsSo (Some input) None now first last_read old new item one other taken so = absurd one
untaken_item IsSo (Some input) (Some mid) None first last_read old new item one other taken so = absurd taken.1.consumed
untaken_item IsSo (Some input) (Some mid) (Some left) first last_read old new item one other taken so = λ some same.
    let uses = taken.1 in
    absurd (omega (
      arith,
      (one_item last_read new item taken.0 other taken.2).some,
      ap length uses.joined,
      length-append old.bytes uses.given,
      length-append taken.0 new.bytes,
      ap length (so some (mid_same input mid left first uses.given one uses.consumed same)),
      (lengths input mid left first uses.given one uses.consumed same).1,
    ))

-- and so does the end of an input that has one
pub untaken_end : (IsSo : Type 0) (before now : Option (List ℕ)) → IsAtEnd now → UnlessTaken before now IsSo
untaken_end IsSo None now end = tt
untaken_end IsSo (Some input) None end = λ some same. absurd cc
untaken_end IsSo (Some input) (Some left) end = λ some same.
    let e : left ≡ input = cc in
    absurd (omega (arith, some, ap length e, ap length end))

-- a session after its opening
pub opens_alone : (before now : Moment) (holds : Option Content) (mid : Option Moments) → holds ≡ before.holds
    → mid ≡ option_map settle before.moments → UnlessTaken before.left now.left ((now.holds ≡ holds) × (now.moments ≡ mid))
    → OpensAlone before now
opens_alone before now holds mid same synced untaken =
    untaken_map ((now.holds ≡ holds) × (now.moments ≡ mid))
    ((now.holds ≡ before.holds) × ((now.moments ≡ before.moments) ⊎ (now.moments ≡ option_map settle before.moments)))
    before.left now.left (λ so. (so.0 ∙ same, inr (so.1 ∙ synced))) untaken
