-- What an operator makes of two lists of extents.
use Rattle.std.specs.Prelude.{◌≡◌, ◌⊎◌, ⊤, ◌<◌, Bool, true, false, not, min, max, List, [], filter, IsSome, Option, None, Some}
use Rattle.std.specs.Prelude.{if◌then◌else◌}
use Rattle.std.specs.List.{list_any}
use Rattle.wu_base.specs.declared.addresses.Extent.{Extent}
use Rattle.wu_gcl.specs.Extents.{holds}
use Rattle.wu_gcl.specs.declared.expressions.Op.{Op}
use Rattle.wu_gcl.specs.declared.expressions.Op.TheVariants.{Containing, ContainedIn, NotContaining, NotContainedIn, OneOf, BothOf}
use Rattle.wu_gcl.specs.declared.expressions.Op.TheVariants.{FollowedBy}
use Rattle.wu_solve.specs.Listing.{IsAscending, Has}

abbrev pub is_wanted : Bool → Bool → Bool
is_wanted wanted test = if wanted then test else not test

-- the extents that hold one of the others, or those that hold none
abbrev pub holding : Bool → List Extent → List Extent → List Extent
holding wanted extents others = filter (λ x. is_wanted wanted (list_any (λ y. holds x y) others)) extents

-- the extents that one of the others holds, or those that none does
abbrev pub held : Bool → List Extent → List Extent → List Extent
held wanted extents others = filter (λ x. is_wanted wanted (list_any (λ y. holds y x) others)) extents

-- what an operator keeps that only tests the extents of its left operand
abbrev pub tested : Op → List Extent → List Extent → Option (List Extent)
tested Containing left right = Some (holding true left right)
tested ContainedIn left right = Some (held true left right)
tested NotContaining left right = Some (holding false left right)
tested NotContainedIn left right = Some (held false left right)
tested OneOf left right = None
tested BothOf left right = None
tested FollowedBy left right = None

-- the operator is one of these
abbrev pub IsTest : Op → Type 0
IsTest op = IsSome (tested op [] [])

-- what the operator keeps holds an extent of the right operand, or is held by one
abbrev pub KeepsByOne : Op → Type 0
KeepsByOne Containing = ⊤
KeepsByOne ContainedIn = ⊤
KeepsByOne NotContaining = ⊥
KeepsByOne NotContainedIn = ⊥
KeepsByOne OneOf = ⊥
KeepsByOne BothOf = ⊥
KeepsByOne FollowedBy = ⊥

-- the least extent that holds both
abbrev pub cover : Extent → Extent → Extent
cover y z = record { start = min y.start z.start; end = max y.end z.end }

-- from the start of the one to the end of the other
abbrev pub span : Extent → Extent → Extent
span y z = record { start = y.start; end = z.end }

abbrev pub IsOneOf : List Extent → List Extent → Extent → Type 0
IsOneOf left right x = Has left x ⊎ Has right x

abbrev pub IsCover : List Extent → List Extent → Extent → Type 0
IsCover left right x = (y : Extent) × (z : Extent) × Has left y × Has right z × (cover y z ≡ x)

-- a span whose second extent starts after the end of the first
abbrev pub IsSpan : List Extent → List Extent → Extent → Type 0
IsSpan left right x = (y : Extent) × (z : Extent) × Has left y × Has right z × (y.end < z.start) × (span y z ≡ x)

-- Candidates in ascending order, of which each candidate holds one.
pub record AreInnermost (IsCandidate : Extent → Type 0) (xs : List Extent) : Type 0 where
  pub ascending : IsAscending xs
  pub sound : (x : Extent) → Has xs x → IsCandidate x
  pub dense : (x : Extent) → IsCandidate x → (y : Extent) × Has xs y × (holds x y ≡ true)
