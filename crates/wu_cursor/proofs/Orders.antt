-- What holds of places and extents in either direction.
use Rattle.std.proofs.Common.{◌≡◌, ℕ, zero, suc, ◌+◌, ◌-◌, ◌<◌, ◌⊎◌, refl, ap, arith}
use Rattle.std.specs.Prelude.{Some, None}
use Rattle.wu_base.specs.declared.addresses.Extent.{Extent}
use Rattle.wu_solve.specs.Merging.{cover}
use Rattle.wu_solve.proofs.Sets.{Holds, same_ends}
use Rattle.wu_cursor.specs.declared.directions.Direction.{Direction}
use Rattle.wu_cursor.specs.declared.directions.Direction.TheVariants.{Forward, Backward}
use Rattle.wu_cursor.specs.Directions.{opposite, Reaches, Precedes, next_place, near, far, between, nearer, farther}

pub through : (d : Direction) (a b c : ℕ) → Reaches d a b → Reaches d b c → Reaches d a c
through Forward a b c ab bc = omega arith
through Backward a b c ab bc = omega arith

pub before_through : (d : Direction) (a b c : ℕ) → Reaches d a b → Precedes d b c → Precedes d a c
before_through Forward a b c ab bc = omega arith
before_through Backward a b c ab bc = omega arith

pub before_or_reached : (d : Direction) (a b : ℕ) → Precedes d b a ⊎ Reaches d a b
before_or_reached Forward a b = grind arith
before_or_reached Backward a b = grind arith

pub not_both : (d : Direction) (a b : ℕ) → Precedes d b a → Reaches d a b → ⊥
not_both Forward a b before reached = omega arith
not_both Backward a b before reached = omega arith

-- the next place

pub next_reached : (d : Direction) (a next p : ℕ) → next_place d a ≡ Some next → Precedes d a p → Reaches d next p
next_reached Forward a next p is before = let same : a + 1 ≡ next = cc in omega arith
next_reached Backward zero next p is before = omega arith
next_reached Backward (suc a) next p is before = let same : a ≡ next = cc in omega arith

pub next_before : (d : Direction) (a next p : ℕ) → next_place d a ≡ Some next → Reaches d next p → Precedes d a p
next_before Forward a next p is reached = let same : a + 1 ≡ next = cc in omega arith
next_before Backward zero next p is reached = cc
next_before Backward (suc a) next p is reached = let same : a ≡ next = cc in omega arith

pub next_on : (d : Direction) (a next : ℕ) → next_place d a ≡ Some next → Reaches d a next
next_on Forward a next is = let same : a + 1 ≡ next = cc in omega arith
next_on Backward zero next is = cc
next_on Backward (suc a) next is = let same : a ≡ next = cc in omega arith

pub next_none : (d : Direction) (a p : ℕ) → next_place d a ≡ None → Precedes d a p → ⊥
next_none Forward a p is before = cc
next_none Backward zero p is before = omega arith
next_none Backward (suc a) p is before = cc

pub next_back : (a : ℕ) → 0 < a → next_place Backward a ≡ Some (a - 1)
next_back zero some = absurd (omega arith)
next_back (suc a) some = ap Some (omega arith)

pub none_back : (a : ℕ) → a ≡ 0 → next_place Backward a ≡ None
none_back a none = rw none refl

-- how many places are left below n
abbrev pub left_below : Direction → ℕ → ℕ → ℕ
left_below Forward n place = n - place
left_below Backward n place = place

-- extents

pub between_is : (d : Direction) (x : Extent) (a b : ℕ) → far (opposite d) x ≡ a → far d x ≡ b → x ≡ between d a b
between_is Forward x a b first last = same_ends _ _ first last
between_is Backward x a b first last = same_ends _ _ last first

-- an extent that holds another one comes first, and is done last

pub near_held : (d : Direction) (place : ℕ) (x y : Extent) → Holds x y → Reaches d place (near d x) → Reaches d place (near d y)
near_held Forward place x y h reached = omega (arith, h.start)
near_held Backward place x y h reached = omega (arith, h.last)

pub before_held : (d : Direction) (place : ℕ) (x y : Extent) → Holds x y → Precedes d (near d y) place → Precedes d (near d x) place
before_held Forward place x y h before = omega (arith, h.start)
before_held Backward place x y h before = omega (arith, h.last)

pub far_held : (d : Direction) (end : ℕ) (x y : Extent) → Holds x y → Reaches d end (far d y) → Reaches d end (far d x)
far_held Forward end x y h reached = omega (arith, h.last)
far_held Backward end x y h reached = omega (arith, h.start)

pub same_far : (d : Direction) (end : ℕ) (x y : Extent) → Holds x y → far d x ≡ end → Reaches d end (far d y) → far d y ≡ end
same_far Forward end x y h same reached = omega (arith, h.last)
same_far Backward end x y h same reached = omega (arith, h.start)

-- what starts and ends no later, but from a place that comes no later
pub holds_near : (d : Direction) (x y : Extent) → Reaches d x.start y.start → Reaches d x.end y.end → Reaches d (near d y) (near d x)
    → Holds y x
holds_near Forward x y starts ends back = record { start = omega arith; last = omega arith }
holds_near Backward x y starts ends back = record { start = omega arith; last = omega arith }

-- x is done at the end, and z lies in what ends there and comes no earlier than x
pub holds_between : (d : Direction) (first end : ℕ) (x z : Extent) → far d x ≡ end → far (opposite d) z ≡ first
    → Reaches (opposite d) end (near (opposite d) z) → Reaches (opposite d) first (far (opposite d) x) → Holds x z
holds_between Forward first end x z ends starts last before = record { start = omega arith; last = omega arith }
holds_between Backward first end x z ends starts last before = record { start = omega arith; last = omega arith }

pub reached_back : (d : Direction) (end : ℕ) (x : Extent) → far d x ≡ end → Reaches (opposite d) end (near (opposite d) x)
reached_back Forward end x same = omega arith
reached_back Backward end x same = omega arith

-- the nearer of two places, and the farther

pub nearer_one : (d : Direction) (a b : ℕ) → Reaches d a b → a ≡ nearer d a b
nearer_one Forward a b reached = omega arith
nearer_one Backward a b reached = omega arith

pub nearer_other : (d : Direction) (a b : ℕ) → Precedes d b a → b ≡ nearer d a b
nearer_other Forward a b before = omega arith
nearer_other Backward a b before = omega arith

pub nearer_reaches : (d : Direction) (a b c : ℕ) → Reaches d a c ⊎ Reaches d b c → Reaches d (nearer d a b) c
nearer_reaches Forward a b c either = grind arith
nearer_reaches Backward a b c either = grind arith

pub farther_reaches : (d : Direction) (a b c : ℕ) → Reaches d a c → Reaches d b c → Reaches d (farther d a b) c
farther_reaches Forward a b c one other = omega arith
farther_reaches Backward a b c one other = omega arith

-- the extent that covers both

pub cover_reached : (d : Direction) (place : ℕ) (y z : Extent) → Reaches d place (near d y) → Reaches d place (near d z)
    → Reaches d place (near d (cover y z))
cover_reached Forward place y z one other = omega arith
cover_reached Backward place y z one other = omega arith

pub cover_far : (d : Direction) (a b : ℕ) (y z : Extent) → far d y ≡ a → far d z ≡ b → far d (cover y z) ≡ farther d a b
cover_far Forward a b y z one other = omega arith
cover_far Backward a b y z one other = omega arith
