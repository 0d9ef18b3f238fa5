-- The far end of the nearest extent of what an operator makes, before it is seen which are innermost.
use Rattle.std.proofs.Common.{◌≡◌, ℕ, ◌<◌, ◌≤◌, Bool, ◌&&◌, ◌⊎◌, inl, inr, refl, sym, subst, ◌∙◌, arith, lt-ltb, ltb-true}
use Rattle.std.specs.Prelude.{nat_lt, Option, Some, None, MatchOption}
use Rattle.std.proofs.lemmas.Bool.{and_parts, and_from, or_cases, or_left, or_right}
use Rattle.wu_base.specs.declared.addresses.Extent.{Extent}
use Rattle.wu_gcl.specs.Extents.{holds, some_extent, in_either, holds_both, holds_in_order}
use Rattle.wu_solve.specs.Merging.{cover, span}
use Rattle.wu_solve.proofs.Sets.{Holds, holds_means, holds_from}
use Rattle.wu_solve.proofs.Order.{some_found, some_from}
use Rattle.wu_cursor.specs.declared.directions.Direction.{Direction}
use Rattle.wu_cursor.specs.declared.directions.Direction.TheVariants.{Forward, Backward}
use Rattle.wu_cursor.specs.Directions.{Reaches, Precedes, next_place, near, far, nearer, nearer_of, farther}
use Rattle.wu_cursor.specs.Within.{IsMember, NoneReached, IsFarEnd}
use Rattle.wu_cursor.proofs.Orders.{before_held, before_or_reached, before_through, cover_far, cover_reached, far_held, farther_reaches}
use Rattle.wu_cursor.proofs.Orders.{near_held, nearer_one, nearer_other, nearer_reaches, next_before, next_none, next_reached, not_both}

module _ (n : ℕ) (left right : Extent → Bool) where
  -- in either set

  pub either_left : (x : Extent) → IsMember n left x → IsMember n (in_either left right) x
  either_left x m = record { extent = m.extent; passes = or_left (left x) (right x) m.passes }

  pub either_right : (x : Extent) → IsMember n right x → IsMember n (in_either left right) x
  either_right x m = record { extent = m.extent; passes = or_right (left x) (right x) m.passes }

  pub either_cases : (x : Extent) → IsMember n (in_either left right) x → IsMember n left x ⊎ IsMember n right x
  either_cases x m =
      elim (or_cases (left x) (right x) m.passes) [
        | inl l ↦ inl (record { extent = m.extent; passes = l })
        | inr r ↦ inr (record { extent = m.extent; passes = r })
      ]

  -- holds one of each

  pub record Both (x : Extent) : Type 0 where
    pub one : Extent
    pub of_left : IsMember n left one
    pub holds_left : Holds x one
    pub other : Extent
    pub of_right : IsMember n right other
    pub holds_right : Holds x other

  pub both_parts : (x : Extent) → IsMember n (holds_both n left right) x → Both x
  unfolding holds_both
  both_parts x m =
      let b = and_parts (some_extent n (λ y. holds x y && left y)) (some_extent n (λ z. holds x z && right z)) m.passes in
      let f = some_found n (λ y. holds x y && left y) b.0 in
      let g = some_found n (λ z. holds x z && right z) b.1 in
      let fb = and_parts (holds x f.0) (left f.0) f.2 in
      let gb = and_parts (holds x g.0) (right g.0) g.2 in
      record {
        one = f.0;
        of_left = record { extent = f.1; passes = fb.1 };
        holds_left = holds_means x f.0 fb.0;
        other = g.0;
        of_right = record { extent = g.1; passes = gb.1 };
        holds_right = holds_means x g.0 gb.0;
      }

  pub both_from : (y z : Extent) → IsMember n left y → IsMember n right z → IsMember n (holds_both n left right) (cover y z)
  unfolding holds_both
  both_from y z my mz =
      let oy : y.start ≤ y.end = my.extent.ordered in
      let wy : y.end < n = my.extent.within in
      let wz : z.end < n = mz.extent.within in
      let hy : Holds (cover y z) y = record { start = omega arith; last = omega arith } in
      let hz : Holds (cover y z) z = record { start = omega arith; last = omega arith } in
      record {
        extent = record { ordered = omega arith; within = omega arith };
        passes = and_from _ _
            (some_from n (λ v. holds (cover y z) v && left v) y my.extent (and_from _ _ (holds_from (cover y z) y hy) my.passes))
            (some_from n (λ v. holds (cover y z) v && right v) z mz.extent (and_from _ _ (holds_from (cover y z) z hz) mz.passes));
      }

  -- holds one of the left, and behind it one of the right

  pub record InOrder (x : Extent) : Type 0 where
    pub one : Extent
    pub of_left : IsMember n left one
    pub holds_left : Holds x one
    pub other : Extent
    pub of_right : IsMember n right other
    pub holds_right : Holds x other
    pub behind : one.end < other.start

  pub order_parts : (x : Extent) → IsMember n (holds_in_order n left right) x → InOrder x
  unfolding holds_in_order
  order_parts x m =
      let f = some_found n (λ v. holds x v && left v && some_extent n (λ w. holds x w && right w && nat_lt v.end w.start)) m.passes in
      let fb = and_parts (holds x f.0 && left f.0) (some_extent n (λ w. holds x w && right w && nat_lt f.0.end w.start)) f.2 in
      let fc = and_parts (holds x f.0) (left f.0) fb.0 in
      let g = some_found n (λ w. holds x w && right w && nat_lt f.0.end w.start) fb.1 in
      let gb = and_parts (holds x g.0 && right g.0) (nat_lt f.0.end g.0.start) g.2 in
      let gc = and_parts (holds x g.0) (right g.0) gb.0 in
      record {
        one = f.0;
        of_left = record { extent = f.1; passes = fc.1 };
        holds_left = holds_means x f.0 fc.0;
        other = g.0;
        of_right = record { extent = g.1; passes = gc.1 };
        holds_right = holds_means x g.0 gc.0;
        behind = ltb-true f.0.end g.0.start gb.1;
      }

  pub order_from : (y z : Extent) → IsMember n left y → IsMember n right z → y.end < z.start
      → IsMember n (holds_in_order n left right) (span y z)
  unfolding holds_in_order
  order_from y z my mz behind =
      let oy : y.start ≤ y.end = my.extent.ordered in
      let oz : z.start ≤ z.end = mz.extent.ordered in
      let wz : z.end < n = mz.extent.within in
      let hy : Holds (span y z) y = record { start = omega arith; last = omega arith } in
      let hz : Holds (span y z) z = record { start = omega arith; last = omega arith } in
      record {
        extent = record { ordered = omega arith; within = omega arith };
        passes = some_from n (λ v. holds (span y z) v && left v && some_extent n (λ w. holds
            (span y z) w && right w && nat_lt v.end w.start))
            y my.extent
            (and_from (holds (span y z) y && left y) _ (and_from (holds (span y z) y) (left y) (holds_from (span y z) y hy) my.passes)
            (some_from n (λ w. holds (span y z) w && right w && nat_lt y.end w.start) z mz.extent
            (and_from (holds (span y z) z && right z) _ (and_from (holds (span y z) z) (right z) (holds_from (span y z) z hz) mz.passes)
            (lt-ltb y.end z.start behind))));
      }

-- one of two in the direction: the first of them, where the other order gives the second
abbrev pub first_of : {X : Type 0} → Direction → X → X → X
first_of Forward one other = one
first_of Backward one other = other

module _ (d : Direction) (n : ℕ) (left right : Extent → Bool) where
  -- in either set

  pub far_end_of_either : (place : ℕ) (one other : Option ℕ) → MatchOption one (NoneReached d n left place) (IsFarEnd d n left place)
      → MatchOption other (NoneReached d n right place) (IsFarEnd d n right place)
      → MatchOption (nearer_of d one other) (NoneReached d n (in_either left right) place) (IsFarEnd d n (in_either left right) place)
  far_end_of_either place None None l r = record {
    none = λ y my. elim (either_cases n left right y my) [ inl m ↦ l.none y m | inr m ↦ r.none y m ];
  }
  far_end_of_either place None (Some b) l r = record {
    extent = r.extent;
    member = either_right n left right r.extent r.member;
    reached = r.reached;
    same = r.same;
    least = λ y my reached.
        elim (either_cases n left right y my) [
          | inl m ↦ absurd (not_both d place (near d y) (l.none y m) reached)
          | inr m ↦ r.least y m reached
        ];
  }
  far_end_of_either place (Some a) None l r = record {
    extent = l.extent;
    member = either_left n left right l.extent l.member;
    reached = l.reached;
    same = l.same;
    least = λ y my reached.
        elim (either_cases n left right y my) [
          | inl m ↦ l.least y m reached
          | inr m ↦ absurd (not_both d place (near d y) (r.none y m) reached)
        ];
  }
  far_end_of_either place (Some a) (Some b) l r =
      let least : (y : Extent) → IsMember n (in_either left right) y → Reaches d place (near d y) → Reaches d (nearer d a b) (far d y) =
      λ y my reached.
      nearer_reaches d a b (far d y)
      (elim (either_cases n left right y my) [ inl m ↦ inl (l.least y m reached) | inr m ↦ inr (r.least y m reached) ]) in
      elim (before_or_reached d a b) [
        | inl before ↦ record {
          extent = r.extent;
          member = either_right n left right r.extent r.member;
          reached = r.reached;
          same = r.same ∙ nearer_other d a b before;
          least = least;
        }
        | inr reached ↦ record {
          extent = l.extent;
          member = either_left n left right l.extent l.member;
          reached = l.reached;
          same = l.same ∙ nearer_one d a b reached;
          least = least;
        }
      ]

  -- that hold one of each

  pub far_end_of_both : (place a b : ℕ) → IsFarEnd d n left place a → IsFarEnd d n right place b
      → IsFarEnd d n (holds_both n left right) place (farther d a b)
  far_end_of_both place a b l r = record {
    extent = cover l.extent r.extent;
    member = both_from n left right l.extent r.extent l.member r.member;
    reached = cover_reached d place l.extent r.extent l.reached r.reached;
    same = cover_far d a b l.extent r.extent l.same r.same;
    least = λ x m reached.
        let p = both_parts n left right x m in
        farther_reaches d a b (far d x)
        (far_held d a x p.one p.holds_left (l.least p.one p.of_left (near_held d place x p.one p.holds_left reached)))
        (far_held d b x p.other p.holds_right (r.least p.other p.of_right (near_held d place x p.other p.holds_right reached)));
  }

  pub none_of_both_left : (place : ℕ) → NoneReached d n left place → NoneReached d n (holds_both n left right) place
  none_of_both_left place none = record {
    none = λ x m.
        let p = both_parts n left right x m in before_held d place x p.one p.holds_left (none.none p.one p.of_left);
  }

  pub none_of_both_right : (place : ℕ) → NoneReached d n right place → NoneReached d n (holds_both n left right) place
  none_of_both_right place none = record {
    none = λ x m.
        let p = both_parts n left right x m in before_held d place x p.other p.holds_right (none.none p.other p.of_right);
  }

  -- that hold one of each, in order

  pub record Follows (x : Extent) : Type 0 where
    pub first : Extent
    pub of_first : IsMember n (first_of d left right) first
    pub holds_first : Holds x first
    pub second : Extent
    pub of_second : IsMember n (first_of d right left) second
    pub holds_second : Holds x second
    pub behind : Precedes d (far d first) (near d second)

follows : (d : Direction) (n : ℕ) (left right : Extent → Bool) (x : Extent) → IsMember n (holds_in_order n left right) x
    → Follows d n left right x
follows Forward n left right x m =
    let p = order_parts n left right x m in
    record {
      first = p.one;
      of_first = p.of_left;
      holds_first = p.holds_left;
      second = p.other;
      of_second = p.of_right;
      holds_second = p.holds_right;
      behind = p.behind;
    }
follows Backward n left right x m =
    let p = order_parts n left right x m in
    record {
      first = p.other;
      of_first = p.of_right;
      holds_first = p.holds_right;
      second = p.one;
      of_second = p.of_left;
      holds_second = p.holds_left;
      behind = p.behind;
    }

follows_from : (d : Direction) (n : ℕ) (left right : Extent → Bool) (y z : Extent) → IsMember n (first_of d left right) y
    → IsMember n (first_of d right left) z → Precedes d (far d y) (near d z)
    → (x : Extent) × IsMember n (holds_in_order n left right) x × (near d x ≡ near d y) × (far d x ≡ far d z)
follows_from Forward n left right y z my mz behind = (span y z, order_from n left right y z my mz behind, refl, refl)
follows_from Backward n left right y z my mz behind = (span z y, order_from n left right z y mz my behind, refl, refl)

module _ (d : Direction) (n : ℕ) (left right : Extent → Bool) (place a : ℕ) (f : IsFarEnd d n (first_of d left right) place a) where
  -- the second one of an extent from the place on lies behind the nearest first one
  second_behind : (x : Extent) (m : IsMember n (holds_in_order n left right) x) → Reaches d place (near d x)
      → Precedes d a (near d (follows d n left right x m).second)
  second_behind x m reached =
      let p = follows d n left right x m in
      before_through d a (far d p.first) (near d p.second) (f.least p.first p.of_first (near_held d place x p.first p.holds_first reached))
      p.behind

  pub far_end_in_order : (next b : ℕ) → next_place d a ≡ Some next → IsFarEnd d n (first_of d right left) next b
      → IsFarEnd d n (holds_in_order n left right) place b
  far_end_in_order next b is s =
      let behind : Precedes d (far d f.extent) (near d s.extent) =
      subst (λ (end : ℕ). Precedes d end (near d s.extent)) (sym f.same) (next_before d a next (near d s.extent) is s.reached) in
      let o = follows_from d n left right f.extent s.extent f.member s.member behind in
      record {
        extent = o.0;
        member = o.1;
        reached = subst (λ (first : ℕ). Reaches d place first) (sym o.2) f.reached;
        same = o.3 ∙ s.same;
        least = λ x m reached.
            let p = follows d n left right x m in
            far_held d b x p.second p.holds_second
            (s.least p.second p.of_second (next_reached d a next (near d p.second) is (second_behind x m reached)));
      }

  pub none_in_order_second : (next : ℕ) → next_place d a ≡ Some next → NoneReached d n (first_of d right left) next
      → NoneReached d n (holds_in_order n left right) place
  none_in_order_second next is none = record {
    none = λ x m.
        let p = follows d n left right x m in
        elim (before_or_reached d place (near d x)) [
          | inl before ↦ before
          | inr reached ↦
              absurd (not_both d next (near d p.second) (none.none p.second p.of_second)
              (next_reached d a next (near d p.second) is (second_behind x m reached)))
        ];
  }

  pub none_in_order_behind : next_place d a ≡ None → NoneReached d n (holds_in_order n left right) place
  none_in_order_behind is = record {
    none = λ x m.
        elim (before_or_reached d place (near d x)) [
          | inl before ↦ before
          | inr reached ↦
              absurd (next_none d a (near d (follows d n left right x m).second) is (second_behind x m reached))
        ];
  }

pub none_in_order_first : (d : Direction) (n : ℕ) (left right : Extent → Bool) (place : ℕ) → NoneReached d n (first_of d left right) place
    → NoneReached d n (holds_in_order n left right) place
none_in_order_first d n left right place none = record {
  none = λ x m.
      let p = follows d n left right x m in before_held d place x p.first p.holds_first (none.none p.first p.of_first);
}
