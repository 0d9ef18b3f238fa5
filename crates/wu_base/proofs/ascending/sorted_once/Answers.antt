use Rattle.std.proofs.Common.{◌∙◌, sym}
use Rattle.std.proofs.lemmas.List.Filters.{dedup_is}
use Rattle.std.proofs.lemmas.List.Kept.{IsStrictlySortedBy-dedup, Contains-dedup, Contains-from_dedup}
use Rattle.std.proofs.lemmas.List.Sorted.{Contains-permutation, IsPermutation-sym}
use Rattle.std.proofs.lemmas.Map.Views.{tells_apart}
use Rattle.wu_base.proofs.Members.{Has-from_Contains, Contains-from_Has}
use Rattle.wu_base.proofs.SortedLists.{sorted_once_is}
use Rattle.wu_base.proofs.ascending.sorted_once.Goals as goal

pub returns-clause-ascending : goal.returns-clause-ascending
returns-clause-ascending g c =
    let is = dedup_is _ _ _ c.dedup.ensures.filtered in
    rw is (IsStrictlySortedBy-dedup g.met.T.Ord.total g.met.T.Ord.matches_eq _ c.sort_unstable.ensures.sorted)

pub returns-clause-members : goal.returns-clause-members
returns-clause-members g c = λ q.
    let is = dedup_is _ _ _ c.dedup.ensures.filtered in
    let moved = c.sort_unstable.ensures.permutation in
    let ties = g.met.T.Ord.matches_eq in (
      λ h. Contains-permutation _ _ q (IsPermutation-sym _ _ moved) (Contains-from_dedup _ _ q (rw is at h)),
      λ h.
          rw is
          (Contains-dedup g.met.T.Eq.laws
          (λ x y e. tells_apart c.requires.exact x y (sym (ties x y) ∙ e))
          _ q (Contains-permutation _ _ q moved h)),
    )

pub returns-clause-items : goal.returns-clause-items
returns-clause-items g c =
    let has = returns-clause-members g c in
    sorted_once_is g.met.T.Ord.total c.requires.exact _ _
    (returns-clause-ascending g c)
    (λ q h. Has-from_Contains q _ ((has q).0 (Contains-from_Has q _ h)))
    (λ q h. Has-from_Contains q _ ((has q).1 (Contains-from_Has q _ h)))
