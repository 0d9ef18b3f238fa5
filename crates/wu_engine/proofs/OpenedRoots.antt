-- What is found of a root at opening, and the causes that this gives.
use Rattle.std.proofs.Common.{◌≡◌, ℕ, ◌<◌, true, false, cond, nat_le, List, length, refl, ap, sym, ◌∙◌, subst, arith, inl, take_all}
use Rattle.std.specs.Prelude.{Option, Some, None, IfOk, IfSome, OnOk, Result, Ok, Err}
use Rattle.std.proofs.lemmas.Bool.{leb-false}
use Rattle.wu_base.specs.declared.limits.TheConstants.{BLOBS_SPENT_AT, SPENT_AT}
use Rattle.wu_outside.specs.Content.{Content, GivesRoot}
use Rattle.wu_image.specs.declared.roots.Root.{Root}
use Rattle.wu_image.specs.Breakage.{IsBrokenRoot}
use Rattle.wu_image.specs.Roots.{SpellsRoot}
use Rattle.wu_image.proofs.RootLemmas.{same_root}
use Rattle.wu_engine.specs.declared.faults.BeginFault.{BeginFault}
use Rattle.wu_engine.specs.declared.faults.BeginFault.TheVariants as faults
use Rattle.wu_engine.specs.Opened.{FindsRoot, HasRoom, IsGivenRoot, IsRootFault, IsSpentBy}
use Rattle.wu_engine.specs.Opening.{HasRoot, IsBeginCause, IsDamagedAtOpening, IsSpentAt, IsSpentWhere, spent_of}

-- ---- the root

pub room_left : (root : Root) → spent_of root ≡ None → (root.next_address < SPENT_AT) × (root.next_blob < BLOBS_SPENT_AT)
room_left root =
    elim (nat_le SPENT_AT root.next_address) as
    (λ b. nat_le SPENT_AT root.next_address ≡ b
    → cond b (Some root.next_address) (cond (nat_le BLOBS_SPENT_AT root.next_blob) (Some root.next_blob) None) ≡ None
    → (root.next_address < SPENT_AT) × (root.next_blob < BLOBS_SPENT_AT)) [
      | true ↦ λ e n. absurd cc
      | false ↦ λ e.
          elim (nat_le BLOBS_SPENT_AT root.next_blob) as
          (λ b. nat_le BLOBS_SPENT_AT root.next_blob ≡ b → cond b (Some root.next_blob) None ≡ None
          → (root.next_address < SPENT_AT) × (root.next_blob < BLOBS_SPENT_AT)) [
            | true ↦ λ f n. absurd cc
            | false ↦ λ f n. (leb-false _ _ e, leb-false _ _ f)
          ] refl
    ] refl

-- ---- causes

-- the count is as it was, and the fault isn't the store's
pub calm_cause : (holds : Option Content) (before now : ℕ) (fault : BeginFault) → now ≡ before → (fault ≡ faults.StoreFault → ⊥)
    → ((number : ℕ) → fault ≡ faults.Spent number → IfSome holds (λ content. IsSpentAt content number))
    → ((blob : ℕ) → fault ≡ faults.Damaged blob → IfSome holds (λ content. IsDamagedAtOpening content blob))
    → IsBeginCause holds before now fault
calm_cause holds before now fault same other spent damaged = record {
  counted = omega (arith, same);
  store_fault = λ e. absurd (other e);
  calm = λ _. same;
  spent = spent;
  damaged = damaged;
}

abbrev damaged_blob : BeginFault → ℕ
damaged_blob faults.NoMemory = 0
damaged_blob faults.StoreFault = 0
damaged_blob (faults.Damaged blob) = blob
damaged_blob (faults.Spent number) = number

pub damage_cause : (holds : Option Content) (before now blob : ℕ) → now ≡ before
    → IfSome holds (λ content. IsDamagedAtOpening content blob) → IsBeginCause holds before now (faults.Damaged blob)
damage_cause holds before now blob same damaged =
    calm_cause holds before now (faults.Damaged blob) same (λ e. cc) (λ number e. absurd cc)
    (λ other e. subst (λ (b : ℕ). IfSome holds (λ content. IsDamagedAtOpening content b)) (ap damaged_blob e) damaged)

-- ---- a root that was read

root_given : (content : Content) (found : Option ℕ) (buffer : List ℕ) → GivesRoot content.root found buffer
    → found ≡ Some (length buffer) → content.root ≡ Some buffer
root_given content found buffer =
    elim content.root as (λ r. GivesRoot r found buffer → found ≡ Some (length buffer) → r ≡ Some buffer) [
      | None ↦ λ given whole. absurd (cc (given, whole))
      | Some bytes ↦ λ given whole.
          let same : length bytes ≡ length buffer = cc (given.0, whole) in
          ap (λ (b : List ℕ). Some b)
          (sym (take_all (length buffer) bytes (omega arith)) ∙ (sym given.1 ∙ take_all (length bytes) buffer (omega arith)))
    ]

-- the root that was given is the content's, and the content's is the one that was given
given_held : (content : Content) (count : ℕ) (buffer : List ℕ) → GivesRoot content.root (Some count) buffer → (root : Root)
    → IsGivenRoot count buffer root → HasRoot content root
given_held content count buffer given root is = record {
  code = buffer;
  there = root_given content (Some count) buffer given (ap (λ (n : ℕ). Some n) is.whole);
  spelled = is.spelled;
}

held_given : (content : Content) (count : ℕ) (buffer : List ℕ) → length buffer ≡ 40 → GivesRoot content.root (Some count) buffer
    → (root : Root) → HasRoot content root → IsGivenRoot count buffer root
held_given content count buffer long given root has =
    let told : GivesRoot (Some has.code) (Some count) buffer =
    subst (λ (r : Option (List ℕ)). GivesRoot r (Some count) buffer) has.there given in
    let counted : count ≡ length has.code = let e : Some count ≡ Some (length has.code) = told.0 in cc in
    let code_long : length has.code ≡ 40 = ap (λ (bytes : List ℕ). length bytes) has.spelled.spelled in
    let whole : count ≡ length buffer = omega (arith, counted, code_long, long) in
    let held : content.root ≡ Some buffer = root_given content (Some count) buffer given (ap (λ (n : ℕ). Some n) whole) in
    let same : has.code ≡ buffer = cc (held, has.there) in
    record { whole = whole; spelled = subst (SpellsRoot root) same has.spelled }

none_held : (content : Content) (count : ℕ) (buffer : List ℕ) → length buffer ≡ 40 → GivesRoot content.root (Some count) buffer
    → ((root : Root) → IsGivenRoot count buffer root → ⊥) → IsBrokenRoot content.root
none_held content count buffer long given none =
    elim content.root as (λ r. content.root ≡ r → GivesRoot r (Some count) buffer → IsBrokenRoot r) [
      | None ↦ λ e told. let never : Some count ≡ None = told in absurd cc
      | Some bytes ↦ λ e told root spelled.
          none root (held_given content count buffer long given root (record { code = bytes; there = e; spelled = spelled }))
    ] refl given

module _ (holds : Option Content) (count : ℕ) (buffer : List ℕ)
    (given : IfSome holds (λ content. GivesRoot content.root (Some count) buffer)) where
  -- it leaves room
  pub finds_root : (root : Root) → IsGivenRoot count buffer root → HasRoom root → IfSome holds (FindsRoot (Some root))
  finds_root root is room = found holds given
    where
      found : (held : Option Content) → IfSome held (λ content. GivesRoot content.root (Some count) buffer)
          → IfSome held (FindsRoot (Some root))
      found None told = tt
      found (Some content) told = record { has = given_held content count buffer told root is; unspent = room.unspent }

  pub unspent_where : {T : Type 0} → length buffer ≡ 40 → (root : Root) → IsGivenRoot count buffer root → HasRoom root
      → (r : Result T BeginFault) → IsSpentWhere holds r
  unspent_where {T} long root is room r = never holds given
    where
      never : (held : Option Content) → IfSome held (λ content. GivesRoot content.root (Some count) buffer) → IsSpentWhere held r
      never None told = tt
      never (Some content) told = λ number spent.
          let its : IsGivenRoot count buffer spent.0 = held_given content count buffer long told spent.0 spent.1 in
          let same : root ≡ spent.0 = same_root root spent.0 buffer is.spelled its.spelled in
          let none : spent_of spent.0 ≡ None = subst (λ (its_root : Root). spent_of its_root ≡ None) same room.unspent in
          let never : None ≡ Some number = sym none ∙ spent.2 in
          absurd cc

  -- a fault of the root
  damaged_by : length buffer ≡ 40 → ((root : Root) → IsGivenRoot count buffer root → ⊥)
      → IfSome holds (λ content. IsDamagedAtOpening content 0)
  damaged_by long none = broken holds given
    where
      broken : (held : Option Content) → IfSome held (λ content. GivesRoot content.root (Some count) buffer)
          → IfSome held (λ content. IsDamagedAtOpening content 0)
      broken None told = tt
      broken (Some content) told = inl (refl, none_held content count buffer long told none)

  spent_by : (number : ℕ) (root : Root) → IsGivenRoot count buffer root → spent_of root ≡ Some number
      → IfSome holds (λ content. IsSpentAt content number)
  spent_by number root is none = spent holds given
    where
      spent : (held : Option Content) → IfSome held (λ content. GivesRoot content.root (Some count) buffer)
          → IfSome held (λ content. IsSpentAt content number)
      spent None told = tt
      spent (Some content) told = (root, given_held content count buffer told root is, none)

  pub root_cause : (before now : ℕ) → now ≡ before → length buffer ≡ 40 → (fault : BeginFault) → IsRootFault count buffer fault
      → IsBeginCause holds before now fault
  root_cause before now same long faults.NoMemory is = absurd is
  root_cause before now same long faults.StoreFault is = absurd is
  root_cause before now same long (faults.Damaged blob) is =
      damage_cause holds before now blob same
      (subst (λ (b : ℕ). IfSome holds (λ content. IsDamagedAtOpening content b)) (sym is.0) (damaged_by long is.1))
  root_cause before now same long (faults.Spent number) is =
      calm_cause holds before now (faults.Spent number) same (λ e. cc)
      (λ other e. subst (λ (n : ℕ). IfSome holds (λ content. IsSpentAt content n)) (ap damaged_blob e) (spent_by number is.0 is.1 is.2))
      (λ blob e. absurd cc)

  pub root_spent : {T : Type 0} → length buffer ≡ 40 → (fault : BeginFault) → IsRootFault count buffer fault
      → (r : Result T BeginFault) → r ≡ Err fault → IsSpentWhere holds r
  root_spent {T} long fault refused r is = told_spent holds given
    where
      same_fault : (other : Root) → IsGivenRoot count buffer other → (number : ℕ) → spent_of other ≡ Some number → (f : BeginFault)
          → IsRootFault count buffer f → f ≡ faults.Spent number
      same_fault other its number spent faults.NoMemory h = absurd h
      same_fault other its number spent faults.StoreFault h = absurd h
      same_fault other its number spent (faults.Damaged blob) h = absurd (h.1 other its)
      same_fault other its number spent (faults.Spent n) h =
          let same : h.0 ≡ other = same_root h.0 other buffer h.1.spelled its.spelled in
          let first : spent_of other ≡ Some n = subst (λ (its_root : Root). spent_of its_root ≡ Some n) same h.2 in
          let numbers : Some n ≡ Some number = sym first ∙ spent in
          let same_number : n ≡ number = cc in
          ap (λ (k : ℕ). faults.Spent k) same_number

      told_spent : (held : Option Content) → IfSome held (λ content. GivesRoot content.root (Some count) buffer) → IsSpentWhere held r
      told_spent None told = tt
      told_spent (Some content) told = λ number spent.
          let its : IsGivenRoot count buffer spent.0 = held_given content count buffer long told spent.0 spent.1 in
          inl (is ∙ ap (λ (f : BeginFault). Err f) (same_fault spent.0 its number spent.2 fault refused))

-- a root that leaves room is opened, and by another's number it is told that there is none
pub opened_given : (count : ℕ) (bytes : List ℕ) (root : Root) (r : Result Root BeginFault) → IsGivenRoot count bytes root
    → IfOk r (λ opened. opened ≡ root) → IfOk r (IsGivenRoot count bytes)
opened_given count bytes root (Ok opened) given same = subst (IsGivenRoot count bytes) (sym same) given
opened_given count bytes root (Err fault) given same = tt

pub opened_room : (root : Root) (bytes : List ℕ) (r : Result Root BeginFault) → SpellsRoot root bytes
    → IfOk r (λ opened. opened ≡ root) → OnOk r (spent_of root ≡ None) → IfOk r HasRoom
opened_room root bytes (Ok opened) spelled same unspent =
    subst HasRoom (sym same) (record { version = spelled.version; unspent = unspent; drawn = omega (arith, spelled.some, spelled.drawn) })
opened_room root bytes (Err fault) spelled same unspent = tt

pub spent_fault : (count : ℕ) (bytes : List ℕ) (root : Root) → IsGivenRoot count bytes root → (fault : BeginFault)
    → IsSpentBy root fault → IsRootFault count bytes fault
spent_fault count bytes root given faults.NoMemory is = absurd is
spent_fault count bytes root given faults.StoreFault is = absurd is
spent_fault count bytes root given (faults.Damaged blob) is = absurd is
spent_fault count bytes root given (faults.Spent number) is = (root, given, is)
