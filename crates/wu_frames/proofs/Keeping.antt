-- What is kept of users after one asked or was put in.
use Rattle.std.proofs.Common.{◌≡◌, ℕ, zero, suc, ◌-◌, ◌<◌, ◌≤◌, true, false, cond, List, [], ◌∷◌, length, take, nat_eq, refl, ap, sym, ◌∙◌}
use Rattle.std.proofs.Common.{subst, arith}
use Rattle.std.specs.Prelude.{Option, None, Some, IsSome, is_some}
use Rattle.std.specs.Option.{option_map_or}
use Rattle.std.specs.List.{AllByRecursion}
use Rattle.std.specs.Map.{lookup, lookup_entry, remove_entry, set_value}
use Rattle.std.specs.Cmp.{nat_eq_equiv}
use Rattle.std.proofs.lemmas.Bool.{eqb-true}
use Rattle.std.proofs.lemmas.List.{take_all}
use Rattle.std.proofs.lemmas.Map.{none_passes_from_lookup}
use Rattle.std.proofs.lemmas.Option.{none-some}
use Rattle.lru.specs.LruCache.{LruCache, promoted, put_entries}
use Rattle.lru.proofs.CallerLemmas.{Contains-lookup_entry, lookup-put_entries}
use Rattle.lru.proofs.Pairs.{lookup-lookup_entry}
use Rattle.wu_base.proofs.Members.{Has-from_Contains, all_has}
use Rattle.wu_base.proofs.MapEntries.{All-remove_entry, All-found, All-set_value}
use Rattle.wu_tree.specs.FileSystems.{FileSystem}
use Rattle.wu_space.specs.Addresses.{Ranges}
use Rattle.wu_frames.specs.declared.Frames.{Frames}
use Rattle.wu_frames.specs.declared.caches.TheConstants.{USERS_KEPT}
use Rattle.wu_frames.specs.UserFrames.{CacheMatchesTree, AreFrames, AskedLast, HasAsked, Kept, after_asked, frames_for}
use Rattle.wu_frames.proofs.Turns.{passed-none}

All-take : {X : Type 0} (P : X → Type 0) (n : ℕ) (xs : List X) → AllByRecursion P xs → AllByRecursion P (take n xs)
All-take P zero xs a = tt
All-take P (suc n) [] a = tt
All-take P (suc n) (x ∷ xs) a = (a.0, All-take P n xs a.1)

-- what holds of each entry
module _ (P : ℕ × Frames → Type 0) where
  pub all-promoted : (uid : ℕ) (kept : Kept) → AllByRecursion P kept → AllByRecursion P (promoted (nat_eq uid) kept)
  all-promoted uid kept a =
      elim (lookup_entry (nat_eq uid) kept) as
      (λ o. lookup_entry (nat_eq uid) kept ≡ o
      → AllByRecursion P (option_map_or (λ (e : ℕ × Frames). e ∷ remove_entry (nat_eq uid) kept) o kept)) [
        | None ↦ λ e. a
        | Some entry ↦ λ e.
            let there = Contains-lookup_entry (nat_eq uid) kept entry e in
            (all_has P entry kept a (Has-from_Contains entry kept there.0), All-remove_entry P (nat_eq uid) kept a)
      ] refl

  pub all-put : (cache : LruCache ℕ Frames) (uid : ℕ) (frames : Frames) → AllByRecursion P cache.entries → P (uid, frames)
      → AllByRecursion P (put_entries nat_eq cache uid frames)
  all-put cache uid frames a p =
      elim (lookup_entry (nat_eq uid) cache.entries) as
      (λ o. lookup_entry (nat_eq uid) cache.entries ≡ o
      → AllByRecursion P
      (option_map_or (λ (e : ℕ × Frames). (e.0, frames) ∷ remove_entry (nat_eq uid) cache.entries) o
      ((uid, frames) ∷ take (cache.cap - 1) cache.entries))) [
        | None ↦ λ e. (p, All-take P (cache.cap - 1) cache.entries a)
        | Some entry ↦ λ e.
            let there = Contains-lookup_entry (nat_eq uid) cache.entries entry e in
            let same : uid ≡ entry.0 = eqb-true uid entry.0 there.1 in
            (subst (λ (n : ℕ). P (n, frames)) same p, All-remove_entry P (nat_eq uid) cache.entries a)
      ] refl

module _ (fs : FileSystem) (live : Ranges) where
  abbrev IsRight : ℕ × Frames → Type 0
  IsRight entry = AreFrames fs live entry.0 entry.1

  pub right-put : (cache : LruCache ℕ Frames) (uid : ℕ) (frames : Frames) → CacheMatchesTree fs live cache.entries → AreFrames fs live uid frames
      → CacheMatchesTree fs live (put_entries nat_eq cache uid frames)
  right-put cache uid frames a p = all-put IsRight cache uid frames a p

  pub right-found : (uid : ℕ) (kept : Kept) (frames : Frames) → CacheMatchesTree fs live kept → Some frames ≡ frames_for kept uid
      → AreFrames fs live uid frames
  right-found uid kept frames a h =
      let r = All-found IsRight (nat_eq uid) kept frames a (sym h) in
      subst (λ (n : ℕ). AreFrames fs live n frames) (sym (eqb-true uid r.0 r.1)) r.2

  -- frames that were right, with another count of changes
  right-counted : (uid mends : ℕ) (frames : Frames) → AreFrames fs live uid frames → AreFrames fs live uid (record frames { mends = mends })
  right-counted uid mends frames a =
      record { view = a.view; of_view = a.of_view; ascending = a.ascending; ranges_alone = a.ranges_alone; sum = a.sum }

  pub right-asked : (uid : ℕ) (kept : Kept) (frames : Frames) → CacheMatchesTree fs live kept → Some frames ≡ frames_for kept uid
      → CacheMatchesTree fs live (set_value (nat_eq uid) (promoted (nat_eq uid) kept) (record frames { mends = 0 }))
  right-asked uid kept frames a h =
      All-set_value IsRight (nat_eq uid) (promoted (nat_eq uid) kept) (record frames { mends = 0 }) (all-promoted IsRight uid kept a)
      (λ n q. subst (λ (k : ℕ). AreFrames fs live k (record frames { mends = 0 })) (eqb-true uid n q)
      (right-counted uid 0 frames (right-found uid kept frames a h)))

found-set : (uid : ℕ) (kept : Kept) (frames : Frames) → IsSome (frames_for kept uid)
    → IsSome (frames_for (set_value (nat_eq uid) kept frames) uid)
found-set uid [] frames h = h
found-set uid (entry ∷ kept) frames h =
    elim (nat_eq uid entry.0) as
    (λ b. nat_eq uid entry.0 ≡ b → IsSome (cond b (Some entry.1) (frames_for kept uid))
    → IsSome (lookup (nat_eq uid) (cond b ((entry.0, frames) ∷ kept) (entry ∷ set_value (nat_eq uid) kept frames)))) [
      | true ↦ λ p g. rw p refl
      | false ↦ λ p g. rw p (found-set uid kept frames g)
    ] refl h

pub kept-promoted : (uid : ℕ) (kept : Kept) → true ≡ is_some (frames_for kept uid) → IsSome (frames_for (promoted (nat_eq uid) kept) uid)
kept-promoted uid kept h =
    elim (lookup_entry (nat_eq uid) kept) as
    (λ o. lookup_entry (nat_eq uid) kept ≡ o
    → IsSome (lookup (nat_eq uid) (option_map_or (λ (e : ℕ × Frames). e ∷ remove_entry (nat_eq uid) kept) o kept))) [
      | None ↦ λ e. rw (← h) refl
      | Some entry ↦ λ e. let there = Contains-lookup_entry (nat_eq uid) kept entry e in rw there.1 refl
    ] refl

pub kept-put : (cache : LruCache ℕ Frames) (uid : ℕ) (frames : Frames) → IsSome (frames_for (put_entries nat_eq cache uid frames) uid)
kept-put cache uid frames = rw (lookup-put_entries nat_eq cache uid frames nat_eq_equiv) refl

pub kept-asked : (uid : ℕ) (kept : Kept) (frames now : Frames) → Some frames ≡ frames_for kept uid
    → IsSome (frames_for (set_value (nat_eq uid) (promoted (nat_eq uid) kept) now) uid)
kept-asked uid kept frames now h = found-set uid (promoted (nat_eq uid) kept) now (kept-promoted uid kept (ap is_some h))

-- a user for whom there are none isn't one who has some
pub absent : (uid : ℕ) (kept now : Kept) → None ≡ frames_for kept uid → kept ≡ now → IsSome (frames_for now uid) → ⊥
absent uid kept now none e some =
    let same : None ≡ frames_for now uid = subst (λ (k : Kept). None ≡ frames_for k uid) e none in
    let both : is_some {T = Frames} None ≡ true = ap (λ (o : Option Frames). is_some o) same ∙ some in absurd cc

-- who asks, or is put in, is the one who asked last

pub asked-put : (cache : LruCache ℕ Frames) (uid : ℕ) (frames : Frames) → frames.mends ≡ 0
    → AskedLast uid (put_entries nat_eq cache uid frames)
asked-put cache uid frames anew =
    elim (lookup_entry (nat_eq uid) cache.entries) as
    (λ o. lookup_entry (nat_eq uid) cache.entries ≡ o
    → AskedLast uid
    (option_map_or (λ (e : ℕ × Frames). (e.0, frames) ∷ remove_entry (nat_eq uid) cache.entries) o
    ((uid, frames) ∷ take (cache.cap - 1) cache.entries))) [
      | None ↦ λ e. (refl, anew)
      | Some entry ↦ λ e. (sym (eqb-true uid entry.0 (Contains-lookup_entry (nat_eq uid) cache.entries entry e).1), anew)
    ] refl

pub asked-again : (uid : ℕ) (kept : Kept) (frames now : Frames) → Some frames ≡ frames_for kept uid → now.mends ≡ 0
    → AskedLast uid (set_value (nat_eq uid) (promoted (nat_eq uid) kept) now)
asked-again uid kept frames now h anew =
    elim (lookup_entry (nat_eq uid) kept) as
    (λ o. lookup_entry (nat_eq uid) kept ≡ o
    → AskedLast uid (set_value (nat_eq uid) (option_map_or (λ (e : ℕ × Frames). e ∷ remove_entry (nat_eq uid) kept) o kept) now)) [
      | None ↦ λ e. let none = lookup-lookup_entry (nat_eq uid) kept in let none' = rw e at none in cc
      | Some entry ↦ λ e.
          let same = (Contains-lookup_entry (nat_eq uid) kept entry e).1 in
          rw same (sym (eqb-true uid entry.0 same), anew)
    ] refl

-- exactly what is kept then

shorter-without : (uid : ℕ) (kept : Kept) (frames : Frames) → Some frames ≡ frames_for kept uid
    → length (remove_entry (nat_eq uid) kept) < length kept
shorter-without uid [] frames h = absurd (none-some frames (sym h))
shorter-without uid (entry ∷ kept) frames h =
    elim (nat_eq uid entry.0) as
    (λ b. Some frames ≡ cond b (Some entry.1) (frames_for kept uid)
    → length (cond b kept (entry ∷ remove_entry (nat_eq uid) kept)) < suc (length kept)) [
      | true ↦ λ g. omega arith
      | false ↦ λ g. omega (arith, shorter-without uid kept frames g)
    ] h

promoted-is : (uid : ℕ) (kept : Kept) (frames now : Frames) → Some frames ≡ frames_for kept uid → length kept ≤ USERS_KEPT
    → set_value (nat_eq uid) (promoted (nat_eq uid) kept) now ≡ after_asked uid now kept
promoted-is uid kept frames now h few =
    let rest : Kept = remove_entry (nat_eq uid) kept in
    elim (lookup_entry (nat_eq uid) kept) as
    (λ o. lookup_entry (nat_eq uid) kept ≡ o
    → set_value (nat_eq uid) (option_map_or (λ (e : ℕ × Frames). e ∷ rest) o kept) now ≡ after_asked uid now kept) [
      | None ↦ λ e. let none = lookup-lookup_entry (nat_eq uid) kept in let none' = rw e at none in cc
      | Some entry ↦ λ e.
          let same = (Contains-lookup_entry (nat_eq uid) kept entry e).1 in
          let all : take (USERS_KEPT - 1) rest ≡ rest =
          take_all (USERS_KEPT - 1) rest (omega (arith, few, shorter-without uid kept frames h)) in
          rw (same, all) (ap (λ (n : ℕ). (n, now) ∷ rest) (sym (eqb-true uid entry.0 same)))
    ] refl

pub has-asked-again : (uid : ℕ) (kept : Kept) (frames : Frames) → Some frames ≡ frames_for kept uid → length kept ≤ USERS_KEPT
    → HasAsked uid kept (set_value (nat_eq uid) (promoted (nat_eq uid) kept) (record frames { mends = 0 }))
has-asked-again uid kept frames h few = record {
  hers = record frames { mends = 0 };
  entries = promoted-is uid kept frames (record frames { mends = 0 }) h few;
  unmended = refl;
  same = rw (← h) refl;
}

pub has-asked-put : (cache : LruCache ℕ Frames) (uid : ℕ) (frames : Frames) → cache.cap ≡ USERS_KEPT → frames.mends ≡ 0
    → None ≡ frames_for cache.entries uid → HasAsked uid cache.entries (put_entries nat_eq cache uid frames)
has-asked-put cache uid frames room anew h =
    let none = passed-none (nat_eq uid) cache.entries (none_passes_from_lookup (nat_eq uid) cache.entries (sym h)) in
    record {
      hers = frames;
      entries = rw (none.0, none.1, room) refl;
      unmended = anew;
      same = rw (← h) tt;
    }
