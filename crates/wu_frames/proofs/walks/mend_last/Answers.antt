use Rattle.std.proofs.Common.{◌≡◌, ℕ, ◌<◌, [], ◌∷◌, length, ap, sym, ◌∙◌, subst}
use Rattle.std.specs.List.{HoldsAt}
use Rattle.lru.specs.LruCache.{LruCache}
use Rattle.wu_frames.specs.declared.Frame.{Frame}
use Rattle.wu_frames.specs.declared.Frames.{Frames}
use Rattle.wu_frames.specs.Mending.{IsCacheAfterMove, with_last}
use Rattle.wu_frames.proofs.Turns.{found-last, found-same, last-is, last-same, replaced-now}
use Rattle.wu_frames.proofs.Bringing.{brought-forgotten, brought-moved, brought-same}
use Rattle.wu_frames.proofs.walks.mend_last.Goals as goal

pub returns-in-None-clause-entries : goal.returns-in-None-clause-entries
returns-in-None-clause-entries c = λ rest entry e.
    let peeked = last-same c.args.kept.now.entries rest entry c.in-Some.uid.now c.in-Some.frames.now e c.in-Some.ensures in (
      entry ∷ [],
      c.last_to_front.ensures.entries rest entry e,
      subst (λ (x : ℕ × Frames). IsCacheAfterMove c.args.ino c.args.old c.args.new (x ∷ []) (x ∷ [])) peeked
          (brought-same c.args.ino c.args.old c.args.new c.in-Some.uid.now c.in-Some.frames.now
          (λ up. rw (← c.as_slice.ensures) (c.in-None.ensures.none (rw c.as_slice.ensures up)))),
    )

pub returns-in-None-moved-clause-entries : goal.returns-in-None-moved-clause-entries
returns-in-None-moved-clause-entries c = λ rest entry e.
    let now = c.args.kept.now.entries in
    let frames = c.in-Some.frames.now in
    let place = c.in-Some-place_of.place in
    let peeked = last-same now rest entry c.in-Some.uid.now frames e c.in-Some.ensures in
    let inside : place < length frames.by_address = rw (← c.as_slice.ensures) c.in-Some-place_of.ensures.found in
    let starts : HoldsAt (λ (x : Frame). x.range.start ≡ c.args.old.start) frames.by_address place =
    rw (← c.as_slice.ensures) c.in-Some-place_of.ensures.there in (
      [],
      ap (λ (k : LruCache ℕ Frames). k.entries) c.pop_lru.ensures.entries ∙ (last-is now rest entry e).1,
      subst (λ (x : ℕ × Frames). IsCacheAfterMove c.args.ino c.args.old c.args.new (x ∷ []) []) peeked
          (brought-forgotten c.args.ino c.args.old c.args.new c.in-Some.uid.now place frames inside starts c.in-None-moved.ensures.none),
    )

pub mend-requires : goal.mend-requires
mend-requires c =
    let found =
    found-same c.args.kept.now.entries c.in-Some.uid.now c.in-Some.frames.now c.in-Some-get_mut.frames.now c.in-Some.ensures
    c.len.ensures.valid.0 c.in-Some-get_mut.ensures.value in
    let may = c.in-Some-moved.ensures.may in
    rw found (record { frame = rw (← c.as_slice.ensures) c.in-Some-place_of.ensures.found; range = may.ranges; few = may.few })

pub returns-in-Some-get_mut-clause-entries : goal.returns-in-Some-get_mut-clause-entries
returns-in-Some-get_mut-clause-entries c = λ rest entry e.
    let now = c.args.kept.now.entries in
    let uid = c.in-Some.uid.now in
    let frames = c.in-Some.frames.now in
    let place = c.in-Some-place_of.place in
    let last = c.in-Some-moved.last in
    let sum = c.in-Some-moved.sum in
    let apart = c.len.ensures.valid.0 in
    let peeked = last-same now rest entry uid frames e c.in-Some.ensures in
    let found = found-same now uid frames c.in-Some-get_mut.frames.now c.in-Some.ensures apart c.in-Some-get_mut.ensures.value in
    let is = c.mend.ensures ∙ ap (λ (f : Frames). with_last place last sum f) found in
    let inside : place < length frames.by_address = rw (← c.as_slice.ensures) c.in-Some-place_of.ensures.found in
    let starts : HoldsAt (λ (x : Frame). x.range.start ≡ c.args.old.start) frames.by_address place =
    rw (← c.as_slice.ensures) c.in-Some-place_of.ensures.there in
    let brought =
    brought-moved c.args.ino c.args.old c.args.new uid place frames inside starts last sum c.in-Some-moved.ensures.may in (
      (entry.0, c.mend.new.frames) ∷ [],
      replaced-now now rest entry uid c.mend.new.frames e (ap (λ (x : ℕ × Frames). x.0) peeked) apart,
      subst (λ (x : ℕ × Frames). IsCacheAfterMove c.args.ino c.args.old c.args.new (x ∷ []) ((x.0, c.mend.new.frames) ∷ [])) peeked
          (subst (λ (f : Frames). IsCacheAfterMove c.args.ino c.args.old c.args.new ((uid, frames) ∷ []) ((uid, f) ∷ [])) (sym is) brought),
    )

pub returns-in_default-get_mut-clause-entries : goal.returns-in_default-get_mut-clause-entries
returns-in_default-get_mut-clause-entries c = λ rest entry e.
    let hers = found-last c.args.kept.now.entries c.in-Some.uid.now c.in-Some.frames.now c.in-Some.ensures c.len.ensures.valid.0 in
    let none = c.in_default-get_mut.ensures.value in
    absurd (cc)
