-- A log after a crash: what the code builds is what is defined, and a crash may leave it.
use Rattle.std.proofs.Common.{◌≡◌, ℕ, ◌+◌, ◌-◌, ◌≤◌, ◌==◌, List, [], ◌∷◌, ◌++◌, length, take, drop, reverse, Bool, true, false, cond, T}
use Rattle.std.proofs.Common.{◌⊎◌, inl, inr, Option, Some, None, refl, sym, ap, ◌∙◌, subst, arith, add-one, append_assoc, eqb→eq}
use Rattle.std.proofs.lemmas.List.{reverse-append, length-reverse, length-drop, length-take-le, take-append-drop}
use Rattle.std.proofs.Math.Seq.{take-append_seam, drop-append_seam}
use Rattle.wu_outside.specs.Crash.{MayBlobBe, MixesChanges, MayLeave}
use Rattle.wu_outside.specs.Logs.{moments_of, content_of, changes_since_sync, is_kept, left_of, left_of_all, crash_log}
use Rattle.wu_outside.specs.declared.logs.Entry.{Entry}
use Rattle.wu_outside.specs.declared.logs.Entry.TheVariants.{HasPut, HasRemoved, HasSetRoot, HasSynced}

-- cut at the last sync, the log after a crash is in two parts
pub crash_in_two : (choice : ℕ) (log : List Entry) (start : ℕ) → changes_since_sync (reverse log) ≤ length log
    → start ≡ length log - changes_since_sync (reverse log)
    → left_of_all choice (reverse (drop start log)) ++ reverse (take start log) ≡ crash_log choice (reverse log)
crash_in_two choice log start within cut =
    let since = changes_since_sync (reverse log) in
    let newer = reverse (drop start log) in
    let older = reverse (take start log) in
    let parts : reverse log ≡ newer ++ older =
    ap reverse (sym (take-append-drop start log)) ∙ reverse-append (take start log) (drop start log) in
    let long : length newer ≡ length log - start = length-reverse (drop start log) ∙ length-drop start log in
    let fits : length newer ≡ since = omega arith in
    let front : take since (reverse log) ≡ newer =
    ap (take since) parts ∙ ap (λ n. take n (newer ++ older)) (sym fits) ∙ take-append_seam newer older in
    let back : drop since (reverse log) ≡ older =
    ap (drop since) parts ∙ ap (λ n. drop n (newer ++ older)) (sym fits) ∙ drop-append_seam newer older in
    sym (ap (λ xs. left_of_all choice xs ++ drop since (reverse log)) front ∙ ap (λ ys. left_of_all choice newer ++ ys) back)

-- no more changes than entries came after the last sync
within_log : (log : List Entry) → changes_since_sync log ≤ length log
within_log [] = omega arith
within_log (HasPut blob bytes ∷ earlier) = let more = within_log earlier in omega arith
within_log (HasRemoved blob ∷ earlier) = let more = within_log earlier in omega arith
within_log (HasSetRoot bytes ∷ earlier) = let more = within_log earlier in omega arith
within_log (HasSynced ∷ earlier) = omega arith

-- one more change is left, or not, by its own bit
crash_more : (choice since : ℕ) (entry : Entry) (earlier : List Entry) → since ≤ length earlier
    → left_of_all choice (take (since + 1) (entry ∷ earlier)) ++ drop (since + 1) (entry ∷ earlier)
    ≡ left_of (is_kept choice since) entry ++ (left_of_all choice (take since earlier) ++ drop since earlier)
crash_more choice since entry earlier within =
    rw add-one
    (rw (length-take-le since earlier within)
    (append_assoc (left_of (is_kept choice since) entry) (left_of_all choice (take since earlier)) (drop since earlier)))

-- a blob that was put may be anything
put_blob : (blob other : ℕ) (here : Bool) (new old : Option (List ℕ)) (P : Option (List ℕ) → Type 0)
    → (T here → blob ≡ other) → P old → (blob ≡ other) ⊎ P (cond here new old)
put_blob blob other true new old P same kept = inl (same tt)
put_blob blob other false new old P same kept = inr kept

-- a blob that was removed may be absent
removed_blob : (blob other : ℕ) (here : Bool) (old : Option (List ℕ)) (P : Option (List ℕ) → Type 0)
    → (T here → blob ≡ other) → P old → ((blob ≡ other) × (cond here None old ≡ None)) ⊎ P (cond here None old)
removed_blob blob other true old P same kept = inl (same tt, refl)
removed_blob blob other false old P same kept = inr kept

after_put : (kept : Bool) (blob : ℕ) (bytes : List ℕ) (earlier left : List Entry) → MixesChanges (moments_of earlier).now (content_of left)
    → MixesChanges (moments_of (HasPut blob bytes ∷ earlier)).now (content_of (left_of kept (HasPut blob bytes) ++ left))
after_put true blob bytes earlier left partly = record {
  blobs = λ other. put_blob other blob (other == blob) (Some bytes) ((content_of left).blobs other)
      (MayBlobBe (moments_of earlier).now.tried other ((moments_of earlier).now.synced.blobs other))
      (eqb→eq other blob) (partly.blobs other);
  root = partly.root;
}
after_put false blob bytes earlier left partly = record {
  blobs = λ other. put_blob other blob (other == blob) None ((content_of left).blobs other)
      (MayBlobBe (moments_of earlier).now.tried other ((moments_of earlier).now.synced.blobs other))
      (eqb→eq other blob) (partly.blobs other);
  root = partly.root;
}

after_removal : (kept : Bool) (blob : ℕ) (earlier left : List Entry) → MixesChanges (moments_of earlier).now (content_of left)
    → MixesChanges (moments_of (HasRemoved blob ∷ earlier)).now (content_of (left_of kept (HasRemoved blob) ++ left))
after_removal true blob earlier left partly = record {
  blobs = λ other. removed_blob other blob (other == blob) ((content_of left).blobs other)
      (MayBlobBe (moments_of earlier).now.tried other ((moments_of earlier).now.synced.blobs other))
      (eqb→eq other blob) (partly.blobs other);
  root = partly.root;
}
after_removal false blob earlier left partly = record { blobs = λ other. inr (partly.blobs other); root = partly.root }

after_root : (kept : Bool) (bytes : List ℕ) (earlier left : List Entry) → MixesChanges (moments_of earlier).now (content_of left)
    → MixesChanges (moments_of (HasSetRoot bytes ∷ earlier)).now (content_of (left_of kept (HasSetRoot bytes) ++ left))
after_root true bytes earlier left partly = record { blobs = partly.blobs; root = inl refl }
after_root false bytes earlier left partly = record { blobs = partly.blobs; root = inr partly.root }

-- what is left of a log is in part what was done
crash_partly : (choice : ℕ) (log : List Entry) → MixesChanges (moments_of log).now (content_of (crash_log choice log))
crash_partly choice [] = record { blobs = λ _. refl; root = refl }
crash_partly choice (HasSynced ∷ earlier) = record { blobs = λ _. refl; root = refl }
crash_partly choice (HasPut blob bytes ∷ earlier) =
    let since = changes_since_sync earlier in
    let more = crash_more choice since (HasPut blob bytes) earlier (within_log earlier) in
    let P : List Entry → Type 0 = λ left. MixesChanges (moments_of (HasPut blob bytes ∷ earlier)).now (content_of left) in
    subst P (sym more) (after_put (is_kept choice since) blob bytes earlier (crash_log choice earlier) (crash_partly choice earlier))
crash_partly choice (HasRemoved blob ∷ earlier) =
    let since = changes_since_sync earlier in
    let more = crash_more choice since (HasRemoved blob) earlier (within_log earlier) in
    let P : List Entry → Type 0 = λ left. MixesChanges (moments_of (HasRemoved blob ∷ earlier)).now (content_of left) in
    subst P (sym more) (after_removal (is_kept choice since) blob earlier (crash_log choice earlier) (crash_partly choice earlier))
crash_partly choice (HasSetRoot bytes ∷ earlier) =
    let since = changes_since_sync earlier in
    let more = crash_more choice since (HasSetRoot bytes) earlier (within_log earlier) in
    let P : List Entry → Type 0 = λ left. MixesChanges (moments_of (HasSetRoot bytes ∷ earlier)).now (content_of left) in
    subst P (sym more) (after_root (is_kept choice since) bytes earlier (crash_log choice earlier) (crash_partly choice earlier))

-- a crash may leave it
pub crash_may_leave : (choice : ℕ) (log : List Entry) → MayLeave (moments_of log).now (content_of (HasSynced ∷ crash_log choice log))
crash_may_leave choice log = inr (crash_partly choice log)
