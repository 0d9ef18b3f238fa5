-- What each call of a store leaves to a crash, and how calls compose, so that no layer above looks into a crash.
use Rattle.std.proofs.Common.{◌≡◌, ℕ, ◌==◌, List, [], ◌∷◌, ◌++◌, T, Bool, true, false, cond, ◌⊎◌, inl, inr, Option, Some, None, Result, Ok}
use Rattle.std.proofs.Common.{Err, option_map, refl, sym, ap, ◌∙◌, subst, append_assoc, eq-eqb, eqb→eq, MatchResult}
use mathlib.Core.Path.{fun_ext}
use Rattle.std.proofs.lemmas.List.Elements.{All-append, All-cons, All-nil}
use Rattle.wu_outside.specs.Content.{Content, with_blob, with_root, MayDo, Does, Writes}
use Rattle.wu_outside.specs.Crash.{Change, Put, Remove, SetRoot, Moment, Moments, MayBlobBe, MayRootBe, MayLeave, LeftNow, try_change}
use Rattle.wu_outside.specs.Crash.{MayTry, settle, all_moments, AreAlike}
use Rattle.wu_outside.specs.Surviving.{LeavesNow, LeavesOnly, Leaves, IsLeft, IsSameIn, NamesOnly}
use Rattle.wu_outside.specs.declared.traits.Fault.{Fault}

-- a crash now leaves what is held and nothing else
abbrev pub IsDurable : Option Content → Option Moments → Type 0
IsDurable holds moments = (held : Content) → holds ≡ Some held → LeavesNow moments (λ left. left ≡ held)

-- a blob that doesn't matter to this kind of content
abbrev pub Ignores : (Content → Type 0) → ℕ → Type 0
Ignores Kind blob = (content : Content) (bytes : Option (List ℕ)) → Kind content → Kind (with_blob blob bytes content)

-- contents with equal blobs and equal roots are equal
pub same_content : (one other : Content) → ((blob : ℕ) → one.blobs blob ≡ other.blobs blob) → one.root ≡ other.root → one ≡ other
same_content one other blobs root =
    ap (λ f. record { blobs = f; root = one.root }) (fun_ext blobs) ∙ ap (λ r. record { blobs = other.blobs; root = r }) root

-- equal numbers pass the test
same_number : (m n : ℕ) → m ≡ n → T (m == n)
same_number m n e = subst T (sym (eq-eqb m n e)) tt

-- the test is passed by equal numbers alone
number_same : (m n : ℕ) → T (m == n) → m ≡ n
number_same m n t = eqb→eq m n t

-- what was at the sync is always allowed
was_blob : (tried : List Change) (blob : ℕ) (synced : Option (List ℕ)) → MayBlobBe tried blob synced synced
was_blob [] blob synced = refl
was_blob (Put other ∷ earlier) blob synced = inr (was_blob earlier blob synced)
was_blob (Remove other ∷ earlier) blob synced = inr (was_blob earlier blob synced)
was_blob (SetRoot bytes ∷ earlier) blob synced = was_blob earlier blob synced

was_root : (tried : List Change) (synced : Option (List ℕ)) → MayRootBe tried synced synced
was_root [] synced = refl
was_root (Put other ∷ earlier) synced = was_root earlier synced
was_root (Remove other ∷ earlier) synced = was_root earlier synced
was_root (SetRoot bytes ∷ earlier) synced = inr (was_root earlier synced)

-- a blob that is put back to what it was at the sync is allowed without the last change
put_back : (here : Bool) (tried : List Change) (blob changed : ℕ) (synced : ℕ → Option (List ℕ)) (left : Option (List ℕ))
    → (T here → blob ≡ changed) → (blob ≡ changed → T here) → (blob ≡ changed) ⊎ MayBlobBe tried blob (synced blob) left
    → MayBlobBe tried blob (synced blob) (cond here (synced changed) left)
put_back true tried blob changed synced left to back may =
    subst (λ b. MayBlobBe tried blob (synced blob) (synced b)) (to tt) (was_blob tried blob (synced blob))
put_back false tried blob changed synced left to back (inl same) = absurd (back same)
put_back false tried blob changed synced left to back (inr may) = may

-- a blob that is changed and changed back
back_again : (here : Bool) (blob changed : ℕ) (left : ℕ → Option (List ℕ)) (between : Option (List ℕ)) → (T here → blob ≡ changed)
    → cond here (left changed) (cond here between (left blob)) ≡ left blob
back_again true blob changed left between to = ap left (sym (to tt))
back_again false blob changed left between to = refl

-- what is allowed but for one blob is what is allowed, with that blob changed
but_for : (tried : List Change) (synced left : Content) (changed : ℕ) (Kind : Content → Type 0) → Ignores Kind changed
    → ((blob : ℕ) → (blob ≡ changed) ⊎ MayBlobBe tried blob (synced.blobs blob) (left.blobs blob))
    → MayRootBe tried synced.root left.root
    → ((other : Content) → ((blob : ℕ) → MayBlobBe tried blob (synced.blobs blob) (other.blobs blob))
    → MayRootBe tried synced.root other.root → Kind other)
    → Kind left
but_for tried synced left changed Kind ignores blobs root each =
    let was = with_blob changed (synced.blobs changed) left in
    let allowed = each was
    (λ blob. put_back (blob == changed) tried blob changed synced.blobs (left.blobs blob)
    (number_same blob changed) (same_number blob changed) (blobs blob)) root in
    let again = same_content (with_blob changed (left.blobs changed) was) left
    (λ blob. back_again (blob == changed) blob changed left.blobs (synced.blobs changed) (number_same blob changed)) refl in
    subst Kind again (ignores was (left.blobs changed) allowed)

-- after a put, whatever was written, only what was allowed before, with that blob changed
after_put : (moments : Moments) (blob : ℕ) (written : Option (List ℕ)) (Kind : Content → Type 0) → Ignores Kind blob
    → LeavesNow (Some moments) Kind → LeavesNow (Some (try_change (Put blob) (with_blob blob written) moments)) Kind
after_put moments blob written Kind ignores before left (inl held) =
    subst Kind (sym held) (ignores moments.now.held written (before moments.now.held (inl refl)))
after_put moments blob written Kind ignores before left (inr partly) =
    but_for moments.now.tried moments.now.synced left blob Kind ignores partly.blobs partly.root
    (λ other blobs root. before other (inr (record { blobs = blobs; root = root })))

weaken : {A B C : Type 0} → (A × B) ⊎ C → A ⊎ C
weaken (inl both) = inl both.0
weaken (inr c) = inr c

after_removal : (moments : Moments) (blob : ℕ) (Kind : Content → Type 0) → Ignores Kind blob
    → LeavesNow (Some moments) Kind → LeavesNow (Some (try_change (Remove blob) (with_blob blob None) moments)) Kind
after_removal moments blob Kind ignores before left (inl held) =
    subst Kind (sym held) (ignores moments.now.held None (before moments.now.held (inl refl)))
after_removal moments blob Kind ignores before left (inr partly) =
    but_for moments.now.tried moments.now.synced left blob Kind ignores (λ other. weaken (partly.blobs other)) partly.root
    (λ other blobs root. before other (inr (record { blobs = blobs; root = root })))

-- after a root was set, only what was allowed before, and that with the new root
after_root : (moments : Moments) (bytes : List ℕ) (Kind Next : Content → Type 0)
    → ((content : Content) → Kind content → Next (with_root bytes content))
    → LeavesNow (Some moments) Kind
    → LeavesNow (Some (try_change (SetRoot bytes) (with_root bytes) moments)) (λ left. Kind left ⊎ Next left)
after_root moments bytes Kind Next leads before left (inl held) =
    subst (λ content. Kind content ⊎ Next content) (sym held) (inr (leads moments.now.held (before moments.now.held (inl refl))))
after_root moments bytes Kind Next leads before left (inr partly) =
    elim partly.root [
      | inl new ↦
          let was : Content = record left { root = moments.now.synced.root } in
          let allowed = before was (inr (record { blobs = partly.blobs; root = was_root moments.now.tried moments.now.synced.root })) in
          let again = same_content (with_root bytes was) left (λ _. refl) (sym new) in
          inr (subst Next again (leads was allowed))
      | inr old ↦ inl (before left (inr (record { blobs = partly.blobs; root = old })))
    ]

-- after a sync only what is held
pub settled_leaves : (moments : Moments) (left : Content) → LeftNow (settle moments) left → left ≡ moments.now.held
settled_leaves moments left (inl held) = held
settled_leaves moments left (inr partly) = same_content left moments.now.held partly.blobs partly.root

-- at the moment a crash leaves only contents of the kind
abbrev OnlyAt : (Content → Type 0) → Moment → Type 0
OnlyAt Kind moment = (left : Content) → MayLeave moment left → Kind left

-- a call that changed nothing
unchanged : (told : Option Moments) (Kind : Content → Type 0) → LeavesNow told Kind → Leaves told told Kind
unchanged None Kind now = record { since = tt; now = tt }
unchanged (Some moments) Kind now =
    record { since = record { added = []; before = refl; leaves = All-nil (OnlyAt Kind) }; now = now }

-- a call after which the moments are as they were
pub kept : (old new : Option Moments) (Kind : Content → Type 0) → new ≡ old → LeavesNow old Kind → Leaves old new Kind
kept old new Kind same now = subst (λ told. Leaves old told Kind) (sym same) (unchanged old Kind now)

-- a call that added a moment
one_more : (old new : Moments) (Kind : Content → Type 0) → all_moments new ≡ new.now ∷ all_moments old
    → LeavesNow (Some new) Kind → Leaves (Some old) (Some new) Kind
one_more old new Kind grown now = record {
  since = record { added = new.now ∷ []; before = grown; leaves = All-cons (OnlyAt Kind) new.now [] now (All-nil (OnlyAt Kind)) };
  now = now;
}

-- of more kinds
pub more_now : (told : Option Moments) (Kind Next : Content → Type 0) → ((content : Content) → Kind content → Next content)
    → LeavesNow told Kind → LeavesNow told Next
more_now None Kind Next implies now = tt
more_now (Some moments) Kind Next implies now = λ left may. implies left (now left may)

-- of both kinds
pub both_now : (told : Option Moments) (Kind Other : Content → Type 0) → LeavesNow told Kind → LeavesNow told Other
    → LeavesNow told (λ content. Kind content × Other content)
both_now None Kind Other one other = tt
both_now (Some moments) Kind Other one other = λ left may. (one left may, other left may)

more_since : (old new : Option Moments) (Kind Next : Content → Type 0) → ((content : Content) → Kind content → Next content)
    → LeavesOnly old new Kind → LeavesOnly old new Next
more_since None new Kind Next implies only = tt
more_since (Some old) None Kind Next implies only = only
more_since (Some old) (Some new) Kind Next implies only = record {
  added = only.added;
  before = only.before;
  leaves = λ k d within left may. implies left (only.leaves k d within left may);
}

-- of more kinds, since an earlier moment
pub leaves_more : (old new : Option Moments) (Kind Next : Content → Type 0) → ((content : Content) → Kind content → Next content)
    → Leaves old new Kind → Leaves old new Next
leaves_more old new Kind Next implies leaves = record {
  since = more_since old new Kind Next implies leaves.since;
  now = more_now new Kind Next implies leaves.now;
}

since_then : (first between last : Option Moments) (Kind : Content → Type 0) → LeavesOnly first between Kind
    → LeavesOnly between last Kind → LeavesOnly first last Kind
since_then None between last Kind one other = tt
since_then (Some first) None last Kind one other = absurd one
since_then (Some first) (Some between) None Kind one other = other
since_then (Some first) (Some between) (Some last) Kind one other = record {
  added = other.added ++ one.added;
  before = other.before ∙ ap (λ xs. other.added ++ xs) one.before ∙ sym (append_assoc other.added one.added (all_moments first));
  leaves = All-append (OnlyAt Kind) other.added one.added other.leaves one.leaves;
}

-- two calls, one after the other
pub leaves_then : (first between last : Option Moments) (Kind : Content → Type 0) → Leaves first between Kind
    → Leaves between last Kind → Leaves first last Kind
leaves_then first between last Kind one other = record {
  since = since_then first between last Kind one.since other.since;
  now = other.now;
}

-- a step that may have been done
maybe_done : (old new : Option Moments) (step : Moments → Moments) (Kind : Content → Type 0) → MayDo step old new
    → LeavesNow old Kind → Leaves old (option_map step old) Kind → Leaves old new Kind
maybe_done old new step Kind (inl same) now done = kept old new Kind same now
maybe_done old new step Kind (inr same) now done = subst (λ told. Leaves old told Kind) (sym same) done

put_step : (old : Option Moments) (blob : ℕ) (written : Option (List ℕ)) (Kind : Content → Type 0) → Ignores Kind blob
    → LeavesNow old Kind → Leaves old (option_map (try_change (Put blob) (with_blob blob written)) old) Kind
put_step None blob written Kind ignores now = record { since = tt; now = tt }
put_step (Some old) blob written Kind ignores now =
    one_more old (try_change (Put blob) (with_blob blob written) old) Kind refl (after_put old blob written Kind ignores now)

-- a put of a blob that doesn't matter
pub put_leaves : {R : Type 0} (old new : Option Moments) (blob : ℕ) (bytes : List ℕ) (r : Result R Fault) (Kind : Content → Type 0)
    → Writes (λ written. try_change (Put blob) (with_blob blob written)) bytes old new r → Ignores Kind blob
    → LeavesNow old Kind → Leaves old new Kind
put_leaves old new blob bytes (Ok value) Kind clause ignores now =
    subst (λ told. Leaves old told Kind) (sym clause.done) (put_step old blob (Some bytes) Kind ignores now)
put_leaves old new blob bytes (Err fault) Kind clause ignores now =
    let written = clause.failed.0 in
    maybe_done old new (try_change (Put blob) (with_blob blob written)) Kind clause.failed.1 now
    (put_step old blob written Kind ignores now)

removal_step : (old : Option Moments) (blob : ℕ) (Kind : Content → Type 0) → Ignores Kind blob
    → LeavesNow old Kind → Leaves old (option_map (try_change (Remove blob) (with_blob blob None)) old) Kind
removal_step None blob Kind ignores now = record { since = tt; now = tt }
removal_step (Some old) blob Kind ignores now =
    one_more old (try_change (Remove blob) (with_blob blob None) old) Kind refl (after_removal old blob Kind ignores now)

-- a removal of a blob that doesn't matter
pub remove_leaves : {R : Type 0} (old new : Option Moments) (blob : ℕ) (r : Result R Fault) (Kind : Content → Type 0)
    → Does (try_change (Remove blob) (with_blob blob None)) old new r → Ignores Kind blob
    → LeavesNow old Kind → Leaves old new Kind
remove_leaves old new blob (Ok value) Kind clause ignores now =
    subst (λ told. Leaves old told Kind) (sym clause.done) (removal_step old blob Kind ignores now)
remove_leaves old new blob (Err fault) Kind clause ignores now =
    maybe_done old new (try_change (Remove blob) (with_blob blob None)) Kind clause.failed now
    (removal_step old blob Kind ignores now)

root_step : (old : Option Moments) (bytes : List ℕ) (Kind Next : Content → Type 0)
    → ((content : Content) → Kind content → Next (with_root bytes content)) → LeavesNow old Kind
    → Leaves old (option_map (try_change (SetRoot bytes) (with_root bytes)) old) (λ left. Kind left ⊎ Next left)
root_step None bytes Kind Next leads now = record { since = tt; now = tt }
root_step (Some old) bytes Kind Next leads now =
    one_more old (try_change (SetRoot bytes) (with_root bytes) old) (λ left. Kind left ⊎ Next left) refl
    (after_root old bytes Kind Next leads now)

-- a root that was tried while what is held stayed as it was
after_root_tried : (moments : Moments) (bytes : List ℕ) (Kind Next : Content → Type 0)
    → ((content : Content) → Kind content → Next (with_root bytes content))
    → LeavesNow (Some moments) Kind
    → LeavesNow (Some (try_change (SetRoot bytes) (λ held. held) moments)) (λ left. Kind left ⊎ Next left)
after_root_tried moments bytes Kind Next leads before left (inl held) = inl (before left (inl held))
after_root_tried moments bytes Kind Next leads before left (inr partly) =
    after_root moments bytes Kind Next leads before left (inr (record { blobs = partly.blobs; root = partly.root }))

root_tried_step : (old : Option Moments) (bytes : List ℕ) (Kind Next : Content → Type 0)
    → ((content : Content) → Kind content → Next (with_root bytes content)) → LeavesNow old Kind
    → Leaves old (option_map (try_change (SetRoot bytes) (λ held. held)) old) (λ left. Kind left ⊎ Next left)
root_tried_step None bytes Kind Next leads now = record { since = tt; now = tt }
root_tried_step (Some old) bytes Kind Next leads now =
    one_more old (try_change (SetRoot bytes) (λ held. held) old) (λ left. Kind left ⊎ Next left) refl
    (after_root_tried old bytes Kind Next leads now)

-- a new root that may have been tried, which leads from one kind of content to the next
pub root_may_leave : (old new : Option Moments) (bytes : List ℕ) (Kind Next : Content → Type 0)
    → MayTry (SetRoot bytes) (with_root bytes) old new
    → ((content : Content) → Kind content → Next (with_root bytes content))
    → LeavesNow old Kind → Leaves old new (λ left. Kind left ⊎ Next left)
root_may_leave old new bytes Kind Next (inl same) leads now =
    let Both : Content → Type 0 = λ left. Kind left ⊎ Next left in kept old new Both same (more_now old Kind Both (λ _. inl) now)
root_may_leave old new bytes Kind Next (inr (inl done)) leads now =
    subst (λ told. Leaves old told (λ left. Kind left ⊎ Next left)) (sym done) (root_step old bytes Kind Next leads now)
root_may_leave old new bytes Kind Next (inr (inr tried)) leads now =
    subst (λ told. Leaves old told (λ left. Kind left ⊎ Next left)) (sym tried) (root_tried_step old bytes Kind Next leads now)

settle_step : (old : Option Moments) (Kind : Content → Type 0) → LeavesNow old Kind → Leaves old (option_map settle old) Kind
settle_step None Kind now = record { since = tt; now = tt }
settle_step (Some old) Kind now =
    one_more old (settle old) Kind refl (λ left may. subst Kind (sym (settled_leaves old left may)) (now old.now.held (inl refl)))

-- a sync brings nothing new
pub sync_leaves : {R E : Type 0} (old new : Option Moments) (r : Result R E) (Kind : Content → Type 0)
    → MatchResult r (λ _. new ≡ option_map settle old) (λ _. new ≡ old) → LeavesNow old Kind → Leaves old new Kind
sync_leaves old new (Ok value) Kind clause now = subst (λ told. Leaves old told Kind) (sym clause) (settle_step old Kind now)
sync_leaves old new (Err error) Kind clause now = kept old new Kind clause now

durable : (holds : Option Content) (old : Option Moments) → AreAlike holds old → IsDurable holds (option_map settle old)
durable holds None alike = λ held is. tt
durable holds (Some old) alike = λ held is left may. settled_leaves old left may ∙ (cc)

-- after a sync only what is held is left
pub synced : (holds_before holds : Option Content) (old new : Option Moments) → AreAlike holds_before old → holds ≡ holds_before
    → new ≡ option_map settle old → IsDurable holds new
synced holds_before holds old new alike same settled =
    subst (λ told. IsDurable told new) (sym same)
    (subst (λ told. IsDurable holds_before told) (sym settled) (durable holds_before old alike))

apart : (here : Bool) (Named : ℕ → Type 0) (other blob : ℕ) (bytes before : Option (List ℕ)) → (T here → other ≡ blob)
    → Named other → (Named blob → ⊥) → cond here bytes before ≡ before
apart true Named other blob bytes before to named stray = absurd (stray (subst Named (to tt) named))
apart false Named other blob bytes before to named stray = refl

-- a blob that isn't named makes no difference
pub stray_blob : (Named : ℕ → Type 0) (blob : ℕ) (bytes : Option (List ℕ)) (content : Content) → (Named blob → ⊥)
    → IsSameIn Named content (with_blob blob bytes content)
stray_blob Named blob bytes content stray = record {
  root = refl;
  blobs = λ other named. apart (other == blob) Named other blob bytes (content.blobs other) (number_same other blob) named stray;
}

-- so it doesn't matter to a kind of content that names only others
pub strays : (Named : ℕ → Type 0) (Kind : Content → Type 0) (blob : ℕ) → NamesOnly Named Kind → (Named blob → ⊥) → Ignores Kind blob
strays Named Kind blob names stray content bytes kind =
    names content (with_blob blob bytes content) (stray_blob Named blob bytes content stray) kind

-- what may be left now is left
pub left_now : (told : Option Moments) → LeavesNow told (IsLeft told)
left_now None = tt
left_now (Some moments) = λ left may. may
