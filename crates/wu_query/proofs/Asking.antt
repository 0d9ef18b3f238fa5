-- Why a call fails that is one of several, which ask for blocks one after the other.
use Rattle.std.proofs.Common.{◌≡◌, ℕ, List, [], ◌∷◌, ◌++◌, inr, refl, ap, sym, ◌∙◌, subst, arith, append_assoc, append-nil}
use Rattle.std.specs.Prelude.{Option}
use Rattle.std.specs.Map.{keys_of}
use Rattle.wu_base.specs.declared.addresses.PartRec.{PartRec}
use Rattle.wu_base.specs.declared.troubles.Trouble.{Trouble}
use Rattle.wu_base.specs.declared.troubles.Trouble.TheVariants.{NoMemory}
use Rattle.wu_outside.specs.Content.{Content}
use Rattle.wu_outside.specs.Faults.{Rose}
use Rattle.wu_outside.specs.declared.ranges.ReadRange.{ReadRange}
use Rattle.wu_layout.specs.Invariants.{SomeOf}
use Rattle.wu_part.specs.Directories.{PartDirectory}
use Rattle.wu_lists.specs.declared.blocks.Block.{Block}
use Rattle.wu_lists.specs.Keeping.{Asks, Kept, all_asked, all_missing}
use Rattle.wu_lists.proofs.Asking.{all_missing-append, ranges-join, ranges-none, with_ranges}
use Rattle.wu_parts.specs.Causes.{IsFetchCause}

some_after : (xs ys : List Block) (blob : ℕ) → SomeOf (λ block. block.blob ≡ blob) ys → SomeOf (λ block. block.blob ≡ blob) (xs ++ ys)
some_after [] ys blob some = some
some_after (x ∷ xs) ys blob some = inr (some_after xs ys blob some)

-- the call after those that were done failed, and others were to come
pub fails_after : {xs : List Block} (ys zs : List Block) {a b : Kept} {first second third : Option (List ReadRange)}
    {parts : List (PartRec × PartDirectory)} {holds : Option Content} {before middle now : ℕ} {trouble : Trouble}
    → Asks xs holds a b first second → middle ≡ before
    → IsFetchCause parts (all_missing b.cap (keys_of b.entries) ys) holds middle now second third trouble
    → IsFetchCause parts (all_missing a.cap (keys_of a.entries) (xs ++ (ys ++ zs))) holds before now first third trouble
fails_after {xs} ys zs {a} {b} {first} {now} p calm cause =
    let here : List Block = all_missing a.cap (keys_of a.entries) xs in
    let later : List Block = all_missing b.cap (all_asked b.cap (keys_of b.entries) ys) zs in
    let split : all_missing a.cap (keys_of a.entries) (xs ++ (ys ++ zs)) ≡ here ++ all_missing b.cap (keys_of b.entries) (ys ++ zs) =
    all_missing-append a.cap (keys_of a.entries) xs (ys ++ zs)
    ∙ ap (λ (n : ℕ). here ++ all_missing n (all_asked a.cap (keys_of a.entries) xs) (ys ++ zs)) (sym p.capacity)
    ∙ ap (λ (ks : List Block). here ++ all_missing b.cap ks (ys ++ zs)) (sym p.kept) in
    record {
      counted = omega (arith, cause.counted, calm);
      store_fault = λ h. subst (λ (n : ℕ). Rose n now) calm (cause.store_fault h);
      calm = λ h. cause.calm h ∙ calm;
      added = here ++ cause.added;
      unread = cause.unread ++ later;
      front =
          split
          ∙ ap (λ (bs : List Block). here ++ bs)
          (all_missing-append b.cap (keys_of b.entries) ys zs ∙ ap (λ (bs : List Block). bs ++ later) cause.front
          ∙ append_assoc cause.added cause.unread later)
          ∙ sym (append_assoc here cause.added (cause.unread ++ later));
      read =
          cause.read ∙ ap (λ (r : Option (List ReadRange)). with_ranges r cause.added) p.read ∙ ranges-join first here cause.added;
      damaged = λ blob h. (some_after here cause.added blob (cause.damaged blob h).0, (cause.damaged blob h).1);
    }

-- a call ran out of memory after the first of them were asked for
pub fails_then : {xs : List Block} (zs : List Block) {a b : Kept} {first second : Option (List ReadRange)}
    {parts : List (PartRec × PartDirectory)} {holds : Option Content} {before now : ℕ} → Asks xs holds a b first second → now ≡ before
    → IsFetchCause parts (all_missing a.cap (keys_of a.entries) (xs ++ zs)) holds before now first second NoMemory
fails_then {xs} zs {a} p calm = record {
  counted = omega (arith, calm);
  store_fault = λ h. absurd (cc);
  calm = λ h. calm;
  added = all_missing a.cap (keys_of a.entries) xs;
  unread = all_missing a.cap (all_asked a.cap (keys_of a.entries) xs) zs;
  front = all_missing-append a.cap (keys_of a.entries) xs zs;
  read = p.read;
  damaged = λ blob h. absurd (cc);
}

-- and after all of them
pub fails_last : {xs : List Block} {a b : Kept} {first second : Option (List ReadRange)} {parts : List (PartRec × PartDirectory)}
    {holds : Option Content} {before now : ℕ} → Asks xs holds a b first second → now ≡ before
    → IsFetchCause parts (all_missing a.cap (keys_of a.entries) xs) holds before now first second NoMemory
fails_last {xs} p calm = rw (← (append-nil xs)) (fails_then [] p calm)

-- a call ran out of memory before any was asked for
pub fails_at_once : {missing : List Block} {ranges : Option (List ReadRange)} {parts : List (PartRec × PartDirectory)}
    {holds : Option Content} {before now : ℕ} → now ≡ before → IsFetchCause parts missing holds before now ranges ranges NoMemory
fails_at_once {missing} {ranges} calm = record {
  counted = omega (arith, calm);
  store_fault = λ h. absurd (cc);
  calm = λ h. calm;
  added = [];
  unread = missing;
  front = refl;
  read = ranges-none ranges;
  damaged = λ blob h. absurd (cc);
}
