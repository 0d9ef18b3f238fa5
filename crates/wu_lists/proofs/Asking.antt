-- Blocks that are asked for one after another.
use Rattle.std.proofs.Common.{◌≡◌, ℕ, List, [], ◌∷◌, ◌++◌, map, refl, ap, sym, ◌∙◌, subst, arith, append-nil, append_assoc, length-append}
use Rattle.std.specs.Prelude.{Option, None, Some, IfSome, option_map}
use Rattle.std.specs.List.{AllByRecursion}
use Rattle.std.specs.Map.{keys_of}
use Rattle.std.proofs.lemmas.List.{map-append}
use Rattle.wu_base.specs.declared.troubles.Trouble.{Trouble}
use Rattle.wu_base.proofs.EachLemmas.{each-append}
use Rattle.wu_outside.specs.Content.{Content}
use Rattle.wu_outside.specs.declared.ranges.ReadRange.{ReadRange}
use Rattle.wu_lists.specs.declared.blocks.Block.{Block}
use Rattle.wu_lists.specs.Blocks.{IsSpelledIn, range_of}
use Rattle.wu_lists.specs.Keeping.{AreHeld, Asks, AsksFirst, Kept, StaysHeld, all_asked, all_missing, asked, missing}
use Rattle.wu_lists.specs.Causes.{IsCause}

-- ---- lists

pub all_asked-append : (cap : ℕ) (kept xs ys : List Block) → all_asked cap kept (xs ++ ys) ≡ all_asked cap (all_asked cap kept xs) ys
all_asked-append cap kept [] ys = refl
all_asked-append cap kept (x ∷ xs) ys = all_asked-append cap (asked cap kept x) xs ys

pub all_missing-append : (cap : ℕ) (kept xs ys : List Block)
    → all_missing cap kept (xs ++ ys) ≡ all_missing cap kept xs ++ all_missing cap (all_asked cap kept xs) ys
all_missing-append cap kept [] ys = refl
all_missing-append cap kept (x ∷ xs) ys =
    ap (λ (bs : List Block). missing kept x ++ bs) (all_missing-append cap (asked cap kept x) xs ys)
    ∙ sym (append_assoc (missing kept x) (all_missing cap (asked cap kept x) xs)
    (all_missing cap (all_asked cap (asked cap kept x) xs) ys))

-- ---- ranges

abbrev pub with_ranges : Option (List ReadRange) → List Block → Option (List ReadRange)
with_ranges ranges blocks = option_map (λ earlier. earlier ++ map range_of blocks) ranges

pub ranges-none : (ranges : Option (List ReadRange)) → ranges ≡ with_ranges ranges []
ranges-none None = refl
ranges-none (Some earlier) = ap Some (sym (append-nil earlier))

pub ranges-join : (ranges : Option (List ReadRange)) (xs ys : List Block)
    → with_ranges (with_ranges ranges xs) ys ≡ with_ranges ranges (xs ++ ys)
ranges-join None xs ys = refl
ranges-join (Some earlier) xs ys =
    ap Some (append_assoc earlier (map range_of xs) (map range_of ys)
    ∙ ap (λ (rs : List ReadRange). earlier ++ rs) (sym (map-append range_of xs ys)))

-- ---- what is kept stays right

pub stays : (holds : Option Content) (old new : Kept)
    → ((blob : ℕ) (bytes : List ℕ) → AreHeld blob bytes old → AreHeld blob bytes new) → StaysHeld holds old new
stays None old new step = tt
stays (Some content) old new step = λ blob bytes there. step blob bytes

stays-join : (holds : Option Content) (old mid new : Kept) → StaysHeld holds old mid → StaysHeld holds mid new → StaysHeld holds old new
stays-join None old mid new p q = tt
stays-join (Some content) old mid new p q = λ blob bytes there held. q blob bytes there (p blob bytes there held)

-- ---- no block, and more blocks

pub asks-none : (holds : Option Content) (kept : Kept) (ranges : Option (List ReadRange)) → Asks [] holds kept kept ranges ranges
asks-none holds kept ranges = record {
  capacity = refl;
  kept = refl;
  read = ranges-none ranges;
  spelled = nothing holds;
  held = stays holds kept kept (λ blob bytes held. held);
}
  where
    nothing : (holds : Option Content) → IfSome holds (λ content. AllByRecursion (IsSpelledIn content) [])
    nothing None = tt
    nothing (Some content) = tt

module _ (holds : Option Content) (old mid new : Kept) (ranges between ranges_now : Option (List ReadRange)) where
  pub asks-join : (xs ys : List Block) → Asks xs holds old mid ranges between → Asks ys holds mid new between ranges_now
      → Asks (xs ++ ys) holds old new ranges ranges_now
  asks-join xs ys a b =
      let first : List Block = all_missing old.cap (keys_of old.entries) xs in
      let state : all_asked old.cap (keys_of old.entries) xs ≡ keys_of mid.entries = sym a.kept in
      let second : all_missing mid.cap (keys_of mid.entries) ys ≡ all_missing old.cap (all_asked old.cap (keys_of old.entries) xs) ys =
      ap (λ (n : ℕ). all_missing n (keys_of mid.entries) ys) a.capacity
      ∙ ap (λ (ks : List Block). all_missing old.cap ks ys) a.kept in
      let joined : first ++ all_missing mid.cap (keys_of mid.entries) ys ≡ all_missing old.cap (keys_of old.entries) (xs ++ ys) =
      ap (λ (bs : List Block). first ++ bs) second ∙ sym (all_missing-append old.cap (keys_of old.entries) xs ys) in
      record {
        capacity = b.capacity ∙ a.capacity;
        kept =
            b.kept ∙ ap (λ (n : ℕ). all_asked n (keys_of mid.entries) ys) a.capacity
            ∙ ap (λ (ks : List Block). all_asked old.cap ks ys) a.kept
            ∙ sym (all_asked-append old.cap (keys_of old.entries) xs ys);
        read =
            b.read ∙ ap (λ (r : Option (List ReadRange)). with_ranges r (all_missing mid.cap (keys_of mid.entries) ys)) a.read
            ∙ ranges-join ranges first (all_missing mid.cap (keys_of mid.entries) ys)
            ∙ ap (λ (bs : List Block). with_ranges ranges bs) joined;
        spelled = both holds first (all_missing mid.cap (keys_of mid.entries) ys) _ joined a.spelled b.spelled;
        held = stays-join holds old mid new a.held b.held;
      }
    where
      both : (holds : Option Content) (ms ns all : List Block) → ms ++ ns ≡ all
          → IfSome holds (λ content. AllByRecursion (IsSpelledIn content) ms)
          → IfSome holds (λ content. AllByRecursion (IsSpelledIn content) ns)
          → IfSome holds (λ content. AllByRecursion (IsSpelledIn content) all)
      both None ms ns all e p q = tt
      both (Some content) ms ns all e p q = subst (AllByRecursion (IsSpelledIn content)) e (each-append (IsSpelledIn content) ms ns p q)

-- ---- up to an error

module _ (holds : Option Content) (old new : Kept) where
  -- no block was asked for
  pub first-none : (blocks : List Block) → new ≡ old → AsksFirst blocks holds old new
  first-none blocks same =
      subst (AsksFirst blocks holds old) (sym same)
      (record {
        capacity = refl;
        first = [];
        later = blocks;
        parted = refl;
        kept = refl;
        held = stays holds old old (λ blob bytes held. held);
      })

  -- all of them were
  pub first-all : (ranges ranges_now : Option (List ReadRange)) (blocks : List Block) → Asks blocks holds old new ranges ranges_now
      → AsksFirst blocks holds old new
  first-all ranges ranges_now blocks a = record {
    capacity = a.capacity;
    first = blocks;
    later = [];
    parted = append-nil blocks;
    kept = a.kept;
    held = a.held;
  }

-- several were, and the first of others, of which there may be more
pub first-join : (holds : Option Content) (old mid new : Kept) (ranges between : Option (List ReadRange)) (xs ys zs : List Block)
    → Asks xs holds old mid ranges between → AsksFirst ys holds mid new → AsksFirst (xs ++ (ys ++ zs)) holds old new
first-join holds old mid new ranges between xs ys zs a f = record {
  capacity = f.capacity ∙ a.capacity;
  first = xs ++ f.first;
  later = f.later ++ zs;
  parted =
      append_assoc xs f.first (f.later ++ zs)
      ∙ ap (λ (bs : List Block). xs ++ bs) (sym (append_assoc f.first f.later zs) ∙ ap (λ (bs : List Block). bs ++ zs) f.parted);
  kept =
      f.kept ∙ ap (λ (n : ℕ). all_asked n (keys_of mid.entries) f.first) a.capacity
      ∙ ap (λ (ks : List Block). all_asked old.cap ks f.first) a.kept
      ∙ sym (all_asked-append old.cap (keys_of old.entries) xs f.first);
  held = stays-join holds old mid new a.held f.held;
}

-- ---- causes

-- of what is to be read, more may come
pub cause-longer : (missed more : List Block) (blob : ℕ) (Broken Other : Type 0) (before now : ℕ)
    (ranges ranges_now : Option (List ReadRange)) (trouble : Trouble) → (Broken → Other)
    → IsCause missed blob Broken before now ranges ranges_now trouble
    → IsCause (missed ++ more) blob Other before now ranges ranges_now trouble
cause-longer missed more blob Broken Other before now ranges ranges_now trouble step c = record {
  counted = c.counted;
  store_fault = c.store_fault;
  calm = c.calm;
  added = c.added;
  unread = c.unread ++ more;
  front = ap (λ (bs : List Block). bs ++ more) c.front ∙ append_assoc c.added c.unread more;
  read = c.read;
  damaged = λ other e. let d = c.damaged other e in (d.0, d.1, step d.2);
}

-- before it, some were read
pub cause-after : (first missed : List Block) (blob : ℕ) (Broken : Type 0) (before now : ℕ)
    (ranges between ranges_now : Option (List ReadRange)) (trouble : Trouble) → between ≡ with_ranges ranges first
    → IsCause missed blob Broken before now between ranges_now trouble
    → IsCause (first ++ missed) blob Broken before now ranges ranges_now trouble
cause-after first missed blob Broken before now ranges between ranges_now trouble e c = record {
  counted = c.counted;
  store_fault = c.store_fault;
  calm = c.calm;
  added = first ++ c.added;
  unread = c.unread;
  front = ap (λ (bs : List Block). first ++ bs) c.front ∙ sym (append_assoc first c.added c.unread);
  read =
      c.read ∙ ap (λ (r : Option (List ReadRange)). with_ranges r c.added) e
      ∙ ranges-join ranges first c.added;
  damaged = λ other e. let d = c.damaged other e in (d.0, omega (arith, d.1, length-append first c.added), d.2);
}

-- a call that asked for some blocks, asked for others, of which there may be more, and got a trouble
pub cause-join : (holds : Option Content) (old mid : Kept) (xs ys zs : List Block) (blob : ℕ) (Broken Other : Type 0)
    (before middle now : ℕ) (ranges between ranges_now : Option (List ReadRange)) (trouble : Trouble) → (Broken → Other) → middle ≡ before
    → Asks xs holds old mid ranges between
    → IsCause (all_missing mid.cap (keys_of mid.entries) ys) blob Broken middle now between ranges_now trouble
    → IsCause (all_missing old.cap (keys_of old.entries) (xs ++ (ys ++ zs))) blob Other before now ranges ranges_now trouble
cause-join holds old mid xs ys zs blob Broken Other before middle now ranges between ranges_now trouble step same a c =
    let kept : List Block = all_asked old.cap (keys_of old.entries) xs in
    let first : List Block = all_missing old.cap (keys_of old.entries) xs in
    let second : all_missing mid.cap (keys_of mid.entries) ys ≡ all_missing old.cap kept ys =
    ap (λ (n : ℕ). all_missing n (keys_of mid.entries) ys) a.capacity
    ∙ ap (λ (ks : List Block). all_missing old.cap ks ys) a.kept in
    let third : List Block = all_missing old.cap (all_asked old.cap kept ys) zs in
    let joined : first ++ (all_missing mid.cap (keys_of mid.entries) ys ++ third)
    ≡ all_missing old.cap (keys_of old.entries) (xs ++ (ys ++ zs)) =
    ap (λ (bs : List Block). first ++ (bs ++ third)) second
    ∙ ap (λ (bs : List Block). first ++ bs) (sym (all_missing-append old.cap kept ys zs))
    ∙ sym (all_missing-append old.cap (keys_of old.entries) xs (ys ++ zs)) in
    subst (λ (bs : List Block). IsCause bs blob Other before now ranges ranges_now trouble) joined
    (cause-after first (all_missing mid.cap (keys_of mid.entries) ys ++ third) blob Other before now ranges between ranges_now trouble
    a.read
    (subst (λ (n : ℕ). IsCause (all_missing mid.cap (keys_of mid.entries) ys ++ third) blob Other n now between ranges_now trouble) same
    (cause-longer (all_missing mid.cap (keys_of mid.entries) ys) third blob Broken Other middle now between ranges_now trouble step c)))

-- what is broken may be told otherwise
pub cause-step : (missed : List Block) (blob : ℕ) (Broken Other : Type 0) (before now : ℕ) (ranges ranges_now : Option (List ReadRange))
    (trouble : Trouble) → (Broken → Other) → IsCause missed blob Broken before now ranges ranges_now trouble
    → IsCause missed blob Other before now ranges ranges_now trouble
cause-step missed blob Broken Other before now ranges ranges_now trouble step c = record {
  counted = c.counted;
  store_fault = c.store_fault;
  calm = c.calm;
  added = c.added;
  unread = c.unread;
  front = c.front;
  read = c.read;
  damaged = λ other e. let d = c.damaged other e in (d.0, d.1, step d.2);
}
