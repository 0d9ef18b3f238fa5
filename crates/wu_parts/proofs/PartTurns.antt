-- What turns of a loop over the parts come to.
use Rattle.std.proofs.Common.{◌≡◌, ℕ, ◌+◌, ◌<◌, List, [], ◌∷◌, ◌++◌, length, drop, get_or, zero, suc, Option, ap, sym, ◌∙◌, subst, arith}
use Rattle.std.proofs.Common.{append-nil, append_assoc}
use Rattle.std.specs.Prelude.{IfSome}
use Rattle.std.specs.List.{AllByRecursion}
use Rattle.std.specs.Map.{keys_of}
use Rattle.std.proofs.lemmas.List.{drop_more}
use Rattle.wu_base.specs.declared.addresses.Range.{Range}
use Rattle.wu_base.specs.declared.troubles.Trouble.{Trouble}
use Rattle.wu_outside.specs.Content.{Content}
use Rattle.wu_outside.specs.declared.ranges.ReadRange.{ReadRange}
use Rattle.wu_part.specs.Parts.{IsRecorded, IsNoPart}
use Rattle.wu_lists.specs.declared.blocks.Block.{Block}
use Rattle.wu_lists.specs.Blocks.{needed}
use Rattle.wu_lists.specs.Causes.{IsCause}
use Rattle.wu_lists.specs.Fetching.{AreGathered, HasTerm}
use Rattle.wu_lists.specs.Keeping.{Asks, AsksFirst, Kept, all_missing}
use Rattle.wu_parts.specs.Causes.{IsFetchCause}
use Rattle.wu_parts.specs.Holdings.{all_needed}
use Rattle.wu_parts.specs.StoredParts.{AreGatheredFrom, pairs_of}
use Rattle.wu_parts.specs.declared.writing.StoredPart.{StoredPart}
use Rattle.wu_parts.proofs.FetchedAddresses.{gathered-first, gathered-none}
use Rattle.wu_lists.specs.Gaining.{Gains}
use Rattle.wu_lists.proofs.Asking.{asks-join, asks-none, first-join}
use Rattle.wu_parts.proofs.Asking.{cause-first, cause-later}

-- The blocks that are asked for in the parts that are left lead to those that are asked for in all, also the first ones alone, and so does
-- a trouble.
pub record Leads (parts left : List StoredPart) (term : List ℕ) (frames : List Range) (holds : Option Content) (old now : Kept)
    (ranges ranges_now : Option (List ReadRange)) : Type 0 where
  pub asks : (new : Kept) (ranges_new : Option (List ReadRange))
      → Asks (all_needed (pairs_of left) term frames) holds now new ranges_now ranges_new
      → Asks (all_needed (pairs_of parts) term frames) holds old new ranges ranges_new
  pub first : (new : Kept) → AsksFirst (all_needed (pairs_of left) term frames) holds now new
      → AsksFirst (all_needed (pairs_of parts) term frames) holds old new
  pub cause : (before after : ℕ) (ranges_new : Option (List ReadRange)) (trouble : Trouble)
      → IsFetchCause (pairs_of left) (all_missing now.cap (keys_of now.entries) (all_needed (pairs_of left) term frames)) holds before after
      ranges_now ranges_new trouble
      → IsFetchCause (pairs_of parts) (all_missing old.cap (keys_of old.entries) (all_needed (pairs_of parts) term frames)) holds before
      after
      ranges ranges_new trouble

-- Addresses were gained, and with what is fetched of the parts that are left they are what is fetched of all.
pub record GainsTo {X : Type 0} (Gain : List ℕ → X → X → Type 0) (parts left : List StoredPart) (term : List ℕ) (frames : List Range)
    (holds : Option Content) (old now : Kept) (before after : X) : Type 0 where
  pub more : List ℕ
  pub gained : Gain more before after
  pub leads : (rest : List ℕ) → AreGatheredFrom left term frames holds now rest
      → AreGatheredFrom parts term frames holds old (more ++ rest)

module _ (parts : List StoredPart) (term : List ℕ) (frames : List Range) (holds : Option Content) (old : Kept) where
  pub leads-none : (ranges : Option (List ReadRange)) → Leads parts parts term frames holds old old ranges ranges
  leads-none ranges = record {
    asks = λ new ranges_new a. a;
    first = λ new f. f;
    cause = λ before after ranges_new trouble c. c;
  }

  pub gains_to-none : {X : Type 0} (Gain : List ℕ → X → X → Type 0) (sink : X) → Gain [] sink sink
      → GainsTo Gain parts parts term frames holds old old sink sink
  gains_to-none Gain sink none = record { more = []; gained = none; leads = λ rest f. f }

module _ (parts left : List StoredPart) (part : StoredPart) (term : List ℕ) (frames : List Range) (holds : Option Content)
    (old now : Kept) (ranges ranges_now : Option (List ReadRange)) where
  module _ (l : Leads parts (part ∷ left) term frames holds old now ranges ranges_now) where
    pub leads-fails : (before after : ℕ) (ranges_new : Option (List ReadRange)) (trouble : Trouble)
        → IsCause (all_missing now.cap (keys_of now.entries) (needed part.recorded.blob part.directory term frames)) part.recorded.blob
        (IfSome holds (λ content. IsNoPart part.directory (content.blobs part.recorded.blob))) before after ranges_now ranges_new trouble
        → IsFetchCause (pairs_of parts) (all_missing old.cap (keys_of old.entries) (all_needed (pairs_of parts) term frames)) holds before
        after
        ranges ranges_new trouble
    leads-fails before after ranges_new trouble c =
        l.cause before after ranges_new trouble
        (cause-first (pairs_of left) (part.recorded, part.directory) term frames now holds before after ranges_now ranges_new trouble c)

    pub leads-stops : (new : Kept) → AsksFirst (needed part.recorded.blob part.directory term frames) holds now new
        → AsksFirst (all_needed (pairs_of parts) term frames) holds old new
    leads-stops new f =
        l.first new
        (first-join holds now now new ranges_now ranges_now [] (needed part.recorded.blob part.directory term frames)
        (all_needed (pairs_of left) term frames) (asks-none holds now ranges_now) f)

    pub leads-step : (next : Kept) (ranges_next : Option (List ReadRange))
        → Asks (needed part.recorded.blob part.directory term frames) holds now next ranges_now ranges_next
        → Leads parts left term frames holds old next ranges ranges_next
    leads-step next ranges_next a = record {
      asks = λ new ranges_new b.
          l.asks new ranges_new
          (asks-join holds now next new ranges_now ranges_next ranges_new (needed part.recorded.blob part.directory term frames)
          (all_needed (pairs_of left) term frames) a b);
      first = λ new f.
          let others : List Block = all_needed (pairs_of left) term frames in
          l.first new
          (subst (λ (bs : List Block). AsksFirst (needed part.recorded.blob part.directory term frames ++ bs) holds now new)
          (append-nil others)
          (first-join holds now next new ranges_now ranges_next (needed part.recorded.blob part.directory term frames) others [] a f));
      cause = λ before after ranges_new trouble c.
          l.cause before after ranges_new trouble
          (cause-later (pairs_of left) (part.recorded, part.directory) term frames now holds next before after ranges_now ranges_next
          ranges_new trouble a c);
    }

module _ (parts : List StoredPart) (term : List ℕ) (frames : List Range) (holds : Option Content) (old now : Kept) where
  pub leads-end : (ranges ranges_now : Option (List ReadRange)) (left : List StoredPart) → left ≡ []
      → Leads parts left term frames holds old now ranges ranges_now
      → Asks (all_needed (pairs_of parts) term frames) holds old now ranges ranges_now
  leads-end ranges ranges_now [] e l = l.asks now ranges_now (asks-none holds now ranges_now)
  leads-end ranges ranges_now (part ∷ left) e l = absurd cc

  pub gains_to-end : {X : Type 0} (Gain : List ℕ → X → X → Type 0) (before after : X) (left : List StoredPart) → left ≡ []
      → GainsTo Gain parts left term frames holds old now before after
      → Gains Gain (AreGatheredFrom parts term frames holds old) before after
  gains_to-end Gain before after [] e g = record {
    more = g.more;
    gained = g.gained;
    kind = subst (AreGatheredFrom parts term frames holds old) (append-nil g.more) (g.leads [] (gathered-none term frames holds now));
  }
  gains_to-end Gain before after (part ∷ left) e g = absurd cc

pub told_at : (parts : List StoredPart) (place : ℕ) (part : StoredPart) → AllByRecursion (λ p. IsRecorded p.recorded p.directory) parts
    → place < length parts → part ≡ get_or parts place part → IsRecorded part.recorded part.directory
told_at [] place part a l is = absurd (omega arith)
told_at (first ∷ parts) zero part a l is = subst (λ (p : StoredPart). IsRecorded p.recorded p.directory) (sym is) a.0
told_at (first ∷ parts) (suc place) part a l is = told_at parts place part a.1 (omega arith) is

-- the part at the place, and those after it
pub left_at : (parts : List StoredPart) (place : ℕ) (part : StoredPart) → place < length parts → part ≡ get_or parts place part
    → drop place parts ≡ part ∷ drop (place + 1) parts
left_at parts place part l is = drop_more parts place part l ∙ ap (λ (p : StoredPart). p ∷ drop (place + 1) parts) (sym is)

module _ (parts : List StoredPart) (place : ℕ) (part : StoredPart) (term : List ℕ) (frames : List Range) (holds holds_now : Option Content)
    (old now : Kept) (ranges ranges_now : Option (List ReadRange)) (within : place < length parts) (is : part ≡ get_or parts place part)
    (same : holds_now ≡ holds) where
  module _ (l : Leads parts (drop place parts) term frames holds old now ranges ranges_now) where
    split : Leads parts (part ∷ drop (place + 1) parts) term frames holds old now ranges ranges_now
    split =
        subst (λ (left : List StoredPart). Leads parts left term frames holds old now ranges ranges_now)
        (left_at parts place part within is) l

    pub turn-fails : (before before_now after : ℕ) (ranges_new : Option (List ReadRange)) (trouble : Trouble) → before_now ≡ before
        → IsCause (all_missing now.cap (keys_of now.entries) (needed part.recorded.blob part.directory term frames)) part.recorded.blob
        (IfSome holds_now (λ content. IsNoPart part.directory (content.blobs part.recorded.blob))) before_now after ranges_now ranges_new
        trouble
        → IsFetchCause (pairs_of parts) (all_missing old.cap (keys_of old.entries) (all_needed (pairs_of parts) term frames)) holds before
        after
        ranges ranges_new trouble
    turn-fails before before_now after ranges_new trouble e c =
        leads-fails parts (drop (place + 1) parts) part term frames holds old now ranges ranges_now split before after ranges_new
        trouble
        (subst
        (λ (n : ℕ). IsCause (all_missing now.cap (keys_of now.entries) (needed part.recorded.blob part.directory term frames))
        part.recorded.blob (IfSome holds (λ content. IsNoPart part.directory (content.blobs part.recorded.blob))) n after ranges_now
        ranges_new
        trouble)
        e
        (subst
        (λ (h : Option Content). IsCause
        (all_missing now.cap (keys_of now.entries) (needed part.recorded.blob part.directory term frames)) part.recorded.blob
        (IfSome h (λ content. IsNoPart part.directory (content.blobs part.recorded.blob))) before_now after ranges_now ranges_new trouble)
        same c))

    pub turn-stops : (new : Kept) → AsksFirst (needed part.recorded.blob part.directory term frames) holds_now now new
        → AsksFirst (all_needed (pairs_of parts) term frames) holds old new
    turn-stops new f =
        leads-stops parts (drop (place + 1) parts) part term frames holds old now ranges ranges_now split new
        (subst (λ (h : Option Content). AsksFirst (needed part.recorded.blob part.directory term frames) h now new) same f)

    pub turn-step : (next : Kept) (ranges_next : Option (List ReadRange))
        → Asks (needed part.recorded.blob part.directory term frames) holds_now now next ranges_now ranges_next
        → Leads parts (drop (place + 1) parts) term frames holds old next ranges ranges_next
    turn-step next ranges_next a =
        leads-step parts (drop (place + 1) parts) part term frames holds old now ranges ranges_now split next ranges_next
        (subst (λ (h : Option Content). Asks (needed part.recorded.blob part.directory term frames) h now next ranges_now ranges_next)
        same a)

  pub turn-gains : {X : Type 0} (Gain : List ℕ → X → X → Type 0)
      → ((xs ys : List ℕ) (first middle last : X) → Gain xs first middle → Gain ys middle last → Gain (xs ++ ys) first last)
      → (before middle after : X) → GainsTo Gain parts (drop place parts) term frames holds old now before middle
      → (next : Kept) (ranges_next : Option (List ReadRange)) → AllByRecursion (λ p. IsRecorded p.recorded p.directory) parts
      → Gains Gain
      (AreGathered (HasTerm part.directory term) frames part.recorded.blob part.directory.low (part.directory.high + 1) holds_now now)
      middle after
      → Asks (needed part.recorded.blob part.directory term frames) holds_now now next ranges_now ranges_next
      → GainsTo Gain parts (drop (place + 1) parts) term frames holds old next before after
  turn-gains Gain joins before middle after l next ranges_next told g a =
      let leads : (rest : List ℕ) → AreGatheredFrom (part ∷ drop (place + 1) parts) term frames holds now rest
      → AreGatheredFrom parts term frames holds old (l.more ++ rest) =
      subst
      (λ (left : List StoredPart). (rest : List ℕ) → AreGatheredFrom left term frames holds now rest
      → AreGatheredFrom parts term frames holds old (l.more ++ rest))
      (left_at parts place part within is) l.leads in
      record {
        more = l.more ++ g.more;
        gained = joins l.more g.more before middle after l.gained g.gained;
        leads = λ rest f.
            subst (AreGatheredFrom parts term frames holds old) (sym (append_assoc l.more g.more rest))
            (leads (g.more ++ rest)
            (gathered-first part (drop (place + 1) parts) term frames now next g.more rest (told_at parts place part told within is) holds
            (needed part.recorded.blob part.directory term frames) ranges_now ranges_next
            (subst
            (λ (h : Option Content). AreGathered (HasTerm part.directory term) frames part.recorded.blob part.directory.low
            (part.directory.high + 1) h now g.more)
            same g.kind)
            (subst (λ (h : Option Content). Asks (needed part.recorded.blob part.directory term frames) h now next ranges_now ranges_next)
            same a)
            f));
      }
