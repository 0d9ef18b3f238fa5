-- What the calls of a save leave of a store's content.
use Rattle.std.proofs.Common.{◌≡◌, ◌⊎◌, inl, inr, ℕ, ◌+◌, ◌<◌, ◌≤◌, ◌==◌, true, false, cond, List, [], ◌∷◌, ◌++◌, length, get_or, drop}
use Rattle.std.proofs.Common.{refl, ap, sym, ◌∙◌, subst, arith, ⊎_elim}
use Rattle.std.specs.Prelude.{Option, Some, None, option_map, count_by}
use Rattle.std.specs.List.{AllByRecursion}
use Rattle.std.proofs.lemmas.Bool.{cases_eq, eq-eqb, ne_eqb}
use Rattle.std.proofs.lemmas.List.{drop_more}
use Rattle.wu_base.proofs.Members.{Contains-from_Has, Has-from_Contains}
use Rattle.wu_outside.specs.Content.{Content, MayDo, with_root}
use Rattle.wu_layout.proofs.BlobLemmas.{count-cons, once, once_other, once_same}
use Rattle.wu_parts.proofs.HeldParts.{put_elsewhere}
use Rattle.wu_engine.specs.Puts.{MayPut}
use Rattle.wu_engine.specs.Stands.{KeepsOthers}
use Rattle.wu_engine.specs.Saving.{AreRemoved, KeepsNamed, checkpoint_blob}
use Rattle.wu_engine.specs.SavedStores.{SomeDone, all_done, remove_blob}
use Rattle.wu_engine.proofs.OtherBlobs.{others_put}

-- ---- removals

-- the content after these blobs were removed
abbrev pub without : List ℕ → Content → Content
without [] content = content
without (blob ∷ gone) content = without gone (remove_blob blob content)

pub all_removed : (gone : List ℕ) (content : Content) → all_done remove_blob gone (Some content) ≡ Some (without gone content)
all_removed [] content = refl
all_removed (blob ∷ gone) content = all_removed gone (remove_blob blob content)

none_removed : (gone : List ℕ) → all_done remove_blob gone None ≡ None
none_removed [] = refl
none_removed (blob ∷ gone) = none_removed gone

pub root_stays : (gone : List ℕ) (content : Content) → (without gone content).root ≡ content.root
root_stays [] content = refl
root_stays (blob ∷ gone) content = root_stays gone (remove_blob blob content)

-- a blob that isn't removed stays
pub others_stay : (gone : List ℕ) (number : ℕ) (content : Content) → count_by (λ other. other == number) gone ≡ 0
    → (without gone content).blobs number ≡ content.blobs number
others_stay [] number content none = refl
others_stay (blob ∷ gone) number content none =
    let both : cond {A = ℕ} (blob == number) 1 0 + count_by (λ (other : ℕ). other == number) gone ≡ 0 =
    sym (count-cons (λ (other : ℕ). other == number) blob gone) ∙ none in
    others_stay gone number (remove_blob blob content) (omega (arith, both))
    ∙ put_elsewhere blob number None content (λ same. omega (arith, both, once_same blob number (sym same)))

-- each blob is removed or stays
pub gone_or_same : (gone : List ℕ) (number : ℕ) (content : Content)
    → ((without gone content).blobs number ≡ None) ⊎ ((without gone content).blobs number ≡ content.blobs number)
gone_or_same [] number content = inr refl
gone_or_same (blob ∷ gone) number content =
    let after : Content = without gone (remove_blob blob content) in
    ⊎_elim
    (λ none. inl none)
    (λ same. (elim (number == blob) as (λ b. after.blobs number ≡ cond b None (content.blobs number)
    → (after.blobs number ≡ None) ⊎ (after.blobs number ≡ content.blobs number)) [
      | true ↦ λ none. inl none
      | false ↦ λ here. inr here
    ]) same)
    (gone_or_same gone number (remove_blob blob content))

stays_absent : (gone : List ℕ) (number : ℕ) (content : Content) → content.blobs number ≡ None
    → (without gone content).blobs number ≡ None
stays_absent gone number content none = ⊎_elim (λ absent. absent) (λ same. same ∙ none) (gone_or_same gone number content)

all_absent : (gone : List ℕ) (content : Content) → AllByRecursion (λ blob. (without gone content).blobs blob ≡ None) gone
all_absent [] content = tt
all_absent (blob ∷ gone) content = (
  stays_absent gone blob (remove_blob blob content) (ap (λ b. cond b None (content.blobs blob)) (eq-eqb blob blob refl)),
  all_absent gone (remove_blob blob content),
)

pub are_removed : (gone : List ℕ) (before after : Option Content) → after ≡ all_done remove_blob gone before → AreRemoved gone after
are_removed gone None after done = subst (AreRemoved gone) (sym (done ∙ none_removed gone)) tt
are_removed gone (Some content) after done = subst (AreRemoved gone) (sym (done ∙ all_removed gone content)) (all_absent gone content)

-- the checkpoint's number is removed once, if there is one
pub checkpoint_count : (check number : ℕ) → 0 < number
    → count_by (λ other. other == number) (checkpoint_blob check) ≡ once check number
checkpoint_count check number l =
    ⊎_elim
    (λ e. rw (eq-eqb check 0 e) (sym (once_other check number (λ same. omega arith))))
    (λ h. rw (ne_eqb check 0 h) (omega (arith, count-cons (λ (other : ℕ). other == number) check [])))
    (cases_eq check 0)

-- where a step was done for all blobs, it was for the first ones
pub all_some : {X : Type 0} (step : ℕ → X → X) (gone : List ℕ) (old : Option X) → SomeDone step gone old (all_done step gone old)
all_some step [] old = refl
all_some step (blob ∷ gone) old = inr (all_some step gone (option_map (step blob) old))

none_done : {X : Type 0} (step : ℕ → X → X) (gone : List ℕ) (old : Option X) → SomeDone step gone old old
none_done step [] old = refl
none_done step (blob ∷ gone) old = inl refl

-- the next step of the first ones was done, or not
pub next_some : {X : Type 0} (step : ℕ → X → X) (stale rest : List ℕ) (i : ℕ) {old new : Option X} → i < length stale
    → MayDo (step (get_or stale i 0)) old new → SomeDone step (drop i stale ++ rest) old new
next_some step stale rest i {old} {new} within may =
    subst (λ (gone : List ℕ). SomeDone step (gone ++ rest) old new) (sym (drop_more stale i 0 within))
    (⊎_elim (λ same. inl same)
    (λ done. inr (subst (SomeDone step (drop (i + 1) stale ++ rest) (option_map (step (get_or stale i 0)) old)) (sym done)
    (none_done step (drop (i + 1) stale ++ rest) (option_map (step (get_or stale i 0)) old))))
    may)

-- ---- what may differ

pub named_same : (low high : ℕ) (gone : List ℕ) (told : Option Content) → KeepsNamed low high gone told told
named_same low high gone None = tt
named_same low high gone (Some content) = λ blob out kept. refl

pub named_then : (low high : ℕ) (gone : List ℕ) (before between after : Option Content) → KeepsNamed low high gone before between
    → KeepsNamed low high gone between after → KeepsNamed low high gone before after
named_then low high gone None None None a b = tt
named_then low high gone None None (Some after) a b = b
named_then low high gone None (Some between) after a b = absurd a
named_then low high gone (Some before) None after a b = absurd a
named_then low high gone (Some before) (Some between) None a b = b
named_then low high gone (Some before) (Some between) (Some after) a b = λ blob out kept. b blob out kept ∙ a blob out kept

named_others : (low high : ℕ) (gone : List ℕ) (before after : Option Content) → KeepsOthers low high before after
    → KeepsNamed low high gone before after
named_others low high gone None None keeps = tt
named_others low high gone None (Some after) keeps = keeps
named_others low high gone (Some before) None keeps = keeps
named_others low high gone (Some before) (Some after) keeps = λ blob out kept. keeps.0 blob out

pub named_put : (low high number : ℕ) (gone : List ℕ) (before after : Option Content) → low ≤ number → number < high
    → MayPut number before after → KeepsNamed low high gone before after
named_put low high number gone before after l h may =
    named_others low high gone before after (others_put low high number before after l h may)

root_set : (low high : ℕ) (gone root : List ℕ) (told : Option Content) → KeepsNamed low high gone told (option_map (with_root root) told)
root_set low high gone root None = tt
root_set low high gone root (Some content) = λ blob out kept. refl

pub named_root : (low high : ℕ) (gone root : List ℕ) (before after : Option Content) → MayDo (with_root root) before after
    → KeepsNamed low high gone before after
named_root low high gone root before after may =
    ⊎_elim
    (λ same. subst (KeepsNamed low high gone before) (sym same) (named_same low high gone before))
    (λ done. subst (KeepsNamed low high gone before) (sym done) (root_set low high gone root before))
    may

one_more : (low high blob : ℕ) (gone : List ℕ) (before after : Option Content)
    → KeepsNamed low high gone (option_map (remove_blob blob) before) after → KeepsNamed low high (blob ∷ gone) before after
one_more low high blob gone None None keeps = tt
one_more low high blob gone None (Some after) keeps = keeps
one_more low high blob gone (Some before) None keeps = keeps
one_more low high blob gone (Some before) (Some after) keeps = λ number out kept.
    keeps number out (λ there. kept (Contains-from_Has number (blob ∷ gone) (inr (Has-from_Contains number gone there))))
    ∙ put_elsewhere blob number None before (λ same. kept (Contains-from_Has number (blob ∷ gone) (inl (sym same))))

pub named_some : (low high : ℕ) (gone : List ℕ) (before after : Option Content) → SomeDone remove_blob gone before after
    → KeepsNamed low high gone before after
named_some low high [] before after same = subst (KeepsNamed low high [] before) (sym same) (named_same low high [] before)
named_some low high (blob ∷ gone) before after some =
    ⊎_elim
    (λ same. subst (KeepsNamed low high (blob ∷ gone) before) (sym same) (named_same low high (blob ∷ gone) before))
    (λ more. one_more low high blob gone before after (named_some low high gone (option_map (remove_blob blob) before) after more))
    some

-- ---- what may differ after each call of a save

module _ (low : ℕ) (gone : List ℕ) {before flushed : Option Content}
    (first : MayPut low before flushed) where
  pub named_flush : KeepsNamed low (low + 2) gone before flushed
  named_flush = named_put low (low + 2) low gone before flushed (omega arith) (omega arith) first

  module _ (next : ℕ) (least : low ≤ next) (most : next ≤ low + 1) {put : Option Content}
      (second : MayPut next flushed put) where
    pub named_checkpoint : KeepsNamed low (low + 2) gone before put
    named_checkpoint =
        named_then low (low + 2) gone before flushed put named_flush
        (named_put low (low + 2) next gone flushed put least (omega (arith, most)) second)

    module _ (root : List ℕ) {rooted : Option Content} (third : MayDo (with_root root) put rooted) where
      pub named_rooted : KeepsNamed low (low + 2) gone before rooted
      named_rooted =
          named_then low (low + 2) gone before put rooted named_checkpoint (named_root low (low + 2) gone root put rooted third)

      pub named_removed : (after : Option Content) → SomeDone remove_blob gone rooted after → KeepsNamed low (low + 2) gone before after
      named_removed after some =
          named_then low (low + 2) gone before rooted after named_rooted (named_some low (low + 2) gone rooted after some)
