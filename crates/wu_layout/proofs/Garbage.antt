-- Flushes and jobs drop dead postings, and nothing else.
use Rattle.std.proofs.Common.{◌≡◌, ℕ, zero, suc, Bool, true, false, cond, List, [], ◌∷◌, ◌++◌, filter, drop, Option, Some, None, IfSome}
use Rattle.std.proofs.Common.{refl, ap, sym, ◌∙◌, subst, ⊎_elim, inl, inr, append-nil}
use Rattle.wu_layout.specs.Postings.{Posting, is_live, live_of, cut}
use Rattle.wu_layout.specs.Layouts.{Text, Part, Job, Layout, entry_of, ranges_of, stored_in, homes_of, postings_of, parts_before}
use Rattle.wu_layout.specs.Layouts.{parts_taken, parts_after}
use Rattle.wu_layout.specs.Invariants.{IsIndexed, IsLayoutOf}
use Rattle.wu_layout.specs.Steps.{flushed, flush, save, replaced, end_job, job_of, with_terms_left, unit_of, unit, work}
use Rattle.wu_layout.specs.Changes.{IsSublist, KeepsLivePostings}
use Rattle.wu_layout.proofs.HomeLemmas.{postings_split, stored-append, stored_split}
use Rattle.wu_layout.proofs.EntryLemmas.{IfSome-map2}
use Rattle.wu_layout.proofs.Flushes.{layout_after_flush, layout_after_save}
use Rattle.wu_layout.proofs.Units.{layout_after_work}

-- ---- what flushes and jobs leave

pub postings_after_flush : (layout : Layout)
    → postings_of (flush layout).parts (flush layout).memory
    ≡ stored_in layout.parts ++ live_of (ranges_of layout.files) layout.memory
postings_after_flush layout = of_kept (live_of (ranges_of layout.files) layout.memory)
  where
    of_kept : (kept : List Posting)
        → postings_of (flushed kept layout).parts (flushed kept layout).memory ≡ stored_in layout.parts ++ kept
    of_kept [] = postings_split layout.parts []
    of_kept (posting ∷ postings) =
        let part : Part = record { blob = layout.blob; generation = 0; postings = posting ∷ postings } in
        postings_split (layout.parts ++ part ∷ []) []
        ∙ append-nil (stored_in (layout.parts ++ part ∷ []))
        ∙ stored-append layout.parts (part ∷ [])
        ∙ ap (λ (ps : List Posting). stored_in layout.parts ++ ps) (append-nil (posting ∷ postings))

stored_after_job : (kept : List Posting) (job : Job) (layout : Layout)
    → stored_in (replaced kept job layout).parts
    ≡ stored_in (parts_before job layout.parts) ++ (kept ++ stored_in (parts_after job layout.parts))
stored_after_job [] job layout = stored-append (parts_before job layout.parts) (parts_after job layout.parts)
stored_after_job (posting ∷ postings) job layout = stored-append (parts_before job layout.parts) (_ ∷ parts_after job layout.parts)

-- ---- sublists

module _ {X : Type 0} where
  same_sublist : (xs : List X) → IsSublist xs xs
  same_sublist [] = tt
  same_sublist (x ∷ xs) = inl (refl, same_sublist xs)

  sublist_trans : (xs ys zs : List X) → IsSublist xs ys → IsSublist ys zs → IsSublist xs zs
  sublist_trans [] ys zs a b = tt
  sublist_trans (x ∷ xs) [] zs a b = absurd a
  sublist_trans (x ∷ xs) (y ∷ ys) [] a b = absurd b
  sublist_trans (x ∷ xs) (y ∷ ys) (z ∷ zs) a b =
      ⊎_elim
      (λ h.
      ⊎_elim
      (λ g. inl (g.0 ∙ h.0, sublist_trans xs ys zs g.1 h.1))
      (λ g. inr (sublist_trans (x ∷ xs) ys zs g h.1))
      a)
      (λ h. inr (sublist_trans (x ∷ xs) (y ∷ ys) zs a h))
      b

  sublist_more : (xs : List X) (y : X) (ys : List X) → IsSublist xs ys → IsSublist xs (y ∷ ys)
  sublist_more [] y ys a = tt
  sublist_more (x ∷ xs) y ys a = inr a

  sublist-filter : (test : X → Bool) (xs : List X) → IsSublist (filter test xs) xs
  sublist-filter test [] = tt
  sublist-filter test (x ∷ xs) =
      elim (test x) as (λ b. IsSublist (cond b (x ∷ filter test xs) (filter test xs)) (x ∷ xs)) [
        | true ↦ inl (refl, sublist-filter test xs)
        | false ↦ sublist_more (filter test xs) x xs (sublist-filter test xs)
      ]

  sublist-append : (xs ys us vs : List X) → IsSublist xs ys → IsSublist us vs → IsSublist (xs ++ us) (ys ++ vs)
  sublist-append [] [] us vs a b = b
  sublist-append [] (y ∷ ys) us vs a b = sublist_more us y (ys ++ vs) (sublist-append [] ys us vs tt b)
  sublist-append (x ∷ xs) [] us vs a b = absurd a
  sublist-append (x ∷ xs) (y ∷ ys) us vs a b =
      ⊎_elim
      (λ h. inl (h.0, sublist-append xs ys us vs h.1 b))
      (λ h. inr (sublist-append (x ∷ xs) ys us vs h b))
      a

-- ---- nothing comes back

abbrev all_of : Layout → List Posting
all_of layout = postings_of layout.parts layout.memory

sublist_after_flush : (layout : Layout) → IsSublist (all_of (flush layout)) (all_of layout)
sublist_after_flush layout =
    subst (λ ps. IsSublist ps (all_of layout)) (sym (postings_after_flush layout))
    (subst (IsSublist (stored_in layout.parts ++ live_of (ranges_of layout.files) layout.memory))
    (sym (postings_split layout.parts layout.memory))
    (sublist-append (stored_in layout.parts) (stored_in layout.parts) (live_of (ranges_of layout.files) layout.memory) layout.memory
    (same_sublist (stored_in layout.parts))
    (sublist-filter (λ p. is_live (ranges_of layout.files) p.address) layout.memory)))

memory_after_job : (kept : List Posting) (job : Job) (layout : Layout) → (replaced kept job layout).memory ≡ layout.memory
memory_after_job [] job layout = refl
memory_after_job (posting ∷ postings) job layout = refl

pub postings_after_job : (job : Job) (layout : Layout)
    → all_of (end_job job layout)
    ≡ (stored_in (parts_before job layout.parts)
    ++ (live_of job.live (stored_in (parts_taken job layout.parts)) ++ stored_in (parts_after job layout.parts)))
    ++ layout.memory
postings_after_job job layout =
    let kept : List Posting = live_of job.live (stored_in (parts_taken job layout.parts)) in
    postings_split (end_job job layout).parts (end_job job layout).memory
    ∙ ap (λ (ps : List Posting). ps ++ (end_job job layout).memory) (stored_after_job kept job layout)
    ∙ ap (λ (ps : List Posting).
    (stored_in (parts_before job layout.parts) ++ (kept ++ stored_in (parts_after job layout.parts))) ++ ps)
    (memory_after_job kept job layout)

sublist_after_job : (job : Job) (layout : Layout) → IsSublist (all_of (end_job job layout)) (all_of layout)
sublist_after_job job layout =
    let before : List Posting = stored_in (parts_before job layout.parts) in
    let taken : List Posting = stored_in (parts_taken job layout.parts) in
    let after : List Posting = stored_in (parts_after job layout.parts) in
    let kept : List Posting = live_of job.live taken in
    subst (λ ps. IsSublist ps (all_of layout)) (sym (postings_after_job job layout))
    (subst (IsSublist ((before ++ (kept ++ after)) ++ layout.memory))
    (sym (postings_split layout.parts layout.memory
    ∙ ap (λ (ps : List Posting). ps ++ layout.memory) (stored_split job layout.parts)))
    (sublist-append (before ++ (kept ++ after)) (before ++ (taken ++ after)) layout.memory layout.memory
    (sublist-append before before (kept ++ after) (taken ++ after) (same_sublist before)
    (sublist-append kept taken after after (sublist-filter (λ p. is_live job.live p.address) taken) (same_sublist after)))
    (same_sublist layout.memory)))

sublist_after_term : (terms : List (List ℕ)) (job : Job) (layout : Layout)
    → IsSublist (all_of (with_terms_left terms job layout)) (all_of layout)
sublist_after_term [] job layout = sublist_after_job job layout
sublist_after_term (term ∷ terms) job layout = same_sublist (all_of layout)

sublist_after_unit : (o : Option Job) (layout : Layout) → IsSublist (all_of (unit_of o layout)) (all_of layout)
sublist_after_unit None layout = same_sublist (all_of layout)
sublist_after_unit (Some job) layout = sublist_after_term (drop 1 job.terms_left) job layout

sublist_after_work : (n : ℕ) (layout : Layout) → IsSublist (all_of (work n layout)) (all_of layout)
sublist_after_work zero layout = same_sublist (all_of layout)
sublist_after_work (suc n) layout =
    sublist_trans (all_of (work n (unit layout))) (all_of (unit layout)) (all_of layout)
    (sublist_after_work n (unit layout)) (sublist_after_unit (job_of layout) layout)

-- ---- files stay

files_after_flushed : (kept : List Posting) (layout : Layout) → (flushed kept layout).files ≡ layout.files
files_after_flushed [] layout = refl
files_after_flushed (posting ∷ postings) layout = refl

pub files_after_flush : (layout : Layout) → (flush layout).files ≡ layout.files
files_after_flush layout = files_after_flushed (live_of (ranges_of layout.files) layout.memory) layout

files_after_replaced : (kept : List Posting) (job : Job) (layout : Layout) → (replaced kept job layout).files ≡ layout.files
files_after_replaced [] job layout = refl
files_after_replaced (posting ∷ postings) job layout = refl

files_after_term : (terms : List (List ℕ)) (job : Job) (layout : Layout) → (with_terms_left terms job layout).files ≡ layout.files
files_after_term [] job layout = files_after_replaced (live_of job.live (stored_in (parts_taken job layout.parts))) job layout
files_after_term (term ∷ terms) job layout = refl

files_after_unit : (o : Option Job) (layout : Layout) → (unit_of o layout).files ≡ layout.files
files_after_unit None layout = refl
files_after_unit (Some job) layout = files_after_term (drop 1 job.terms_left) job layout

pub files_after_work : (n : ℕ) (layout : Layout) → (work n layout).files ≡ layout.files
files_after_work zero layout = refl
files_after_work (suc n) layout = files_after_work n (unit layout) ∙ files_after_unit (job_of layout) layout

-- ---- all of it

module _ (is_file : ℕ → Bool) (text_of : ℕ → Text) where
  keeps_live : (before after : Layout) → IsLayoutOf is_file text_of before → IsLayoutOf is_file text_of after
      → after.files ≡ before.files → IsSublist (all_of after) (all_of before) → KeepsLivePostings before after
  keeps_live before after d e same less = record {
    files = same;
    live = λ ino.
        IfSome-map2
        (λ entry. IsIndexed (text_of ino) entry (homes_of before.parts before.memory) (all_of before))
        (λ entry. IsIndexed (text_of ino) entry (homes_of after.parts after.memory) (all_of after))
        (λ entry. cut entry.range (all_of after) ≡ cut entry.range (all_of before))
        (entry_of before.files ino)
        (λ entry i j. j.whole ∙ sym i.whole)
        (d.texts.each ino)
        (subst
        (λ files. IfSome (entry_of files ino) (λ entry. IsIndexed (text_of ino) entry (homes_of after.parts after.memory) (all_of after)))
        same (e.texts.each ino));
    none_new = less;
  }

  pub flush_keeps_live : (layout : Layout) → IsLayoutOf is_file text_of layout → KeepsLivePostings layout (flush layout)
  flush_keeps_live layout d =
      keeps_live layout (flush layout) d (layout_after_flush is_file text_of layout d) (files_after_flush layout)
      (sublist_after_flush layout)

  pub save_keeps_live : (layout : Layout) → IsLayoutOf is_file text_of layout → KeepsLivePostings layout (save layout)
  save_keeps_live layout d =
      keeps_live layout (save layout) d (layout_after_save is_file text_of layout d) (files_after_flush layout)
      (sublist_after_flush layout)

  pub work_keeps_live : (n : ℕ) (layout : Layout) → IsLayoutOf is_file text_of layout → KeepsLivePostings layout (work n layout)
  work_keeps_live n layout d =
      keeps_live layout (work n layout) d (layout_after_work is_file text_of n layout d) (files_after_work n layout)
      (sublist_after_work n layout)
