-- What an event does to the layout: a file's range is released, and a file gets a text. After each step the layout is one of the
-- files and texts after the event.
use Rattle.std.proofs.Common.{◌≡◌, ◌≢◌, ◌⊎◌, ℕ, ◌+◌, ◌==◌, ◌&&◌, not, Bool, true, false, List, ◌++◌, length, Option, Some, None, IfSome}
use Rattle.std.proofs.Common.{refl, ap, sym, ◌∙◌, subst, arith, ⊎_elim, inl, length-append, eq-zero-or-pos}
use Rattle.std.specs.Ordering.{nat_cmp}
use Rattle.std.specs.List.Sorted.{IsStrictlySortedBy}
use Rattle.std.specs.Map.{remove_entry}
use Rattle.std.specs.BTreeMap.{is_at, insert_entry}
use Rattle.std.proofs.lemmas.Bool.{cases_eq, eq-eqb, ne_eqb, and_left, not_from_true}
use Rattle.wu_base.proofs.Options.{not_some}
use Rattle.wu_layout.specs.Postings.{Posting, placed_from, has_some, Ascend}
use Rattle.wu_layout.specs.Layouts.{homes_of, Text, FileEntry, Part, Job, Layout, first_layout, entry_of, stored_in, postings_of}
use Rattle.wu_layout.specs.Layouts.{parts_taken}
use Rattle.wu_layout.specs.Invariants.{IsIndexed, RangesAreDisjoint, AddressesAscend, GenerationsAreBounded, IsAmong, JobIsUnderWay}
use Rattle.wu_layout.specs.Invariants.{IsLayoutOf}
use Rattle.wu_layout.specs.Changes.{DiffersAt, DropsFile, AddsFile}
use Rattle.wu_layout.specs.Steps.{release, place}
use Rattle.wu_layout.proofs.PostingLemmas.{Ascend-append, Ascend-placed, length-placed, cut_below, none_from_cut}
use Rattle.wu_layout.proofs.EntryLemmas.{IfSome-same, entry_put, others_after_put, none_after_removal, others_after_removal}
use Rattle.wu_layout.proofs.RangeLemmas.{ranges_after_release, ranges_after_place}
use Rattle.wu_layout.proofs.HomeLemmas.{postings-append, taken_bounded}
use Rattle.wu_layout.proofs.TextLemmas.{entry_for, texts_after_release, texts_after_place}
use Rattle.wu_layout.proofs.BlobLemmas.{once_other, blobs_after_release, blobs_after_place}

-- ---- addresses and generations

pub addresses_after_place : (next : ℕ) (parts : List Part) (memory : List Posting) (terms : List (List ℕ))
    → AddressesAscend next parts memory → AddressesAscend (next + length terms) parts (memory ++ placed_from next terms)
addresses_after_place next parts memory terms d = record {
  ascend =
      subst (λ ps. Ascend 0 (next + length terms) ps) (sym (postings-append parts memory (placed_from next terms)))
      (Ascend-append 0 next (next + length terms) (postings_of parts memory) (placed_from next terms) d.ascend (Ascend-placed next terms));
  filled = d.filled;
}

pub generations_after_place : (next flushes : ℕ) (parts : List Part) (memory : List Posting) (terms : List (List ℕ))
    → GenerationsAreBounded next flushes parts memory
    → GenerationsAreBounded (next + length terms) flushes parts (memory ++ placed_from next terms)
generations_after_place next flushes parts memory terms d = record {
  never_rise = d.never_rise;
  flushed = d.flushed;
  placed = omega (arith, d.placed);
  unflushed = λ l.
      ⊎_elim
      (λ z. omega (arith, d.placed, length-append memory (placed_from next terms), length-placed next terms))
      (λ p. omega (arith, d.unflushed p))
      (eq-zero-or-pos (length memory));
}

-- ---- the job

module _ (files : List (ℕ × FileEntry)) (parts : List Part) (ino : ℕ) where
  abbrev WasLive : Job → FileEntry → Type 0
  WasLive job entry = (has_some entry.range (stored_in (parts_taken job parts)) ≡ false) ⊎ IsAmong job.live entry.range

  pub job_after_release : (is_file : ℕ → Bool) (next : ℕ) (o : Option Job) → RangesAreDisjoint is_file next files
      → JobIsUnderWay files parts o → JobIsUnderWay (remove_entry (is_at (nat_cmp ino)) files) parts o
  job_after_release is_file next None ranges d = tt
  job_after_release is_file next (Some job) ranges d =
      let left : List (ℕ × FileEntry) = remove_entry (is_at (nat_cmp ino)) files in
      record {
        number = d.number;
        taken = d.taken;
        terms = d.terms;
        was_live = λ n.
            ⊎_elim
            (λ e. subst (λ x. IfSome (entry_of left x) (WasLive job)) (sym e)
            (IfSome-same _ _ None (none_after_removal files ino ranges.by_number) tt))
            (λ h. IfSome-same _ _ _ (others_after_removal files ino n h) (d.was_live n))
            (cases_eq n ino);
      }

  pub job_after_place : (next : ℕ) (memory : List Posting) (entry : FileEntry) (o : Option Job) → AddressesAscend next parts memory
      → entry.range.start ≡ next → JobIsUnderWay files parts o → JobIsUnderWay (insert_entry nat_cmp files ino entry) parts o
  job_after_place next memory entry None addresses s d = tt
  job_after_place next memory entry (Some job) addresses s d =
      let now : List (ℕ × FileEntry) = insert_entry nat_cmp files ino entry in
      let taken : List Posting = stored_in (parts_taken job parts) in
      let bounds = taken_bounded next parts memory addresses job in
      let none : has_some entry.range taken ≡ false =
      none_from_cut entry.range taken (cut_below entry.range bounds.0 bounds.1 taken bounds.3 (omega (arith, bounds.2))) in
      record {
        number = d.number;
        taken = d.taken;
        terms = d.terms;
        was_live = λ n.
            ⊎_elim
            (λ e. subst (λ x. IfSome (entry_of now x) (WasLive job)) (sym e)
            (IfSome-same _ _ (Some entry) (entry_put files ino entry) (inl none)))
            (λ h. IfSome-same _ _ _ (others_after_put files ino entry n h) (d.was_live n))
            (cases_eq n ino);
      }

-- ---- all of it

-- nothing is indexed before there is a file
pub first_is_layout : (text_of : ℕ → Text) → IsLayoutOf (λ ino. false) text_of first_layout
unfolding IsStrictlySortedBy
first_is_layout text_of = record {
  ranges = record { by_number = tt; of_files = λ ino. refl; within = λ ino. tt; apart = λ p q h. tt };
  addresses = record { ascend = omega arith; filled = tt };
  texts = record { each = λ ino. tt };
  generations = record { never_rise = tt; flushed = omega arith; placed = omega arith; unflushed = λ l. omega arith };
  work = tt;
  blobs = record {
    positive = omega arith;
    distinct = λ number l. omega (arith, once_other 0 number (λ e. omega arith));
    below = λ number l. omega (arith, once_other 0 number (λ e. omega arith));
    of_parts = refl;
    of_stale = refl;
  };
}

-- a file's range is released: it is a file no more, or gets a new text at once
pub layout_after_release : (is_file is_file_after : ℕ → Bool) (text_of text_of_after : ℕ → Text) (layout : Layout) (ino : ℕ)
    → DropsFile ino is_file is_file_after text_of text_of_after
    → IsLayoutOf is_file text_of layout → IsLayoutOf is_file_after text_of_after (release ino layout)
layout_after_release is_file is_file_after text_of text_of_after layout ino w d = record {
  ranges = ranges_after_release is_file is_file_after layout.next layout.files ino d.ranges w.files;
  addresses = d.addresses;
  texts =
      texts_after_release text_of text_of_after layout.files layout.parts layout.memory ino w.texts d.texts is_file layout.next d.ranges;
  generations = d.generations;
  work = job_after_release layout.files layout.parts ino is_file layout.next layout.job d.ranges d.work;
  blobs = blobs_after_release layout.blob layout.files layout.parts layout.check layout.stale d.blobs ino;
}

-- a file gets a text: it is made, or its range was released
pub layout_after_place : (is_file is_file_after : ℕ → Bool) (text_of text_of_after : ℕ → Text) (layout : Layout) (ino : ℕ) (text : Text)
    → AddsFile ino text is_file is_file_after text_of text_of_after
    → IsLayoutOf is_file text_of layout → IsLayoutOf is_file_after text_of_after (place ino text layout)
layout_after_place is_file is_file_after text_of text_of_after layout ino text w d =
    let entry : FileEntry = entry_for text layout.next layout.blob in
    let none : entry_of layout.files ino ≡ None = not_some (entry_of layout.files ino) (d.ranges.of_files ino ∙ w.absent) in
    record {
      ranges = ranges_after_place is_file is_file_after layout.next layout.files ino d.ranges entry refl w.files;
      addresses = addresses_after_place layout.next layout.parts layout.memory text.terms d.addresses;
      texts =
          texts_after_place text_of text_of_after layout.files layout.parts layout.memory ino w.texts.elsewhere d.texts is_file layout.next
          layout.blob text d.ranges d.addresses d.blobs.positive w.texts.there;
      generations =
          generations_after_place layout.next layout.flushes layout.parts layout.memory text.terms d.generations;
      work = job_after_place layout.files layout.parts ino layout.next layout.memory entry layout.job d.addresses refl d.work;
      blobs = blobs_after_place layout.blob layout.files layout.parts layout.check layout.stale d.blobs ino layout.next text none;
    }

-- a file's text is replaced: its range is released, and it gets the new text
pub layout_after_text : (is_file : ℕ → Bool) (text_of text_of_after : ℕ → Text) (layout : Layout) (ino : ℕ) (text : Text)
    → is_file ino ≡ true → DiffersAt ino text_of text_of_after text
    → IsLayoutOf is_file text_of layout → IsLayoutOf is_file text_of_after (place ino text (release ino layout))
layout_after_text is_file text_of text_of_after layout ino text there texts d =
    let between : ℕ → Bool = λ n. not (n == ino) && is_file n in
    let gone : between ino ≡ false = and_left (not (ino == ino)) (is_file ino) (not_from_true (ino == ino) (eq-eqb ino ino refl)) in
    let others : (n : ℕ) → n ≢ ino → between n ≡ is_file n =
    λ n h. ap (λ b. not b && is_file n) (ne_eqb n ino h) in
    layout_after_place between is_file text_of text_of_after (release ino layout) ino text
    (record { absent = gone; files = record { there = there; elsewhere = λ n h. sym (others n h) }; texts = texts })
    (layout_after_release is_file between text_of text_of layout ino
    (record { files = record { there = gone; elsewhere = others }; texts = λ n h. refl }) d)

-- an event that changes no file and no text
pub layout_after_other : (is_file is_file_after : ℕ → Bool) (text_of text_of_after : ℕ → Text) (layout : Layout)
    → ((n : ℕ) → is_file_after n ≡ is_file n) → ((n : ℕ) → text_of_after n ≡ text_of n)
    → IsLayoutOf is_file text_of layout → IsLayoutOf is_file_after text_of_after layout
layout_after_other is_file is_file_after text_of text_of_after layout files texts d = record {
  ranges = record {
    by_number = d.ranges.by_number;
    of_files = λ ino. d.ranges.of_files ino ∙ sym (files ino);
    within = d.ranges.within;
    apart = d.ranges.apart;
  };
  addresses = d.addresses;
  texts = record {
    each = λ ino.
        subst
        (λ text.
        IfSome (entry_of layout.files ino)
        (λ entry. IsIndexed text entry (homes_of layout.parts layout.memory) (postings_of layout.parts layout.memory)))
        (sym (texts ino)) (d.texts.each ino);
  };
  generations = d.generations;
  work = d.work;
  blobs = d.blobs;
}
