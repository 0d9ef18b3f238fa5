-- The walk over the parts of an index and the texts within their spans, one part after another.
use Rattle.std.proofs.Common.{◌≡◌, ℕ, ◌+◌, ◌<◌, ◌≤◌, true, List, [], ◌∷◌, ◌++◌, length, get_or, take, drop, refl, ap, sym, ◌∙◌, subst}
use Rattle.std.proofs.Common.{zero, suc, arith, inl, inr, take_all, ⊎_elim}
use Rattle.std.specs.Prelude.{Option, Some, None, IfSome}
use Rattle.std.specs.List.{AllByRecursion, list_any}
use Rattle.std.proofs.Math.Seq.{take-add}
use Rattle.std.proofs.lemmas.Bool.{and_parts, leb-true, or_cases}
use Rattle.std.proofs.lemmas.List.{drop-drop, drop_more, length-drop, take-append-drop, take_more}
use Rattle.wu_base.specs.declared.addresses.PartRec.{PartRec}
use Rattle.wu_base.specs.Ranges.{AreApart}
use Rattle.wu_base.proofs.EachLemmas.{each-append, each-drop, each-map, each-push, each-take}
use Rattle.wu_outside.specs.Content.{Content}
use Rattle.wu_image.specs.declared.records.FileRec.{FileRec}
use Rattle.wu_image.specs.LayoutRules.{SpansAscend, lies_in}
use Rattle.wu_check.specs.declared.walking.Verdict.{Verdict}
use Rattle.wu_check.specs.declared.walking.Verdict.TheVariants.{Sound, WrongPart, BrokenText}
use Rattle.wu_check.specs.Walking.{FindsPart, FindsText, FindsWrong, IsReadable, IsVerdict, leftmost_of, ranges_of}
use Rattle.wu_check.specs.Wrong.{AreSoundTexts, IsFirstText, IsSoundPart, IsWrongPart, IsWrongText}
use Rattle.wu_check.proofs.FirstLemmas.{first_at_end, first_behind, first_front}
use Rattle.wu_check.proofs.ToldContents.{told_before, told_both}
use Rattle.wu_check.proofs.SoundParts.{IsElsewhere, LiesIn, sound_beside, sound_within, starts_before, starts_behind}

abbrev pub no_part : PartRec
no_part = record { blob = 0; size = 0; generation = 0; low = 0; high = 0; stored = 0 }

-- So many parts and files are behind the walk: those files start before an address, where the spans of the parts left begin, and the
-- others don't.
pub record IsReached (files : List FileRec) (parts : List PartRec) (index done : ℕ) : Type 0 where
  pub within : done ≤ length files
  pub from : ℕ
  pub before : AllByRecursion (λ file. file.range.start < from) (take done files)
  pub behind : AllByRecursion (λ file. from ≤ file.range.start) (drop done files)
  pub passed : AllByRecursion (λ part. part.high < from) (take index parts)
  pub next : ℕ
  pub left : SpansAscend from (drop index parts) next

-- none is behind it at first
pub reached_none : (files : List FileRec) (parts : List PartRec) → (next : ℕ) × SpansAscend 0 parts next → IsReached files parts 0 0
reached_none files parts spans = record {
  within = omega arith;
  from = 0;
  before = tt;
  behind = all_from files;
  passed = tt;
  next = spans.0;
  left = spans.1;
}
  where
    all_from : (some : List FileRec) → AllByRecursion (λ file. 0 ≤ file.range.start) some
    all_from [] = tt
    all_from (file ∷ some) = (omega arith, all_from some)

-- a range that lies in a part of the list, and in none of those before
lies_past : (file : FileRec) (from : ℕ) (before rest : List PartRec) → 0 < file.range.len → from ≤ file.range.start
    → AllByRecursion (λ part. part.high < from) before → list_any (λ part. lies_in file.range part) (before ++ rest) ≡ true
    → list_any (λ part. lies_in file.range part) rest ≡ true
lies_past file from [] rest filled low all some = some
lies_past file from (part ∷ before) rest filled low all some =
    ⊎_elim
    (λ (lies : lies_in file.range part ≡ true).
    let end : file.range.start + file.range.len ≤ part.high + 1 = leb-true _ _ (and_parts _ _ lies).1 in
    absurd (omega (arith, end, filled, low, all.0)))
    (λ (others : list_any (λ p. lies_in file.range p) (before ++ rest) ≡ true). lies_past file from before rest filled low all.1 others)
    (or_cases (lies_in file.range part) (list_any (λ p. lies_in file.range p) (before ++ rest)) some)

-- it starts before the spans that are left
lies_in_none : (file : FileRec) (from next : ℕ) (parts : List PartRec) → file.range.start < from → SpansAscend from parts next
    → list_any (λ part. lies_in file.range part) parts ≡ true → ⊥
lies_in_none file from next [] early spans some = cc
lies_in_none file from next (part ∷ parts) early spans some =
    ⊎_elim
    (λ (lies : lies_in file.range part ≡ true).
    let low : part.low ≤ file.range.start = leb-true _ _ (and_parts _ _ lies).0 in absurd (omega (arith, low, early, spans.0)))
    (λ (others : list_any (λ p. lies_in file.range p) parts ≡ true).
    lies_in_none file (part.high + 1) next parts (omega (arith, early, spans.0, spans.1)) spans.2 others)
    (or_cases (lies_in file.range part) (list_any (λ p. lies_in file.range p) parts) some)

module _ (files : List FileRec) (parts : List PartRec) (i done n : ℕ) (within : i < length parts) (few : n ≤ length (drop done files))
    (reached : IsReached files parts i done) where
  abbrev pub its_part : PartRec
  its_part = get_or parts i no_part

  abbrev pub own : List FileRec
  own = take n (drop done files)

  abbrev pub others : List FileRec
  others = drop n (drop done files)

  parts_left : drop i parts ≡ its_part ∷ drop (i + 1) parts
  parts_left = drop_more parts i no_part within

  spans : SpansAscend reached.from (its_part ∷ drop (i + 1) parts) reached.next
  spans = subst (λ (l : List PartRec). SpansAscend reached.from l reached.next) parts_left reached.left

  split_parts : parts ≡ take i parts ++ its_part ∷ drop (i + 1) parts
  split_parts = sym (take-append-drop i parts) ∙ ap (λ (l : List PartRec). take i parts ++ l) parts_left

  split_files : files ≡ take done files ++ (own ++ others)
  split_files =
      sym (take-append-drop done files)
      ∙ ap (λ (l : List FileRec). take done files ++ l) (sym (take-append-drop n (drop done files)))

  pub reached_next : AllByRecursion (λ file. file.range.start ≤ its_part.high) own
      → AllByRecursion (λ file. its_part.high < file.range.start) others → IsReached files parts (i + 1) (done + n)
  reached_next started later = record {
    within = omega (arith, few, length-drop done files, reached.within);
    from = its_part.high + 1;
    before = subst (AllByRecursion (λ file. file.range.start < its_part.high + 1)) (sym (take-add done n files))
        (each-append (λ file. file.range.start < its_part.high + 1) (take done files) own
        (each-map (λ file. file.range.start < reached.from) (λ file. file.range.start < its_part.high + 1) (take done files)
        (λ file b. omega (arith, b, spans.0, spans.1)) reached.before)
        (each-map (λ file. file.range.start ≤ its_part.high) (λ file. file.range.start < its_part.high + 1) own
        (λ file s. omega (arith, s)) started));
    behind = subst (AllByRecursion (λ file. its_part.high + 1 ≤ file.range.start)) (drop-drop n done files)
        (each-map (λ file. its_part.high < file.range.start) (λ file. its_part.high + 1 ≤ file.range.start) others
        (λ file l. omega (arith, l)) later);
    passed = subst (AllByRecursion (λ part. part.high < its_part.high + 1)) (sym (take_more parts i no_part within))
        (each-push (λ part. part.high < its_part.high + 1) (take i parts) its_part
        (each-map (λ part. part.high < reached.from) (λ part. part.high < its_part.high + 1) (take i parts)
        (λ part p. omega (arith, p, spans.0, spans.1)) reached.passed) (omega arith));
    next = reached.next;
    left = spans.2;
  }

  -- the files that start by the part's end lie in it
  pub own_lie : AllByRecursion IsReadable files
      → AllByRecursion (λ file. list_any (λ part. lies_in file.range part) parts ≡ true) files
      → AllByRecursion (λ file. file.range.start ≤ its_part.high) own → AllByRecursion (LiesIn its_part) own
  own_lie readable homes started =
      each_lies own
      (each-take (λ file. reached.from ≤ file.range.start) n (drop done files) reached.behind)
      (each-take IsReadable n (drop done files) (each-drop IsReadable done files readable))
      (each-take (λ file. list_any (λ part. lies_in file.range part) parts ≡ true) n (drop done files)
      (each-drop (λ file. list_any (λ part. lies_in file.range part) parts ≡ true) done files homes))
      started
    where
      each_lies : (some : List FileRec) → AllByRecursion (λ file. reached.from ≤ file.range.start) some → AllByRecursion IsReadable some
          → AllByRecursion (λ file. list_any (λ part. lies_in file.range part) parts ≡ true) some
          → AllByRecursion (λ file. file.range.start ≤ its_part.high) some → AllByRecursion (LiesIn its_part) some
      each_lies [] b r h s = tt
      each_lies (file ∷ some) b r h s =
          let anywhere : list_any (λ part. lies_in file.range part) (take i parts ++ its_part ∷ drop (i + 1) parts) ≡ true =
          subst (λ (l : List PartRec). list_any (λ part. lies_in file.range part) l ≡ true) split_parts h.0 in
          let here = lies_past file reached.from (take i parts) (its_part ∷ drop (i + 1) parts) (omega (arith, r.0.some)) b.0
          reached.passed anywhere in
          let its : lies_in file.range its_part ≡ true =
          ⊎_elim
          (λ (lies : lies_in file.range its_part ≡ true). lies)
          (λ (others : list_any (λ part. lies_in file.range part) (drop (i + 1) parts) ≡ true).
          absurd (lies_in_none file (its_part.high + 1) reached.next (drop (i + 1) parts) (omega (arith, s.0)) spans.2 others))
          (or_cases (lies_in file.range its_part) (list_any (λ part. lies_in file.range part) (drop (i + 1) parts)) here) in
          (its, each_lies some b.1 r.1 h.1 s.1)

  before_elsewhere : AllByRecursion (IsElsewhere its_part) (take done files)
  before_elsewhere =
      each-map (λ file. file.range.start < reached.from) (IsElsewhere its_part) (take done files)
      (λ file b. starts_before its_part file (omega (arith, b, spans.0))) reached.before

  others_elsewhere : AllByRecursion IsReadable files → AllByRecursion (λ file. its_part.high < file.range.start) others
      → AllByRecursion (IsElsewhere its_part) others
  others_elsewhere readable later =
      each_other others (each-drop IsReadable n (drop done files) (each-drop IsReadable done files readable)) later
    where
      each_other : (some : List FileRec) → AllByRecursion IsReadable some
          → AllByRecursion (λ file. its_part.high < file.range.start) some → AllByRecursion (IsElsewhere its_part) some
      each_other [] r l = tt
      each_other (file ∷ some) r l = (starts_behind its_part file (omega (arith, r.0.some)) l.0, each_other some r.1 l.1)

  module _ (content : Content) (readable : AllByRecursion IsReadable files)
      (later : AllByRecursion (λ file. its_part.high < file.range.start) others) where
    sound_in_all : IsSoundPart content own its_part → IsSoundPart content files its_part
    sound_in_all sound =
        subst (λ (l : List FileRec). IsSoundPart content l its_part) (sym split_files)
        (sound_beside content its_part (take done files) own others before_elsewhere (others_elsewhere readable later) sound)

    sound_in_own : IsSoundPart content files its_part → IsSoundPart content own its_part
    sound_in_own sound =
        sound_within content its_part (take done files) own others before_elsewhere (others_elsewhere readable later)
        (subst (λ (l : List FileRec). IsSoundPart content l its_part) split_files sound)

    parts_sound : AllByRecursion (IsSoundPart content files) (take i parts) → IsSoundPart content own its_part
        → AllByRecursion (IsSoundPart content files) (take (i + 1) parts)
    parts_sound all sound =
        subst (AllByRecursion (IsSoundPart content files)) (sym (take_more parts i no_part within))
        (each-push (IsSoundPart content files) (take i parts) its_part all (sound_in_all sound))

    -- where no text was wrong
    pub part_found : (wrong : Option ℕ) (verdict : Verdict) → FindsPart content files (take i parts) wrong
        → IsVerdict content its_part own verdict → ((blob : ℕ) → verdict ≡ BrokenText blob → ⊥)
        → FindsPart content files (take (i + 1) parts) (leftmost_of wrong verdict its_part.blob)
    part_found (Some blob) verdict found is no_text =
        subst (λ (l : List PartRec). FindsPart content files l (Some blob)) (sym (take_more parts i no_part within))
        (first_front (IsWrongPart content files) (λ part. part.blob) (take i parts) (its_part ∷ []) blob found)
    part_found None Sound found is no_text = parts_sound found is.1
    part_found None WrongPart found is no_text =
        subst (λ (l : List PartRec). FindsPart content files l (Some its_part.blob)) (sym (take_more parts i no_part within))
        (first_at_end (IsWrongPart content files) (λ part. part.blob) (take i parts) its_part
        (each-map (IsSoundPart content files) (λ part. IsWrongPart content files part → ⊥) (take i parts)
        (λ part sound wrong. wrong sound) found)
        (λ sound. is.1 (sound_in_own sound)))
    part_found None (BrokenText blob) found is no_text = absurd (no_text blob refl)

    pub texts_found : (verdict : Verdict) → AreSoundTexts content (take done files) → IsVerdict content its_part own verdict
        → ((blob : ℕ) → verdict ≡ BrokenText blob → ⊥) → AreSoundTexts content (take (done + n) files)
    texts_found verdict texts is no_text =
        subst (AreSoundTexts content) (sym (take-add done n files))
        (each-append (λ file. IsWrongText content file → ⊥) (take done files) own texts (own_sound verdict is no_text))
      where
        own_sound : (v : Verdict) → IsVerdict content its_part own v → ((blob : ℕ) → v ≡ BrokenText blob → ⊥) → AreSoundTexts content own
        own_sound Sound is none = is.0
        own_sound WrongPart is none = is.0
        own_sound (BrokenText blob) is none = absurd (none blob refl)

  -- and where one was
  pub text_broken : (content : Content) (blob : ℕ) → AreSoundTexts content (take done files) → IsFirstText content own blob
      → IsFirstText content files blob
  text_broken content blob texts first =
      subst (λ (l : List FileRec). IsFirstText content l blob) (sym split_files)
      (first_behind (IsWrongText content) (λ file. file.blob) (take done files) (own ++ others) blob texts
      (first_front (IsWrongText content) (λ file. file.blob) own others blob first))

  -- a turn, by a store that is as it was
  module _ (holds told : Option Content) (same : told ≡ holds) (m : ℕ) (count : m ≡ n) (verdict : Verdict)
      (texts : IfSome holds (λ content. AreSoundTexts content (take done files)))
      (is : IfSome told (λ content. IsVerdict content its_part (take m (drop done files)) verdict)) where
    its_verdict : IfSome holds (λ content. IsVerdict content its_part own verdict)
    its_verdict =
        told_before (λ content. IsVerdict content its_part own verdict) holds told same
        (subst (λ (k : ℕ). IfSome told (λ content. IsVerdict content its_part (take k (drop done files)) verdict)) count is)

    pub turn_text : (blob : ℕ) → verdict ≡ BrokenText blob → IfSome holds (λ content. FindsWrong content files parts (Some blob))
    turn_text blob broken =
        told_both holds
        (λ content before here.
        inl (text_broken content blob before (subst (IsVerdict content its_part own) broken here)))
        texts its_verdict

    module _ (no_text : (blob : ℕ) → verdict ≡ BrokenText blob → ⊥) (readable : AllByRecursion IsReadable files)
        (later : AllByRecursion (λ file. its_part.high < file.range.start) others) where
      pub turn_texts : IfSome holds (λ content. AreSoundTexts content (take (done + n) files))
      turn_texts =
          told_both holds (λ content before here. texts_found content readable later verdict before here no_text) texts its_verdict

      pub turn_parts : (wrong : Option ℕ) → IfSome holds (λ content. FindsPart content files (take i parts) wrong)
          → IfSome holds (λ content. FindsPart content files (take (i + 1) parts) (leftmost_of wrong verdict its_part.blob))
      turn_parts wrong found =
          told_both holds (λ content before here. part_found content readable later wrong verdict before here no_text) found its_verdict

-- ---- the files of a turn

all_low_take : (low n : ℕ) (files : List FileRec) → AllByRecursion (λ range. low ≤ range.start) (ranges_of files)
    → AllByRecursion (λ range. low ≤ range.start) (ranges_of (take n files))
all_low_take low zero files all = tt
all_low_take low (suc n) [] all = tt
all_low_take low (suc n) (file ∷ files) all = (all.0, all_low_take low n files all.1)

apart_take : (n : ℕ) (files : List FileRec) → AreApart (ranges_of files) → AreApart (ranges_of (take n files))
apart_take zero files apart = tt
apart_take (suc n) [] apart = tt
apart_take (suc n) (file ∷ files) apart =
    (all_low_take (file.range.start + file.range.len) n files apart.0, apart_take n files apart.1)

apart_drop : (n : ℕ) (files : List FileRec) → AreApart (ranges_of files) → AreApart (ranges_of (drop n files))
apart_drop zero files apart = apart
apart_drop (suc n) [] apart = tt
apart_drop (suc n) (file ∷ files) apart = apart_drop n files apart.1

pub own_apart : (done m : ℕ) (files : List FileRec) → AreApart (ranges_of files) → AreApart (ranges_of (take m (drop done files)))
own_apart done m files apart = apart_take m (drop done files) (apart_drop done files apart)

-- ---- at the end

module _ (content : Content) (files : List FileRec) (parts : List PartRec) (done : ℕ) (texts : AreSoundTexts content (take done files)) where
  text_last : (blob : ℕ) → IsFirstText content (drop done files) blob → IsFirstText content files blob
  text_last blob first =
      subst (λ (l : List FileRec). IsFirstText content l blob) (take-append-drop done files)
      (first_behind (IsWrongText content) (λ file. file.blob) (take done files) (drop done files) blob texts first)

  all_sound : AreSoundTexts content (drop done files) → AreSoundTexts content files
  all_sound last =
      subst (AreSoundTexts content) (take-append-drop done files)
      (each-append (λ file. IsWrongText content file → ⊥) (take done files) (drop done files) texts last)

  walk_ends : (wrong : Option ℕ) → FindsPart content files parts wrong → AreSoundTexts content (drop done files)
      → FindsWrong content files parts wrong
  walk_ends None found last = (all_sound last, found)
  walk_ends (Some blob) found last = inr (all_sound last, found)

module _ (holds told : Option Content) (same : told ≡ holds) (files : List FileRec) (parts : List PartRec) (done : ℕ)
    (found : Option ℕ) (texts : IfSome holds (λ content. AreSoundTexts content (take done files)))
    (last : IfSome told (λ content. FindsText content (drop done files) found)) where
  last_text : IfSome holds (λ content. FindsText content (drop done files) found)
  last_text = told_before (λ content. FindsText content (drop done files) found) holds told same last

  pub ends_text : (blob : ℕ) → found ≡ Some blob → IfSome holds (λ content. FindsWrong content files parts (Some blob))
  ends_text blob is =
      told_both holds
      (λ content before here.
      inl (text_last content files parts done before blob (subst (FindsText content (drop done files)) is here)))
      texts last_text

  pub ends_parts : (index : ℕ) (wrong : Option ℕ) → length parts ≤ index → found ≡ None
      → IfSome holds (λ content. FindsPart content files (take index parts) wrong)
      → IfSome holds (λ content. FindsWrong content files parts wrong)
  ends_parts index wrong all is walked =
      told_both holds
      (λ content before (here : FindsText content (drop done files) found × FindsPart content files (take index parts) wrong).
      walk_ends content files parts done before wrong
      (subst (λ (l : List PartRec). FindsPart content files l wrong) (take_all index parts all) here.1)
      (subst (FindsText content (drop done files)) is here.0))
      texts (told_both holds (λ content a b. (a, b)) last_text walked)
