-- A recorded text, as a store has it, compared with the lists of a part.
use Rattle.std.proofs.Common.{◌≡◌, ℕ, ◌+◌, ◌<◌, ◌≤◌, ◌&&◌, Bool, true, false, List, [], ◌∷◌, ◌++◌, length, ap, sym, ◌∙◌, subst}
use Rattle.std.proofs.Common.{get_or, take, drop, arith, ⊎_elim}
use Rattle.std.specs.Prelude.{Option, Some, None, IfSome, MatchBool, sum_by}
use Rattle.std.specs.List.{AllByRecursion}
use Rattle.std.proofs.lemmas.Bool.{cases_lt}
use Rattle.std.proofs.lemmas.List.{drop_more, map-append, take-append-drop, take_more}
use Rattle.std.proofs.lemmas.List.Sums.{sum_by-take-drop, sum_by_more}
use Rattle.wu_base.specs.declared.addresses.Range.{Range}
use Rattle.wu_base.specs.declared.addresses.TermList.{TermList}
use Rattle.wu_base.proofs.EachLemmas.{each-push, each_left, each_right}
use Rattle.wu_outside.specs.Content.{Content}
use Rattle.wu_token.specs.Tokens.{tokens_of}
use Rattle.wu_token.proofs.LengthLemmas.{length-tokens_of}
use Rattle.wu_image.specs.declared.records.FileRec.{FileRec}
use Rattle.wu_image.proofs.RuleLemmas.{sum_of_map}
use Rattle.wu_check.specs.Places.{IsAtPlace, total_of}
use Rattle.wu_check.specs.Walking.{IsCompared, IsReadable, ranges_of}
use Rattle.wu_check.specs.Wrong.{AreSoundTexts, HasTokens, IsFirstText, IsWrongText}
use Rattle.wu_check.proofs.FirstLemmas.{first_at}
use Rattle.wu_check.proofs.ToldContents.{told_before, told_both}

-- ---- one text

-- a text that isn't empty has as many tokens as its range is long, and the empty text two
pub tokens_fit : (file : FileRec) (text : List ℕ) → IsReadable file → length text ≡ file.len
    → (0 < file.blob → length (tokens_of text) ≡ file.range.len) → length (tokens_of text) ≤ file.range.len
tokens_fit file text is size count =
    ⊎_elim
    (λ (some : 0 < file.blob). omega (arith, count some))
    (λ (none : file.blob ≤ 0).
    let zero_blob : file.blob ≡ 0 = omega (arith, none) in
    omega (arith, is.empty zero_blob, size, length-tokens_of text, is.some))
    (cases_lt 0 file.blob)

pub both_true : (a b s : Bool) → a ≡ true → s ≡ b → s ≡ (a && b)
both_true true b s e is = is
both_true false b s e is = absurd cc

pub one_false : (a b s : Bool) → a ≡ false → s ≡ false → s ≡ (a && b)
one_false true b s e is = absurd cc
one_false false b s e is = is

-- ---- a turn of a loop over files

abbrev pub no_file : FileRec
no_file = record { ino = 0; len = 0; blob = 0; range = record { start = 0; len = 0 } }

sum_mapped : (files : List FileRec) → total_of (ranges_of files) ≡ sum_by (λ file. file.range.len) files
sum_mapped files = sum_of_map (λ (range : Range). range.len) (λ (file : FileRec). file.range) files

module _ (files : List FileRec) (i : ℕ) (within : i < length files) where
  abbrev pub its : FileRec
  its = get_or files i no_file

  split : take i files ++ its ∷ drop (i + 1) files ≡ files
  split = ap (λ (l : List FileRec). take i files ++ l) (sym (drop_more files i no_file within)) ∙ take-append-drop i files

  pub at_place : (place : ℕ) → place ≡ total_of (ranges_of (take i files)) → IsAtPlace (ranges_of files) place its.range
  at_place place is = (
    ranges_of (take i files),
    ranges_of (drop (i + 1) files),
    ap ranges_of (sym split) ∙ map-append (λ (file : FileRec). file.range) (take i files) (its ∷ drop (i + 1) files),
    sym is,
  )

  pub next_place : (place : ℕ) → place ≡ total_of (ranges_of (take i files))
      → place + its.range.len ≡ total_of (ranges_of (take (i + 1) files))
  next_place place is =
      let more : sum_by (λ (file : FileRec). file.range.len) (take (i + 1) files)
      ≡ sum_by (λ (file : FileRec). file.range.len) (take i files) + its.range.len =
      sum_by_more (λ (file : FileRec). file.range.len) files i no_file within in
      omega (arith, is, more, sum_mapped (take i files), sum_mapped (take (i + 1) files))

  pub place_within : (place : ℕ) → place ≡ total_of (ranges_of (take i files)) → place + its.range.len ≤ total_of (ranges_of files)
  place_within place is =
      omega (
        arith,
        next_place place is,
        sum_mapped (take (i + 1) files),
        sum_mapped files,
        sum_by-take-drop (λ (file : FileRec). file.range.len) files (i + 1),
      )

  pub texts_more : (content : Content) → AreSoundTexts content (take i files) → (IsWrongText content its → ⊥)
      → AreSoundTexts content (take (i + 1) files)
  texts_more content all right =
      subst (AreSoundTexts content) (sym (take_more files i no_file within))
      (each-push (λ file. IsWrongText content file → ⊥) (take i files) its all right)

  -- whether all before have the tokens, and this one too
  pub tokens_more : (Holds : FileRec → Type 0) (all found : Bool)
      → MatchBool all (AllByRecursion Holds (take i files)) (AllByRecursion Holds (take i files) → ⊥)
      → MatchBool found (Holds its) (Holds its → ⊥)
      → MatchBool (all && found) (AllByRecursion Holds (take (i + 1) files)) (AllByRecursion Holds (take (i + 1) files) → ⊥)
  tokens_more Holds all found before here =
      subst (λ (l : List FileRec). MatchBool (all && found) (AllByRecursion Holds l) (AllByRecursion Holds l → ⊥))
      (sym (take_more files i no_file within)) (both all found before here)
    where
      both : (a b : Bool) → MatchBool a (AllByRecursion Holds (take i files)) (AllByRecursion Holds (take i files) → ⊥)
          → MatchBool b (Holds its) (Holds its → ⊥)
          → MatchBool (a && b) (AllByRecursion Holds (take i files ++ its ∷ [])) (AllByRecursion Holds (take i files ++ its ∷ []) → ⊥)
      both true true p q = each-push Holds (take i files) its p q
      both true false p q = λ every. q (each_right Holds (take i files) (its ∷ []) every).0
      both false true p q = λ every. p (each_left Holds (take i files) (its ∷ []) every)
      both false false p q = λ every. p (each_left Holds (take i files) (its ∷ []) every)

  -- what a turn finds, by a store that is as it was
  module _ (holds told : Option Content) (same : told ≡ holds) where
    pub turn_wrong : (whole : Bool) → whole ≡ false → IfSome holds (λ content. AreSoundTexts content (take i files))
        → IfSome told (λ content. MatchBool whole (IsWrongText content its → ⊥) (IsWrongText content its))
        → IfSome holds (λ content. IsFirstText content files its.blob)
    turn_wrong whole fails texts found =
        told_both holds
        (λ content before here. first_at (IsWrongText content) (λ file. file.blob) files i no_file within before
        (subst (λ (b : Bool). MatchBool b (IsWrongText content its → ⊥) (IsWrongText content its)) fails here))
        texts (told_before _ holds told same found)

    pub turn_sound : (whole : Bool) → whole ≡ true → IfSome holds (λ content. AreSoundTexts content (take i files))
        → IfSome told (λ content. MatchBool whole (IsWrongText content its → ⊥) (IsWrongText content its))
        → IfSome holds (λ content. AreSoundTexts content (take (i + 1) files))
    turn_sound whole passes texts found =
        told_both holds
        (λ content before here. texts_more content before
        (subst (λ (b : Bool). MatchBool b (IsWrongText content its → ⊥) (IsWrongText content its)) passes here))
        texts (told_before _ holds told same found)

    module _ (lists : List TermList) (all : Bool) (before : IfSome holds (λ content. AreSoundTexts content (take i files)
        × MatchBool all (AllByRecursion (HasTokens content lists) (take i files))
        (AllByRecursion (HasTokens content lists) (take i files) → ⊥))) where
      pub turn_broken : (found : Option Bool) → found ≡ None → IfSome told (λ content. IsCompared content lists its found)
          → IfSome holds (λ content. IsFirstText content files its.blob)
      turn_broken found is compared =
          told_both holds
          (λ content so_far here. first_at (IsWrongText content) (λ file. file.blob) files i no_file within so_far.0
          (subst (IsCompared content lists its) is here))
          before (told_before _ holds told same compared)

      pub turn_compared : (found : Option Bool) (here next : Bool) → found ≡ Some here → next ≡ (all && here)
          → IfSome told (λ content. IsCompared content lists its found)
          → IfSome holds (λ content. AreSoundTexts content (take (i + 1) files)
          × MatchBool next (AllByRecursion (HasTokens content lists) (take (i + 1) files))
          (AllByRecursion (HasTokens content lists) (take (i + 1) files) → ⊥))
      turn_compared found here next is both compared =
          rw both
          (told_both holds
          (λ content so_far one.
          let its_own : IsCompared content lists its (Some here) = subst (IsCompared content lists its) is one in
          (texts_more content so_far.0 its_own.0, tokens_more (HasTokens content lists) all here so_far.1 its_own.1))
          before (told_before _ holds told same compared))
