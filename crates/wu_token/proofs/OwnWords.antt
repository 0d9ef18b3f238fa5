-- A word, taken as a run, is its own word: what is folded folds to itself, also where the cut left a part of a letter.
use Rattle.std.proofs.Common.{◌≡◌, ℕ, zero, suc, ◌+◌, ◌-◌, ◌<◌, ◌≤◌, Bool, true, false, not, cond, ◌&&◌, List, [], ◌∷◌}
use Rattle.std.proofs.Common.{◌++◌, map, length, get_or, take, drop, filter, chars, encode_utf8, encode_utf8_all, IsUtf8, IsAscii}
use Rattle.std.proofs.Common.{refl, sym, ◌∙◌, ap, ap₂, subst, inl, inr, arith, append_assoc, append-nil, true≢false, ◌⊎◌}
use Rattle.std.specs.Char.{to_ascii_lowercase}
use Rattle.std.specs.Str.{is_utf8, all_scalars}
use Rattle.std.specs.Str.Lossy.{valid_len_up_to, utf8_valid_len}
use Rattle.std.specs.List.{AllByRecursion, slice_split, onto_first, list_all}
use Rattle.std.proofs.lemmas.Bool.{cases_Bool, cases_lt, cond-true, cond-false, and_parts}
use Rattle.std.proofs.lemmas.Bool.Decides.{nat_tests}
use Rattle.std.proofs.lemmas.List.{length-map, length-take, length-append, length-drop, take-append-drop, take-take}
use Rattle.std.proofs.lemmas.List.{take-map, take-append-le, get_or_default}
use Rattle.std.proofs.lemmas.List.Elements.{recursion_from_All, All-from_recursion}
use Rattle.std.proofs.lemmas.List.Splits.{slice_split_none}
use Rattle.std.proofs.lemmas.Str.{IsUtf8-from_is_utf8, is_utf8-from_IsUtf8, IsUtf8-append, IsUtf8-nil, IsUtf8-from_ascii}
use Rattle.std.proofs.lemmas.Str.{encodes-chars, scalars-chars, chars-encodes, utf8_valid_len_le, length-encode, len_utf8_bounds}
use Rattle.std.proofs.lemmas.Str.{len_utf8_ascii, encode_ascii, inside_one, encode_same, length-le-encodes}
use Rattle.std.proofs.Math.Seq.{take-append-add, take-append_seam}
use Rattle.ucd_table.proofs.RangedFacts.{values_ok, Stepped-at_values}
use Rattle.ucd_table.proofs.Computing.{tables}
use Rattle.ucd_case.specs.CaseFolding.{full_folding, or_itself, full_fold}
use Rattle.ucd_case.proofs.CaseFoldingLemmas.{full_folding_stepped}
use Rattle.caseless.specs.Caseless.{default_case_fold}
use Rattle.caseless.proofs.CaselessLemmas.{default_case_fold-nil, default_case_fold-cons, default_case_fold_idem}
use Rattle.wu_base.specs.declared.limits.TheConstants.{WORD_MAX}
use Rattle.wu_token.specs.Words.{is_word_byte, is_separator, has_bytes, runs_of, folded_text, folded_run, word_of, words_of}
use Rattle.wu_token.specs.Words.{EachWordIsItsOwn}
use Rattle.wu_token.proofs.WordLemmas.{folded_text-nil, folded_run-after}

-- ---- the text at the front of a run
front_text : (bs : List ℕ) (m : ℕ) → IsUtf8 (take (valid_len_up_to bs m) bs)
front_text bs zero = IsUtf8-nil
front_text bs (suc m) =
    elim (cases_Bool (is_utf8 (take (suc m) bs))) [
      | inl yes' ↦ subst (λ n. IsUtf8 (take n bs)) (sym (cond-true _ (suc m) (valid_len_up_to bs m) yes')) (IsUtf8-from_is_utf8 _ yes')
      | inr no' ↦ subst (λ n. IsUtf8 (take n bs)) (sym (cond-false _ (suc m) (valid_len_up_to bs m) no')) (front_text bs m)
    ]

pub IsUtf8-front : (run : List ℕ) → IsUtf8 (take (utf8_valid_len run) run)
unfolding utf8_valid_len
IsUtf8-front run = front_text run (length run)

longest_text : (bs : List ℕ) (m k : ℕ) → k ≤ m → IsUtf8 (take k bs) → k ≤ valid_len_up_to bs m
longest_text bs zero k le text = le
longest_text bs (suc m) k le text =
    elim (cases_Bool (is_utf8 (take (suc m) bs))) [
      | inl yes' ↦ subst (λ n. k ≤ n) (sym (cond-true _ (suc m) (valid_len_up_to bs m) yes')) le
      | inr no' ↦
          subst (λ n. k ≤ n) (sym (cond-false _ (suc m) (valid_len_up_to bs m) no'))
          (elim (cases_lt m k) [
            | inl last ↦
                let same : k ≡ suc m = omega arith in
                let yes' = is_utf8-from_IsUtf8 (take (suc m) bs) (subst (λ n. IsUtf8 (take n bs)) same text) in
                absurd (true≢false (sym yes' ∙ no'))
            | inr before ↦ longest_text bs m k before text
          ])
    ]

-- no front of the bytes but the empty one is UTF-8
abbrev HasNoText : List ℕ → Type 0
HasNoText bytes = (k : ℕ) → 0 < k → k ≤ length bytes → IsUtf8 (take k bytes) → ⊥

no_text_after : (run : List ℕ) → HasNoText (drop (utf8_valid_len run) run)
unfolding utf8_valid_len
no_text_after run k some within text =
    let n = valid_len_up_to run (length run) in
    let front = take n run in
    let long : length front ≡ n = length-take n run ∙ omega (arith, utf8_valid_len_le run) in
    let all : take (n + k) run ≡ front ++ take k (drop n run) =
    ap (λ j. take (j + k) run) (sym long) ∙ ap (take (length front + k)) (sym (take-append-drop n run)) ∙ take-append-add front (drop n run) k in
    let longer = subst IsUtf8 (sym all) (IsUtf8-append front (take k (drop n run)) (front_text run (length run)) text) in
    let le = longest_text run (length run) (n + k) (omega (arith, length-drop n run, utf8_valid_len_le run)) longer in
    omega arith

no_text_len : (bytes : List ℕ) → HasNoText bytes → utf8_valid_len bytes ≡ 0
no_text_len bytes none =
    elim (cases_lt 0 (utf8_valid_len bytes)) [
      | inl some ↦ absurd (none (utf8_valid_len bytes) some (utf8_valid_len_le bytes) (IsUtf8-front bytes))
      | inr zero' ↦ omega arith
    ]

no_text_take : (bytes : List ℕ) (n : ℕ) → HasNoText bytes → HasNoText (take n bytes)
no_text_take bytes n none k some within text =
    let len = length-take n bytes in
    none k some (omega arith) (subst IsUtf8 (take-take k n bytes (omega arith)) text)

-- ---- bytes beyond ASCII
abbrev AreHigh : List ℕ → Type 0
AreHigh bytes = AllByRecursion (λ b. 128 ≤ b) bytes

high_encode : (c : ℕ) → 128 ≤ c → AreHigh (encode_utf8 c)
high_encode c beyond = recursion_from_All (λ b. 128 ≤ b) (encode_utf8 c)
    (λ k d within. elim (cases_lt (get_or (encode_utf8 c) k d) 128) [
      | inl low ↦
          let same = get_or_default (encode_utf8 c) k d 0 within in
          let one = inside_one c [] (encode_utf8 c) k (sym (append-nil (encode_utf8 c))) within (omega arith) in
          absurd (omega arith)
      | inr high ↦ high
    ])

lower_high : (b : ℕ) → 128 ≤ b → to_ascii_lowercase b ≡ b
lower_high b h = grind (arith, nat_tests)

low_lower : (b : ℕ) → to_ascii_lowercase b < 128 → b < 128
low_lower b h = grind (arith, nat_tests)

high_lower : (b : ℕ) → 128 ≤ to_ascii_lowercase b → to_ascii_lowercase b ≡ b
high_lower b h = grind (arith, nat_tests)

lowered_high : (bytes : List ℕ) → AreHigh bytes → map to_ascii_lowercase bytes ≡ bytes
lowered_high [] h = refl
lowered_high (b ∷ bytes) h = ap₂ ◌∷◌ (lower_high b h.0) (lowered_high bytes h.1)

was_high : (bytes high : List ℕ) → map to_ascii_lowercase bytes ≡ high → AreHigh high → bytes ≡ high
was_high bytes high same h = sym (lowered_high bytes (back bytes (subst AreHigh (sym same) h))) ∙ same
  where
    back : (bs : List ℕ) → AreHigh (map to_ascii_lowercase bs) → AreHigh bs
    back [] h = tt
    back (b ∷ bs) h = (subst (λ x. 128 ≤ x) (high_lower b h.0) h.0, back bs h.1)

lowered_again : (bytes : List ℕ) → map to_ascii_lowercase (map to_ascii_lowercase bytes) ≡ map to_ascii_lowercase bytes
lowered_again [] = refl
lowered_again (b ∷ bytes) = ap₂ ◌∷◌ (again b) (lowered_again bytes)
  where
    again : (b : ℕ) → to_ascii_lowercase (to_ascii_lowercase b) ≡ to_ascii_lowercase b
    again b = grind (arith, nat_tests)

first_scalar : (c : ℕ) (cs : List ℕ) → all_scalars (c ∷ cs) ≡ true → IsUtf8 (encode_utf8 c)
first_scalar c cs s = (c ∷ [], (ap (λ t. t && true) (and_parts _ _ s).0, append-nil (encode_utf8 c)))

one_ascii : (b : ℕ) → b < 128 → IsAscii (b ∷ [])
one_ascii b h zero = h
one_ascii b h (suc k) = omega arith

-- lowering makes no text
no_text_lowered : (bytes : List ℕ) → HasNoText bytes → HasNoText (map to_ascii_lowercase bytes)
no_text_lowered bytes none k some within text = by_first text.0 text.1.0 (text.1.1 ∙ take-map to_ascii_lowercase k bytes)
  where
    len : length (map to_ascii_lowercase bytes) ≡ length bytes
    len = length-map bytes to_ascii_lowercase

    by_ascii : (bs : List ℕ) (c : ℕ) (rest : List ℕ) → HasNoText bs → c < 128 → (n : ℕ) → 0 < n → n ≤ length bs → c ∷ rest ≡ map to_ascii_lowercase (take n bs) → ⊥
    by_ascii bs c rest free low zero pos le e = omega arith
    by_ascii [] c rest free low (suc n) pos le e = omega arith
    by_ascii (b ∷ bs) c rest free low (suc n) pos le e =
        let first : c ≡ to_ascii_lowercase b = ap (λ l. get_or l 0 0) e in
        let ascii : b < 128 = low_lower b (omega arith) in
        free 1 (omega arith) (omega arith) (IsUtf8-from_ascii (b ∷ []) (one_ascii b ascii))

    by_first : (cs : List ℕ) → all_scalars cs ≡ true → encode_utf8_all cs ≡ map to_ascii_lowercase (take k bytes) → ⊥
    by_first [] s e = omega (arith, ap length e, length-map (take k bytes) to_ascii_lowercase, length-take k bytes, len)
    by_first (c ∷ cs) s e =
        elim (cases_lt c 128) [
          | inl low ↦
              by_ascii bytes c (encode_utf8_all cs) none low k some (omega (arith, len)) (ap (λ l. l ++ encode_utf8_all cs) (sym (encode_ascii c low)) ∙ e)
          | inr beyond ↦
              let m = length (encode_utf8 c) in
              let total = ap length e in
              let size = length-append (encode_utf8 c) (encode_utf8_all cs) in
              let count = length-map (take k bytes) to_ascii_lowercase in
              let cut = length-take k bytes in
              let le : m ≤ k = omega arith in
              let bits = length-encode c in
              let least = (len_utf8_bounds c).0 in
              let part : map to_ascii_lowercase (take m bytes) ≡ encode_utf8 c =
              ap (map to_ascii_lowercase) (sym (take-take m k bytes le)) ∙ sym (take-map to_ascii_lowercase m (take k bytes))
              ∙ ap (take m) (sym e) ∙ take-append_seam (encode_utf8 c) (encode_utf8_all cs) in
              none m (omega arith) (omega (arith, len)) (subst IsUtf8 (sym (was_high (take m bytes) (encode_utf8 c) part (high_encode c beyond))) (first_scalar c cs s))
        ]

-- ---- a front of one letter's bytes has no text
no_text_within : (c n : ℕ) → n < length (encode_utf8 c) → HasNoText (take n (encode_utf8 c))
no_text_within c n short k some within text =
    let cut = length-take n (encode_utf8 c) in
    let one = take-take k n (encode_utf8 c) (omega arith) in
    by_first text.0 (text.1.1 ∙ one)
  where
    by_first : (cs : List ℕ) → encode_utf8_all cs ≡ take k (encode_utf8 c) → ⊥
    by_first [] e = omega (arith, ap length e, length-take k (encode_utf8 c), length-take n (encode_utf8 c))
    by_first (d ∷ cs) e =
        let whole : encode_utf8 d ++ (encode_utf8_all cs ++ drop k (encode_utf8 c)) ≡ encode_utf8 c ++ [] =
        sym (append_assoc (encode_utf8 d) (encode_utf8_all cs) (drop k (encode_utf8 c))) ∙ ap (λ l. l ++ drop k (encode_utf8 c)) e
        ∙ take-append-drop k (encode_utf8 c) ∙ sym (append-nil (encode_utf8 c)) in
        let same = encode_same d c _ _ whole in
        let letter = ap (λ x. length (encode_utf8 x)) same.0 in
        omega (arith, ap length e, length-append (encode_utf8 d) (encode_utf8_all cs), length-take k (encode_utf8 c), length-take n (encode_utf8 c))

-- ---- letters that fold to themselves
abbrev Stays : ℕ → Type 0
Stays c = full_fold c ≡ c ∷ []

full_fold-some : (c : ℕ) (table : List ℕ) → 1 ≤ length (or_itself c table)
full_fold-some c [] = omega arith
full_fold-some c (x ∷ xs) = omega arith

fold-grows : (cs : List ℕ) → length cs ≤ length (default_case_fold cs)
fold-grows [] = omega arith
fold-grows (c ∷ cs) =
    omega (arith, ap length (default_case_fold-cons c cs), length-append (full_fold c) (default_case_fold cs), fold-grows cs, full_fold-some c (full_folding c))

one_of_one : (c : ℕ) (folded rest tail : List ℕ) → length folded ≡ 1 → folded ++ rest ≡ c ∷ tail → (folded ≡ c ∷ []) × (rest ≡ tail)
one_of_one c [] rest tail one e = absurd (omega arith)
one_of_one c (x ∷ []) rest tail one e = (ap (λ l. get_or l 0 0 ∷ []) e, ap (drop 1) e)
one_of_one c (x ∷ y ∷ more) rest tail one e = absurd (omega arith)

each_stays : (cs : List ℕ) → default_case_fold cs ≡ cs → AllByRecursion Stays cs
each_stays [] same = tt
each_stays (c ∷ cs) same =
    let split = sym (default_case_fold-cons c cs) ∙ same in
    let size = ap length split in
    let one : length (full_fold c) ≡ 1 =
    omega (arith, length-append (full_fold c) (default_case_fold cs), fold-grows cs, full_fold-some c (full_folding c)) in
    let parts = one_of_one c (full_fold c) (default_case_fold cs) cs one split in
    (parts.0, each_stays cs parts.1)

-- ---- letters
abbrev pub IsWordByte : ℕ → Type 0
IsWordByte byte = is_word_byte byte ≡ true

-- a code point of a word
abbrev IsLetter : ℕ → Type 0
IsLetter c = (is_word_byte c ≡ true) × (all_scalars (c ∷ []) ≡ true)

abbrev is_letter : ℕ → Bool
is_letter c = is_word_byte c && all_scalars (c ∷ [])

-- no folding of the table has a separator
all_letters : (c : ℕ) → list_all is_letter (full_folding c) ≡ true
unfolding tables values_ok full_folding_stepped
all_letters c = Stepped-at_values full_folding full_folding_stepped (list_all is_letter) refl c

letters_of_test : (cs : List ℕ) → list_all is_letter cs ≡ true → AllByRecursion IsLetter cs
letters_of_test [] h = tt
letters_of_test (c ∷ cs) h =
    let parts = and_parts (is_letter c) (list_all is_letter cs) h in
    (and_parts (is_word_byte c) (all_scalars (c ∷ [])) parts.0, letters_of_test cs parts.1)

fold_of_letter : (c : ℕ) (table : List ℕ) → IsLetter c → AllByRecursion IsLetter table → AllByRecursion IsLetter (or_itself c table)
fold_of_letter c [] is all = (is, tt)
fold_of_letter c (x ∷ xs) is all = all

both_all : (P : ℕ → Type 0) (xs ys : List ℕ) → AllByRecursion P xs → AllByRecursion P ys → AllByRecursion P (xs ++ ys)
both_all P [] ys left right = right
both_all P (x ∷ xs) ys left right = (left.0, both_all P xs ys left.1 right)

parts_all : (P : ℕ → Type 0) (xs ys : List ℕ) → AllByRecursion P (xs ++ ys) → AllByRecursion P xs × AllByRecursion P ys
parts_all P [] ys all = (tt, all)
parts_all P (x ∷ xs) ys all = let more = parts_all P xs ys all.1 in ((all.0, more.0), more.1)

all_take : (P : ℕ → Type 0) (n : ℕ) (bytes : List ℕ) → AllByRecursion P bytes → AllByRecursion P (take n bytes)
all_take P zero bytes all = tt
all_take P (suc n) [] all = tt
all_take P (suc n) (byte ∷ bytes) all = (all.0, all_take P n bytes all.1)

letters_folded : (cs : List ℕ) → AllByRecursion IsLetter cs → AllByRecursion IsLetter (default_case_fold cs)
letters_folded [] all = subst (AllByRecursion IsLetter) (sym default_case_fold-nil) tt
letters_folded (c ∷ cs) all =
    subst (AllByRecursion IsLetter) (sym (default_case_fold-cons c cs))
    (both_all IsLetter (full_fold c) (default_case_fold cs)
    (fold_of_letter c (full_folding c) all.0 (letters_of_test (full_folding c) (all_letters c))) (letters_folded cs all.1))

beyond_word : (c : ℕ) → 128 ≤ c → is_word_byte c ≡ true
beyond_word c h = grind (arith, nat_tests)

high_words : (bytes : List ℕ) → AreHigh bytes → AllByRecursion IsWordByte bytes
high_words [] h = tt
high_words (b ∷ bytes) h = (beyond_word b h.0, high_words bytes h.1)

letter_of : (c : ℕ) → AllByRecursion IsWordByte (encode_utf8 c) → is_word_byte c ≡ true
letter_of c all =
    elim (cases_lt c 128) [
      | inl low ↦ (subst (AllByRecursion IsWordByte) (encode_ascii c low) all).0
      | inr beyond ↦ beyond_word c beyond
    ]

bytes_of_letter : (c : ℕ) → is_word_byte c ≡ true → AllByRecursion IsWordByte (encode_utf8 c)
bytes_of_letter c is =
    elim (cases_lt c 128) [
      | inl low ↦ subst (AllByRecursion IsWordByte) (sym (encode_ascii c low)) (is, tt)
      | inr beyond ↦ high_words (encode_utf8 c) (high_encode c beyond)
    ]

letters_of : (cs : List ℕ) → all_scalars cs ≡ true → AllByRecursion IsWordByte (encode_utf8_all cs) → AllByRecursion IsLetter cs
letters_of [] s all = tt
letters_of (c ∷ cs) s all =
    let parts = parts_all IsWordByte (encode_utf8 c) (encode_utf8_all cs) all in
    let tests = and_parts _ (all_scalars cs) s in
    ((letter_of c parts.0, ap (λ t. t && true) tests.0), letters_of cs tests.1 parts.1)

bytes_of_letters : (cs : List ℕ) → AllByRecursion IsLetter cs → AllByRecursion IsWordByte (encode_utf8_all cs)
bytes_of_letters [] all = tt
bytes_of_letters (c ∷ cs) all = both_all IsWordByte (encode_utf8 c) (encode_utf8_all cs) (bytes_of_letter c all.0.0) (bytes_of_letters cs all.1)

-- ---- a front of what is folded is folded
text_of_letter : (c : ℕ) → IsLetter c → IsUtf8 (encode_utf8 c)
text_of_letter c is = (c ∷ [], (is.1, append-nil (encode_utf8 c)))

folded_text-letter : (c : ℕ) → IsLetter c → Stays c → folded_text (encode_utf8 c) ≡ encode_utf8 c
unfolding folded_text
folded_text-letter c is stays =
    let letter : chars (encode_utf8 c) ≡ c ∷ [] = ap chars (sym (append-nil (encode_utf8 c))) ∙ chars-encodes (c ∷ []) is.1 in
    ap (λ cs. encode_utf8_all (default_case_fold cs)) letter
    ∙ ap encode_utf8_all (default_case_fold-cons c [] ∙ ap₂ ◌++◌ stays default_case_fold-nil)
    ∙ append-nil (encode_utf8 c)

plain_run : (bytes : List ℕ) → HasNoText bytes → map to_ascii_lowercase bytes ≡ bytes → folded_run bytes ≡ bytes
unfolding folded_run
plain_run bytes none low =
    ap (λ n. folded_text (take n bytes) ++ map to_ascii_lowercase (drop n bytes)) (no_text_len bytes none)
    ∙ ap (λ front. front ++ map to_ascii_lowercase bytes) folded_text-nil ∙ low

low_front : (c n : ℕ) → n < length (encode_utf8 c) → map to_ascii_lowercase (take n (encode_utf8 c)) ≡ take n (encode_utf8 c)
low_front c n short =
    elim (cases_lt c 128) [
      | inl low ↦
          let none : n ≡ 0 = omega (arith, length-encode c, len_utf8_ascii c low) in
          subst (λ k. map to_ascii_lowercase (take k (encode_utf8 c)) ≡ take k (encode_utf8 c)) (sym none) refl
      | inr beyond ↦ lowered_high (take n (encode_utf8 c)) (all_take (λ b. 128 ≤ b) n (encode_utf8 c) (high_encode c beyond))
    ]

own_cut : (cs : List ℕ) → AllByRecursion IsLetter cs → AllByRecursion Stays cs → (rest : List ℕ) → HasNoText rest → map to_ascii_lowercase rest ≡ rest
    → (n : ℕ) → folded_run (take n (encode_utf8_all cs ++ rest)) ≡ take n (encode_utf8_all cs ++ rest)
own_cut [] letters stay rest none low n =
    plain_run (take n rest) (no_text_take rest n none) (sym (take-map to_ascii_lowercase n rest) ∙ ap (take n) low)
own_cut (c ∷ cs) letters stay rest none low n =
    let letter = encode_utf8 c in
    let more = encode_utf8_all cs ++ rest in
    subst (λ bytes. folded_run (take n bytes) ≡ take n bytes) (sym (append_assoc letter (encode_utf8_all cs) rest))
    (elim (cases_lt n (length letter)) [
      | inl short ↦
          subst (λ bytes. folded_run bytes ≡ bytes) (sym (take-append-le n letter more (omega arith)))
          (plain_run (take n letter) (no_text_within c n short) (low_front c n short))
      | inr long ↦
          let k = n - length letter in
          let whole : length letter + k ≡ n = omega arith in
          let cut : take n (letter ++ more) ≡ letter ++ take k more = ap (λ m. take m (letter ++ more)) (sym whole) ∙ take-append-add letter more k in
          subst (λ bytes. folded_run bytes ≡ bytes) (sym cut)
          (folded_run-after letter (take k more) (text_of_letter c letters.0)
          ∙ ap₂ ◌++◌ (folded_text-letter c letters.0 stay.0) (own_cut cs letters.1 stay.1 rest none low k))
    ])

-- ---- the word of a run is its own
abbrev AreWordBytes : List ℕ → Type 0
AreWordBytes bytes = AllByRecursion IsWordByte bytes

-- bytes of a word, at least one
record IsRun (run : List ℕ) : Type 0 where
  some : 0 < length run
  bytes : AreWordBytes run

-- a word as it is kept
pub record IsWord (word : List ℕ) : Type 0 where
  pub some : 0 < length word
  pub bytes : AllByRecursion IsWordByte word
  pub own : word_of word ≡ word

some_letter : (cs text : List ℕ) → encode_utf8_all cs ≡ text → 0 < length text → 0 < length cs
some_letter [] text e some = omega (arith, ap length e)
some_letter (c ∷ cs) text e some = omega arith

some_folded : (text : List ℕ) → IsUtf8 text → 0 < length text → 0 < length (folded_text text)
unfolding folded_text
some_folded text is some =
    let letters = some_letter (chars text) text (encodes-chars text is) some in
    omega (arith, fold-grows (chars text), length-le-encodes (default_case_fold (chars text)))

pub some_word : (run : List ℕ) → 0 < length run → 0 < length (folded_run run)
unfolding folded_run
some_word run some =
    let n = utf8_valid_len run in
    let front = take n run in
    let rest = map to_ascii_lowercase (drop n run) in
    let all = length-append (folded_text front) rest in
    let left = length-map (drop n run) to_ascii_lowercase ∙ length-drop n run in
    let cut = length-take n run in
    elim (cases_lt 0 n) [
      | inl text ↦ omega (arith, some_folded front (IsUtf8-front run) (omega (arith, utf8_valid_len_le run)))
      | inr none ↦ omega arith
    ]

word_bytes : (byte : ℕ) → is_word_byte byte ≡ true → is_word_byte (to_ascii_lowercase byte) ≡ true
word_bytes byte is = by_range (cases_lt byte 65) (cases_lt byte 91)
  where
    by_range : (byte < 65) ⊎ (65 ≤ byte) → (byte < 91) ⊎ (91 ≤ byte) → is_word_byte (to_ascii_lowercase byte) ≡ true
    by_range (inl low) _ = let same : to_ascii_lowercase byte ≡ byte = grind (arith, nat_tests) in ap is_word_byte same ∙ is
    by_range (inr low) (inr high) = let same : to_ascii_lowercase byte ≡ byte = grind (arith, nat_tests) in ap is_word_byte same ∙ is
    by_range (inr low) (inl high) =
        let small : to_ascii_lowercase byte ≡ byte + 32 = grind (arith, nat_tests) in
        let letter : is_word_byte (byte + 32) ≡ true = grind (arith, nat_tests) in
        ap is_word_byte small ∙ letter

lower_bytes : (run : List ℕ) → AreWordBytes run → AreWordBytes (map to_ascii_lowercase run)
lower_bytes [] all = tt
lower_bytes (byte ∷ run) all = (word_bytes byte all.0, lower_bytes run all.1)

word_is : (run : List ℕ) → IsRun run → IsWord (word_of run)
unfolding word_of folded_run folded_text
word_is run is =
    let n = utf8_valid_len run in
    let front = take n run in
    let text = IsUtf8-front run in
    let split = parts_all IsWordByte front (drop n run) (subst AreWordBytes (sym (take-append-drop n run)) is.bytes) in
    let cs = default_case_fold (chars front) in
    let letters = letters_folded (chars front) (letters_of (chars front) (scalars-chars front text) (subst AreWordBytes (sym (encodes-chars front text)) split.0)) in
    let rest = map to_ascii_lowercase (drop n run) in
    let again = own_cut cs letters (each_stays cs (default_case_fold_idem (chars front))) rest
    (no_text_lowered (drop n run) (no_text_after run)) (lowered_again (drop n run)) WORD_MAX in
    record {
      some = omega (arith, some_word run is.some, length-take WORD_MAX (folded_run run));
      bytes = all_take IsWordByte WORD_MAX (encode_utf8_all cs ++ rest) (both_all IsWordByte (encode_utf8_all cs) rest (bytes_of_letters cs letters) (lower_bytes (drop n run) split.1));
      own = ap (take WORD_MAX) again ∙ take-take WORD_MAX WORD_MAX (encode_utf8_all cs ++ rest) (omega arith);
    }

-- ---- the runs of bytes
words_are : (runs : List (List ℕ)) → AllByRecursion IsRun runs → AllByRecursion IsWord (map word_of runs)
words_are [] all = tt
words_are (run ∷ runs) all = (word_is run all.0, words_are runs all.1)

onto : (byte : ℕ) (pieces : List (List ℕ)) → is_word_byte byte ≡ true → AllByRecursion AreWordBytes pieces
    → AllByRecursion AreWordBytes (onto_first byte pieces)
onto byte [] is all = ((is, tt), tt)
onto byte (piece ∷ pieces) is all = ((is, all.0), all.1)

split_one : (byte : ℕ) (pieces : List (List ℕ)) (test : Bool) → is_word_byte byte ≡ test → AllByRecursion AreWordBytes pieces
    → AllByRecursion AreWordBytes (cond (not test) ([] ∷ pieces) (onto_first byte pieces))
split_one byte pieces true is all = onto byte pieces is all
split_one byte pieces false is all = (tt, all)

pieces_are : (bytes : List ℕ) → AllByRecursion AreWordBytes (slice_split is_separator bytes)
pieces_are [] = (tt, tt)
pieces_are (byte ∷ bytes) = split_one byte (slice_split is_separator bytes) (is_word_byte byte) refl (pieces_are bytes)

filter_one : (piece : List ℕ) (rest : List (List ℕ)) (test : Bool) → has_bytes piece ≡ test → AreWordBytes piece → AllByRecursion IsRun rest
    → AllByRecursion IsRun (cond test (piece ∷ rest) rest)
filter_one piece rest true is bytes all = (record { some = grind (arith, nat_tests); bytes = bytes }, all)
filter_one piece rest false is bytes all = all

runs_are : (pieces : List (List ℕ)) → AllByRecursion AreWordBytes pieces → AllByRecursion IsRun (filter has_bytes pieces)
runs_are [] all = tt
runs_are (piece ∷ pieces) all = filter_one piece (filter has_bytes pieces) (has_bytes piece) refl all.0 (runs_are pieces all.1)

-- the words of a text are words
pub words_of_are : (bytes : List ℕ) → AllByRecursion IsWord (words_of bytes)
unfolding words_of runs_of
words_of_are bytes = words_are (filter has_bytes (slice_split is_separator bytes)) (runs_are (slice_split is_separator bytes) (pieces_are bytes))

pub no_separator : (word : List ℕ) → AllByRecursion IsWordByte word → AllByRecursion (λ byte. is_separator byte ≡ false) word
no_separator [] all = tt
no_separator (byte ∷ word) all = (ap not all.0, no_separator word all.1)

one_word : (word : List ℕ) → IsWord word → words_of word ≡ word ∷ []
unfolding words_of runs_of
one_word word is =
    let some : 0 < length word = is.some in
    let test : has_bytes word ≡ true = grind (arith, nat_tests) in
    ap (λ pieces. map word_of (filter has_bytes pieces)) (slice_split_none is_separator word (All-from_recursion (λ byte. is_separator byte ≡ false) word (no_separator word is.bytes)))
    ∙ ap (map word_of) (cond-true (has_bytes word) (word ∷ []) [] test) ∙ ap (λ w. w ∷ []) is.own

one_word_each : (words : List (List ℕ)) → AllByRecursion IsWord words → AllByRecursion (λ word. words_of word ≡ word ∷ []) words
one_word_each [] all = tt
one_word_each (word ∷ words) all = (one_word word all.0, one_word_each words all.1)

pub own_words : EachWordIsItsOwn
own_words bytes = All-from_recursion (λ word. words_of word ≡ word ∷ []) (words_of bytes) (one_word_each (words_of bytes) (words_of_are bytes))
