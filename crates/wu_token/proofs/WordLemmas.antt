-- The folding of a run, from its front on.
use Rattle.std.proofs.Common.{◌≡◌, ℕ, zero, suc, ◌+◌, ◌-◌, ◌<◌, ◌≤◌, Bool, true, false, cond, List, [], ◌∷◌, ◌++◌, map, length, take, drop}
use Rattle.std.proofs.Common.{All, chars, encode_utf8, encode_utf8_all, IsUtf8, IsAscii, refl, sym, ◌∙◌, ap, ap₂, subst, inl, inr}
use Rattle.std.proofs.Common.{arith, append_assoc, append-nil, min, get_or, set}
use Rattle.std.specs.Char.{to_ascii_lowercase}
use Rattle.std.specs.Str.{is_utf8}
use Rattle.std.specs.Str.Lossy.{valid_len_up_to, utf8_valid_len}
use Rattle.std.proofs.lemmas.Bool.{cases_Bool, cases_lt, cond-true}
use Rattle.std.proofs.lemmas.Bool.Decides.{nat_tests}
use borrow.Rule.Slice.PartMut.{put_mid}
use Rattle.std.proofs.lemmas.Slice.{take-put_mid}
use Rattle.std.proofs.lemmas.List.{length-map, length-take, length-drop, length-append, take-append-drop, take_all, take_at}
use Rattle.std.proofs.lemmas.List.{map_more, nil_from_length, take_more_set}
use Rattle.std.proofs.lemmas.Str.{IsUtf8-from_is_utf8, is_utf8-from_IsUtf8, IsUtf8-append, IsUtf8-from_ascii, chars-append}
use Rattle.std.proofs.lemmas.Str.{chars-nil, chars-IsAscii, utf8_valid_len_le, encodes-append, encodes-IsAscii, IsUtf8-past_char}
use Rattle.std.proofs.Math.Seq.{take-append-add, drop-append-add}
use Rattle.caseless.specs.Caseless.{default_case_fold}
use Rattle.caseless.proofs.CaselessLemmas.{default_case_fold-nil, default_case_fold-append, default_case_fold-ascii, All-chars}
use Rattle.wu_base.specs.declared.limits.TheConstants.{WORD_MAX}
use Rattle.wu_token.specs.Words.{folded_text, folded_run, word_of}

-- ---- what follows a text is UTF-8 where the two together are
without-chars : (cs b : List ℕ) → IsUtf8 (encode_utf8_all cs ++ b) → IsUtf8 b
without-chars [] b u = u
without-chars (c ∷ cs) b u =
    without-chars cs b
    (IsUtf8-past_char (encode_utf8_all (c ∷ cs) ++ b) (encode_utf8_all cs ++ b) c u (append_assoc (encode_utf8 c) (encode_utf8_all cs) b))

pub IsUtf8-after : (a b : List ℕ) → IsUtf8 a → IsUtf8 (a ++ b) → IsUtf8 b
IsUtf8-after a b text both = without-chars text.0 b (subst (λ front. IsUtf8 (front ++ b)) (sym text.1.1) both)

is_utf8-after : (a b : List ℕ) → IsUtf8 a → is_utf8 (a ++ b) ≡ is_utf8 b
is_utf8-after a b text =
    elim (cases_Bool (is_utf8 b)) [
      | inl yes' ↦ is_utf8-from_IsUtf8 (a ++ b) (IsUtf8-append a b text (IsUtf8-from_is_utf8 b yes')) ∙ sym yes'
      | inr no' ↦
          elim (cases_Bool (is_utf8 (a ++ b))) [
            | inl both ↦ both ∙ sym (is_utf8-from_IsUtf8 b (IsUtf8-after a b text (IsUtf8-from_is_utf8 (a ++ b) both)))
            | inr neither ↦ neither ∙ sym no'
          ]
    ]

-- ---- how long the text at the front is
add_under : (test : Bool) (n m k : ℕ) → cond test (suc (n + m)) (n + k) ≡ n + cond test (suc m) k
add_under true n m k = omega arith
add_under false n m k = refl

at_text : (a b : List ℕ) (n : ℕ) → n ≡ length a → IsUtf8 a → valid_len_up_to (a ++ b) n ≡ n
at_text a b zero e text = refl
at_text a b (suc n) e text =
    let front : take (suc n) (a ++ b) ≡ a = take_at a b (suc n) (sym e) in
    cond-true (is_utf8 (take (suc n) (a ++ b))) _ _ (ap is_utf8 front ∙ is_utf8-from_IsUtf8 a text)

after_text : (a b : List ℕ) → IsUtf8 a → (m : ℕ) → valid_len_up_to (a ++ b) (length a + m) ≡ length a + valid_len_up_to b m
after_text a b text zero = ap (valid_len_up_to (a ++ b)) (let e : length a + 0 ≡ length a = omega arith in e) ∙ at_text a b (length a) refl text ∙ (let e : length a ≡ length a + 0 = omega arith in e)
after_text a b text (suc m) =
    let step : length a + suc m ≡ suc (length a + m) = omega arith in
    let front : take (suc (length a + m)) (a ++ b) ≡ a ++ take (suc m) b = ap (λ n. take n (a ++ b)) (sym step) ∙ take-append-add a b (suc m) in
    ap (valid_len_up_to (a ++ b)) step
    ∙ ap (λ t. cond t (suc (length a + m)) (valid_len_up_to (a ++ b) (length a + m))) (ap is_utf8 front ∙ is_utf8-after a (take (suc m) b) text)
    ∙ ap (cond (is_utf8 (take (suc m) b)) (suc (length a + m))) (after_text a b text m)
    ∙ add_under (is_utf8 (take (suc m) b)) (length a) m (valid_len_up_to b m)

pub utf8_valid_len-after : (a b : List ℕ) → IsUtf8 a → utf8_valid_len (a ++ b) ≡ length a + utf8_valid_len b
unfolding utf8_valid_len
utf8_valid_len-after a b text = ap (valid_len_up_to (a ++ b)) (length-append a b) ∙ after_text a b text (length b)

-- ---- a text at the front is folded by itself
pub folded_text-append : (a b : List ℕ) → IsUtf8 a → folded_text (a ++ b) ≡ folded_text a ++ folded_text b
unfolding folded_text
folded_text-append a b text =
    ap (λ cs. encode_utf8_all (default_case_fold cs)) (chars-append a b text)
    ∙ ap encode_utf8_all (default_case_fold-append (chars a) (chars b))
    ∙ encodes-append (default_case_fold (chars a)) (default_case_fold (chars b))

pub folded_run-after : (a b : List ℕ) → IsUtf8 a → folded_run (a ++ b) ≡ folded_text a ++ folded_run b
unfolding folded_run
folded_run-after a b text =
    let n = utf8_valid_len b in
    let long = utf8_valid_len-after a b text in
    ap (λ k. folded_text (take k (a ++ b)) ++ map to_ascii_lowercase (drop k (a ++ b))) long
    ∙ ap₂ (λ front rest. folded_text front ++ map to_ascii_lowercase rest) (take-append-add a b n) (drop-append-add a b n)
    ∙ ap (λ front. front ++ map to_ascii_lowercase (drop n b)) (folded_text-append a (take n b) text)
    ∙ append_assoc (folded_text a) (folded_text (take n b)) (map to_ascii_lowercase (drop n b))

-- ---- bytes at the front that are ASCII are lowered, whatever follows
folded_text-ascii : (a : List ℕ) → IsAscii a → folded_text a ≡ map to_ascii_lowercase a
unfolding folded_text
folded_text-ascii a ascii =
    ap (λ cs. encode_utf8_all (default_case_fold cs)) (chars-IsAscii a ascii)
    ∙ ap encode_utf8_all (default_case_fold-ascii a (subst (All (λ c. c < 128)) (chars-IsAscii a ascii) (All-chars a ascii)))
    ∙ encodes-IsAscii (map to_ascii_lowercase a) (lowered-ascii a ascii)
  where
    lower : (b : ℕ) → b < 128 → to_ascii_lowercase b < 128
    lower b h = grind (arith, nat_tests)

    lowered-ascii : (bs : List ℕ) → IsAscii bs → IsAscii (map to_ascii_lowercase bs)
    lowered-ascii [] h k = omega arith
    lowered-ascii (b ∷ bs) h zero = lower b (h 0)
    lowered-ascii (b ∷ bs) h (suc k) = lowered-ascii bs (λ i. h (suc i)) k

pub folded_text-nil : folded_text [] ≡ []
unfolding folded_text
folded_text-nil = ap encode_utf8_all (ap default_case_fold chars-nil ∙ default_case_fold-nil)

folded_run-nil : folded_run [] ≡ []
unfolding folded_run utf8_valid_len
folded_run-nil = ap (λ front. front ++ []) folded_text-nil

-- the letters may be lowered after the cut
pub word_of-ascii : (run : List ℕ) (n : ℕ) → n ≡ min (length run) WORD_MAX → IsAscii (take n run) → map to_ascii_lowercase (take n run) ≡ word_of run
unfolding word_of folded_run
word_of-ascii run n e ascii =
    let a = take n run in
    let b = drop n run in
    let len : length (map to_ascii_lowercase a) ≡ n = length-map a to_ascii_lowercase ∙ length-take n run ∙ omega arith in
    let whole =
    ap (λ bytes. take WORD_MAX (folded_run bytes)) (sym (take-append-drop n run))
    ∙ ap (take WORD_MAX) (folded_run-after a b (IsUtf8-from_ascii a ascii)
    ∙ ap (λ front. front ++ folded_run b) (folded_text-ascii a ascii)) in
    elim (cases_lt (length run) WORD_MAX) [
      | inl short ↦
          let none : b ≡ [] = nil_from_length b (length-drop n run ∙ omega arith) in
          sym
          (whole ∙ ap (λ rest. take WORD_MAX (map to_ascii_lowercase a ++ rest)) (ap folded_run none ∙ folded_run-nil)
          ∙ ap (take WORD_MAX) (append-nil (map to_ascii_lowercase a)) ∙ take_all WORD_MAX (map to_ascii_lowercase a) (omega arith))
      | inr long ↦ sym (whole ∙ take_at (map to_ascii_lowercase a) (folded_run b) WORD_MAX (omega arith))
    ]

-- one byte more is lowered
pub lowered_more : (run letters : List ℕ) (i letter : ℕ) → i < length run → i < length letters
    → letter ≡ to_ascii_lowercase (get_or run i 0) → take i letters ≡ map to_ascii_lowercase (take i run)
    → take (i + 1) (set letters i letter) ≡ map to_ascii_lowercase (take (i + 1) run)
lowered_more run letters i letter l m e same =
    take_more_set letters i letter m ∙ ap₂ (λ front b. front ++ b ∷ []) same e ∙ sym (map_more to_ascii_lowercase run i 0 l)

-- ---- what is appended where there is room
pub take-twice : (n : ℕ) (a b : List ℕ) → take n (take n a ++ b) ≡ take n (a ++ b)
take-twice zero a b = refl
take-twice (suc n) [] b = refl
take-twice (suc n) (x ∷ a) b = ap (λ l. x ∷ l) (take-twice n a b)

take-least : (n : ℕ) (bytes : List ℕ) → take (min (length bytes) n) bytes ≡ take n bytes
take-least n bytes =
    elim (cases_lt n (length bytes)) [
      | inl long ↦ let whole : min (length bytes) n ≡ n = omega arith in ap (λ k. take k bytes) whole
      | inr short ↦ take_all (min (length bytes) n) bytes (omega arith) ∙ sym (take_all n bytes short)
    ]

-- of the bytes as many as there is room for are put after the first n of the room
pub pushed : (room bytes copied : List ℕ) (n count k : ℕ) → length room ≡ WORD_MAX → n ≤ WORD_MAX → count ≡ min (length bytes) (WORD_MAX - n)
    → copied ≡ take count bytes → take (n + count) (put_mid n k room copied) ≡ take WORD_MAX (take n room ++ bytes)
pushed room bytes copied n count k size within counts copies =
    let len : length copied ≡ count = ap length copies ∙ length-take count bytes ∙ omega arith in
    let front : length (take n room) ≡ n = length-take n room ∙ omega arith in
    let left : WORD_MAX ≡ length (take n room) + (WORD_MAX - n) = omega arith in
    take-put_mid n k room copied (n + count) (omega arith) (omega arith)
    ∙ ap (λ more. take n room ++ more) (copies ∙ ap (λ m. take m bytes) counts ∙ take-least (WORD_MAX - n) bytes)
    ∙ sym (ap (λ m. take m (take n room ++ bytes)) left ∙ take-append-add (take n room) bytes (WORD_MAX - n))

-- the folding of the text at the front, and then the rest
pub word_of-folded : (run text front word : List ℕ) → text ≡ take (utf8_valid_len run) run → front ≡ take WORD_MAX (folded_text text)
    → word ≡ take WORD_MAX (front ++ map to_ascii_lowercase (take (length run - length text) (drop (length text) run))) → word ≡ word_of run
unfolding word_of folded_run
word_of-folded run text front word texts fronts words =
    let len : length text ≡ utf8_valid_len run = ap length texts ∙ length-take (utf8_valid_len run) run ∙ omega (arith, utf8_valid_len_le run) in
    let rest : take (length run - length text) (drop (length text) run) ≡ drop (length text) run =
    take_all (length run - length text) (drop (length text) run) (omega (arith, length-drop (length text) run)) in
    words ∙ ap (λ r. take WORD_MAX (front ++ map to_ascii_lowercase r)) rest
    ∙ ap₂ (λ f n. take WORD_MAX (f ++ map to_ascii_lowercase (drop n run))) fronts len
    ∙ take-twice WORD_MAX (folded_text text) (map to_ascii_lowercase (drop (utf8_valid_len run) run))
    ∙ ap (λ t. take WORD_MAX (folded_text t ++ map to_ascii_lowercase (drop (utf8_valid_len run) run))) texts

-- one letter more of what is left
pub pushed_letter : (word pushed whole rest left : List ℕ) (letter : ℕ) → left ≡ letter ∷ rest → pushed ≡ take WORD_MAX (word ++ encode_utf8 letter)
    → take WORD_MAX (word ++ encode_utf8_all left) ≡ whole → take WORD_MAX (pushed ++ encode_utf8_all rest) ≡ whole
pushed_letter word pushed whole rest left letter lefts pushes same =
    ap (λ w. take WORD_MAX (w ++ encode_utf8_all rest)) pushes
    ∙ take-twice WORD_MAX (word ++ encode_utf8 letter) (encode_utf8_all rest)
    ∙ ap (take WORD_MAX) (append_assoc word (encode_utf8 letter) (encode_utf8_all rest))
    ∙ ap (λ l. take WORD_MAX (word ++ encode_utf8_all l)) (sym lefts) ∙ same

-- none is left
pub pushed_all : (word left whole : List ℕ) → length word ≤ WORD_MAX → left ≡ [] → take WORD_MAX (word ++ encode_utf8_all left) ≡ whole → word ≡ whole
pushed_all word left whole within none same =
    sym (take_all WORD_MAX word within) ∙ ap (take WORD_MAX) (sym (append-nil word))
    ∙ ap (λ l. take WORD_MAX (word ++ encode_utf8_all l)) (sym none) ∙ same

-- there is no more room
pub pushed_full : (word left whole : List ℕ) → length word ≡ WORD_MAX → take WORD_MAX (word ++ encode_utf8_all left) ≡ whole → word ≡ whole
pushed_full word left whole full same = sym (take_at word (encode_utf8_all left) WORD_MAX full) ∙ same

pub pushed_some : (word bytes pushed : List ℕ) → pushed ≡ take WORD_MAX (word ++ bytes) → length word < WORD_MAX → 1 ≤ length bytes
    → WORD_MAX - length pushed < WORD_MAX - length word
pushed_some word bytes pushed pushes short some =
    omega (arith, ap length pushes, length-take WORD_MAX (word ++ bytes), length-append word bytes)
