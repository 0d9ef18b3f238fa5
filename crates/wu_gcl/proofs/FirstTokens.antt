-- The token found from the left is the one that stands there.
use Rattle.std.proofs.Common.{◌≡◌, ◌≢◌, ℕ, suc, ◌+◌, ◌<◌, Bool, true, false, cond, List, [], ◌∷◌, ◌++◌, length, take, drop, append_assoc}
use Rattle.std.proofs.Common.{length-append, Some, refl, sym, ◌∙◌, ap, inl, inr, arith, eqb}
use Rattle.std.specs.Prelude.{◌⊎◌, codes, nat_eq}
use Rattle.std.specs.Char.{is_ascii_digit, is_ascii_alphabetic, IsAsciiDigit}
use Rattle.std.specs.List.{prefix_len, AllByRecursion}
use Rattle.std.specs.Cmp.Lexicographic.{pointwise, same_text}
use Rattle.std.proofs.lemmas.Bool.Decides.{nat_tests}
use Rattle.std.proofs.lemmas.List.Sums.{split_at_first, passes_at_first, prefix_len-le-length}
use Rattle.std.proofs.Common.{get_or, length-take}
use Rattle.std.proofs.lemmas.List.{take-append-drop, take_at, drop_at, length_push}
use Rattle.std.specs.Prelude.{nat_lt}
use Rattle.std.proofs.Common.{lt-ltb, ltb-true, eqb-true}
use Rattle.wu_gcl.specs.declared.expressions.Op.TheVariants.{Containing, ContainedIn, NotContaining, NotContainedIn, OneOf, BothOf}
use Rattle.wu_gcl.specs.declared.expressions.Op.TheVariants.{FollowedBy}
use Rattle.wu_gcl.specs.Lexical.{Quoted, Bracketed, FileWord, LineWord, Token, Operand, Operator, Open, Close, Stands, starts_with_letter}
use Rattle.wu_gcl.specs.Scanning.{token_and, is_unquote, quoted_at, closed_by, bracketed_at, word_of, negation_at, dots_at, mark_at}
use Rattle.wu_gcl.specs.Scanning.{first_token}

-- a run of what passes ends where the next fails
pub prefix_len-run : (p : ℕ → Bool) (P : ℕ → Type 0) → ((b : ℕ) → P b → p b ≡ true) → (run rest : List ℕ) → AllByRecursion P run
    → prefix_len p rest ≡ 0 →
    prefix_len p (run ++ rest) ≡ length run
prefix_len-run p P passes [] rest all stops = stops
prefix_len-run p P passes (b ∷ run) rest all stops =
    let same : prefix_len p (run ++ rest) ≡ length run = prefix_len-run p P passes run rest all.1 stops in
    rw (passes b all.0) (grind arith)

passes_on : (p : ℕ → Bool) (P : ℕ → Type 0) → ((b : ℕ) → p b ≡ true → P b) → (b : ℕ) (text : List ℕ) (test : Bool) → p b ≡ test
    → AllByRecursion P (take (prefix_len p text) text) → AllByRecursion P (take (cond test (1 + prefix_len p text) 0) (b ∷ text))
passes_on p P means b text true passes all =
    let one : 1 + prefix_len p text ≡ suc (prefix_len p text) = omega arith in
    rw one (means b passes, all)
passes_on p P means b text false passes all = tt

-- the run that is found passes, and what follows it doesn't begin with what passes
pub run_passes : (p : ℕ → Bool) (P : ℕ → Type 0) → ((b : ℕ) → p b ≡ true → P b) → (text : List ℕ)
    → AllByRecursion P (take (prefix_len p text) text)
run_passes p P means [] = tt
run_passes p P means (b ∷ text) = passes_on p P means b text (p b) refl (run_passes p P means text)

drop_after : (xs : List ℕ) (x : ℕ) (ys : List ℕ) → drop (length xs + 1) (xs ++ (x ∷ ys)) ≡ ys
drop_after xs x ys = rw (← append_assoc xs (x ∷ []) ys) (drop_at (xs ++ x ∷ []) ys (length xs + 1) (length_push xs x))

take_before : (xs ys : List ℕ) → take (length xs) (xs ++ ys) ≡ xs
take_before xs ys = take_at xs ys (length xs) refl

unquote_passes : (b : ℕ) → b ≢ 34 → is_unquote b ≡ true
unquote_passes b other = grind (arith, nat_tests)

digit_passes : (b : ℕ) → IsAsciiDigit b → is_ascii_digit b ≡ true
digit_passes b digit = grind (arith, nat_tests)

quoted_front : (bytes rest : List ℕ) → AllByRecursion (λ b. b ≢ 34) bytes
    → quoted_at (bytes ++ (34 ∷ rest)) ≡ Some (Operand (Quoted bytes), rest)
quoted_front bytes rest all =
    let n : prefix_len is_unquote (bytes ++ (34 ∷ rest))
    ≡ length bytes = prefix_len-run is_unquote (λ b. b ≢ 34) unquote_passes bytes (34 ∷ rest) all refl in
    let shorter : nat_lt (length bytes) (length (bytes ++ (34 ∷ rest)))
    ≡ true = rw length-append (lt-ltb (length bytes) (length bytes + length (34 ∷ rest)) (omega arith)) in
    rw (n, shorter, take_before bytes (34 ∷ rest), drop_after bytes 34 rest) refl

bracketed_front : (digits rest : List ℕ) → 0 < length digits → AllByRecursion IsAsciiDigit digits
    → bracketed_at (digits ++ (93 ∷ rest)) ≡ Some (Operand (Bracketed digits), rest)
bracketed_front digits rest some all =
    let n : prefix_len is_ascii_digit (digits ++ (93 ∷ rest))
    ≡ length digits = prefix_len-run is_ascii_digit IsAsciiDigit digit_passes digits (93 ∷ rest) all refl in
    let more : eqb (length digits) 0 ≡ false = grind (arith, nat_tests) in
    rw (n, more, take_before digits (93 ∷ rest), drop_at digits (93 ∷ rest) (length digits) refl) refl

no_letter : (rest : List ℕ) → starts_with_letter rest ≡ false → prefix_len is_ascii_alphabetic rest ≡ 0
no_letter [] ends = refl
no_letter (b ∷ rest) ends = rw ends refl

pub stands_at_front : (token : Token) (rest text : List ℕ) → Stands token rest text → first_token text ≡ Some (token, rest)
stands_at_front (Operand (Quoted bytes)) rest text stands = rw (stands.spelled, append_assoc bytes (34 ∷ []) rest)
    (quoted_front bytes rest stands.proper)
stands_at_front (Operand (Bracketed digits)) rest text stands = rw (stands.spelled, append_assoc digits (93 ∷ []) rest)
    (bracketed_front digits rest stands.proper.0 stands.proper.1)
stands_at_front (Operand FileWord) rest text stands = rw (stands.spelled, no_letter rest stands.ended) refl
stands_at_front (Operand LineWord) rest text stands = rw (stands.spelled, no_letter rest stands.ended) refl
stands_at_front (Operator Containing) rest text stands = rw stands.spelled refl
stands_at_front (Operator ContainedIn) rest text stands = rw stands.spelled refl
stands_at_front (Operator NotContaining) rest text stands = rw stands.spelled refl
stands_at_front (Operator NotContainedIn) rest text stands = rw stands.spelled refl
stands_at_front (Operator OneOf) rest text stands = rw stands.spelled refl
stands_at_front (Operator BothOf) rest text stands = rw stands.spelled refl
stands_at_front (Operator FollowedBy) rest text stands = rw stands.spelled refl
stands_at_front Open rest text stands = rw stands.spelled refl
stands_at_front Close rest text stands = rw stands.spelled refl

-- which way a test went
chosen : {X : Type 0} (test : Bool) (x y z : X) → cond test x y ≡ z → ((test ≡ true) × (x ≡ z)) ⊎ ((test ≡ false) × (y ≡ z))
chosen true x y z h = inl (refl, h)
chosen false x y z h = inr (refl, h)

same_front : (t token : Token) (r rest text : List ℕ) → token_and t r ≡ Some (token, rest) → Stands t r text → Stands token rest text
same_front t token r rest text same stands =
    let pairs : ◌≡◌ {A = Token × List ℕ} (t, r) (token, rest) = cc in
    let tokens : t ≡ token = ap (λ (pair : Token × List ℕ). pair.0) pairs in
    let rests : r ≡ rest = ap (λ (pair : Token × List ℕ). pair.1) pairs in
    rw (← tokens, ← rests) stands

pub passes_unquote : (b : ℕ) → is_unquote b ≡ true → b ≢ 34
passes_unquote b passes is = grind (arith, nat_tests)

passes_digit : (b : ℕ) → is_ascii_digit b ≡ true → IsAsciiDigit b
passes_digit b passes = grind (arith, nat_tests)

split_at_quote : (text : List ℕ) → prefix_len is_unquote text < length text
    → text ≡ (take (prefix_len is_unquote text) text ++ 34 ∷ []) ++ drop (prefix_len is_unquote text + 1) text
split_at_quote text less =
    let quote : get_or text (prefix_len is_unquote text) 0 ≡ 34 = eqb-true _ _ (passes_at_first (λ (b : ℕ). eqb b 34) text 0 less) in
    split_at_first (λ (b : ℕ). eqb b 34) text 0 less
    ∙ ap (λ (c : ℕ). take (prefix_len is_unquote text) text ++ (c ∷ drop (prefix_len is_unquote text + 1) text)) quote
    ∙ sym (append_assoc (take (prefix_len is_unquote text) text) (34 ∷ []) (drop (prefix_len is_unquote text + 1) text))

some_taken : (text : List ℕ) → eqb (prefix_len is_ascii_digit text) 0 ≡ false → 0 < length (take (prefix_len is_ascii_digit text) text)
some_taken text some = rw length-take (grind (arith, nat_tests, prefix_len-le-length is_ascii_digit text))

quoted_stands : (text : List ℕ) (token : Token) (rest : List ℕ) → quoted_at text ≡ Some (token, rest) → Stands token rest (34 ∷ text)
quoted_stands text token rest h = elim (chosen (nat_lt (prefix_len is_unquote text) (length text)) _ _ _ h) [
  | inl (less, h) ↦ same_front (Operand (Quoted (take (prefix_len is_unquote text) text))) token
      (drop (prefix_len is_unquote text + 1) text) rest (34 ∷ text) h
      (record {
        spelled = ap (λ (bytes : List ℕ). 34 ∷ bytes) (split_at_quote text (ltb-true _ _ less));
        proper = run_passes is_unquote (λ b. b ≢ 34) passes_unquote text;
        ended = tt;
      })
  | inr (over, h) ↦ cc
]

closed_stands : (digits text : List ℕ) (token : Token) (rest : List ℕ) → 0 < length digits → AllByRecursion IsAsciiDigit digits
    → closed_by digits text ≡ Some (token, rest) → Stands token rest (91 ∷ (digits ++ text))
closed_stands digits [] token rest some all h = cc
closed_stands digits (b ∷ text) token rest some all h = elim (chosen (eqb b 93) _ _ _ h) [
  | inl (is, h) ↦ same_front (Operand (Bracketed digits)) token text rest (91 ∷ (digits ++ (b ∷ text))) h
      (record {
        spelled = ap (λ (bytes : List ℕ). 91 ∷ bytes)
            (ap (λ (c : ℕ). digits ++ (c ∷ text)) (eqb-true _ _ is) ∙ sym (append_assoc digits (93 ∷ []) text));
        proper = (some, all);
        ended = tt;
      })
  | inr (other, h) ↦ cc
]

bracketed_stands : (text : List ℕ) (token : Token) (rest : List ℕ) → bracketed_at text ≡ Some (token, rest) → Stands token rest (91 ∷ text)
bracketed_stands text token rest h = elim (chosen (eqb (prefix_len is_ascii_digit text) 0) _ _ _ h) [
  | inl (is, h) ↦ cc
  | inr (some, h) ↦ rw (← take-append-drop (prefix_len is_ascii_digit text) text)
      (closed_stands (take (prefix_len is_ascii_digit text) text) (drop (prefix_len is_ascii_digit text) text) token rest
      (some_taken text some)
      (run_passes is_ascii_digit IsAsciiDigit passes_digit text) h)
]

after : (b : ℕ) (text : List ℕ) (test : Bool) → is_ascii_alphabetic b ≡ test
    → starts_with_letter (drop (prefix_len is_ascii_alphabetic text) text) ≡ false →
    starts_with_letter (drop (cond test (1 + prefix_len is_ascii_alphabetic text) 0) (b ∷ text)) ≡ false
after b text true is rest =
    let one : 1 + prefix_len is_ascii_alphabetic text ≡ suc (prefix_len is_ascii_alphabetic text) = omega arith in
    rw one rest
after b text false is rest = is

-- after all the letters no letter stands
letters_end : (text : List ℕ) → starts_with_letter (drop (prefix_len is_ascii_alphabetic text) text) ≡ false
letters_end [] = refl
letters_end (b ∷ text) = after b text (is_ascii_alphabetic b) refl (letters_end text)

word_stands : (letters text : List ℕ) (token : Token) (rest : List ℕ) → starts_with_letter text ≡ false
    → word_of letters text ≡ Some (token, rest) → Stands token rest (letters ++ text)
word_stands letters text token rest ends h = elim (chosen (pointwise nat_eq letters (codes "file")) _ _ _ h) [
  | inl (is, h) ↦ same_front (Operand FileWord) token text rest (letters ++ text) h
      (record { spelled = ap (λ (bytes : List ℕ). bytes ++ text) (same_text letters (codes "file") (sym is)); proper = tt; ended = ends })
  | inr (other, h) ↦ elim (chosen (pointwise nat_eq letters (codes "line")) _ _ _ h) [
    | inl (is, h) ↦ same_front (Operand LineWord) token text rest (letters ++ text) h
        (record { spelled = ap (λ (bytes : List ℕ). bytes ++ text) (same_text letters (codes "line") (sym is)); proper = tt; ended = ends })
    | inr (other, h) ↦ cc
  ]
]

negation_stands : (text : List ℕ) (token : Token) (rest : List ℕ) → negation_at text ≡ Some (token, rest) → Stands token rest (47 ∷ text)
negation_stands [] token rest h = cc
negation_stands (b ∷ text) token rest h = elim (chosen (eqb b 62) _ _ _ h) [
  | inl (is, h) ↦ same_front (Operator NotContaining) token text rest (47 ∷ b ∷ text) h
      (record { spelled = ap (λ (c : ℕ). 47 ∷ c ∷ text) (eqb-true _ _ is); proper = tt; ended = tt })
  | inr (other, h) ↦ elim (chosen (eqb b 60) _ _ _ h) [
    | inl (is, h) ↦ same_front (Operator NotContainedIn) token text rest (47 ∷ b ∷ text) h
        (record { spelled = ap (λ (c : ℕ). 47 ∷ c ∷ text) (eqb-true _ _ is); proper = tt; ended = tt })
    | inr (other, h) ↦ cc
  ]
]

dots_stands : (text : List ℕ) (token : Token) (rest : List ℕ) → dots_at text ≡ Some (token, rest) → Stands token rest (46 ∷ text)
dots_stands [] token rest h = cc
dots_stands (b ∷ text) token rest h = elim (chosen (eqb b 46) _ _ _ h) [
  | inl (is, h) ↦ same_front (Operator FollowedBy) token text rest (46 ∷ b ∷ text) h
      (record { spelled = ap (λ (c : ℕ). 46 ∷ c ∷ text) (eqb-true _ _ is); proper = tt; ended = tt })
  | inr (other, h) ↦ cc
]

mark_stands : (b : ℕ) (text : List ℕ) (token : Token) (rest : List ℕ) → mark_at b text ≡ Some (token, rest) → Stands token rest (b ∷ text)
mark_stands b text token rest h = elim (chosen (eqb b 40) _ _ _ h) [
  | inl (is, h) ↦ same_front Open token text rest (b ∷ text) h
      (record { spelled = ap (λ (c : ℕ). c ∷ text) (eqb-true _ _ is); proper = tt; ended = tt })
  | inr (other, h) ↦ elim (chosen (eqb b 41) _ _ _ h) [
    | inl (is, h) ↦ same_front Close token text rest (b ∷ text) h
        (record { spelled = ap (λ (c : ℕ). c ∷ text) (eqb-true _ _ is); proper = tt; ended = tt })
    | inr (other, h) ↦ elim (chosen (eqb b 62) _ _ _ h) [
      | inl (is, h) ↦ same_front (Operator Containing) token text rest (b ∷ text) h
          (record { spelled = ap (λ (c : ℕ). c ∷ text) (eqb-true _ _ is); proper = tt; ended = tt })
      | inr (other, h) ↦ elim (chosen (eqb b 60) _ _ _ h) [
        | inl (is, h) ↦ same_front (Operator ContainedIn) token text rest (b ∷ text) h
            (record { spelled = ap (λ (c : ℕ). c ∷ text) (eqb-true _ _ is); proper = tt; ended = tt })
        | inr (other, h) ↦ elim (chosen (eqb b 43) _ _ _ h) [
          | inl (is, h) ↦ same_front (Operator OneOf) token text rest (b ∷ text) h
              (record { spelled = ap (λ (c : ℕ). c ∷ text) (eqb-true _ _ is); proper = tt; ended = tt })
          | inr (other, h) ↦ elim (chosen (eqb b 94) _ _ _ h) [
            | inl (is, h) ↦ same_front (Operator BothOf) token text rest (b ∷ text) h
                (record { spelled = ap (λ (c : ℕ). c ∷ text) (eqb-true _ _ is); proper = tt; ended = tt })
            | inr (other, h) ↦ rw (← take-append-drop (prefix_len is_ascii_alphabetic (b ∷ text)) (b ∷ text))
                (word_stands (take (prefix_len is_ascii_alphabetic (b ∷ text)) (b ∷ text))
                (drop (prefix_len is_ascii_alphabetic (b ∷ text)) (b ∷ text)) token rest (letters_end (b ∷ text)) h)
          ]
        ]
      ]
    ]
  ]
]

-- what is found at the front stands there
pub front_stands : (text : List ℕ) (token : Token) (rest : List ℕ) → first_token text ≡ Some (token, rest) → Stands token rest text
front_stands [] token rest h = cc
front_stands (b ∷ text) token rest h = elim (chosen (eqb b 34) _ _ _ h) [
  | inl (is, h) ↦ rw (eqb-true b 34 is) (quoted_stands text token rest h)
  | inr (other, h) ↦ elim (chosen (eqb b 91) _ _ _ h) [
    | inl (is, h) ↦ rw (eqb-true b 91 is) (bracketed_stands text token rest h)
    | inr (other, h) ↦ elim (chosen (eqb b 47) _ _ _ h) [
      | inl (is, h) ↦ rw (eqb-true b 47 is) (negation_stands text token rest h)
      | inr (other, h) ↦ elim (chosen (eqb b 46) _ _ _ h) [
        | inl (is, h) ↦ rw (eqb-true b 46 is) (dots_stands text token rest h)
        | inr (other, h) ↦ mark_stands b text token rest h
      ]
    ]
  ]
]
