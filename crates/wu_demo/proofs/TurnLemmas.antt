-- Draws in turn, as a loop makes them.
use Rattle.std.proofs.Common.{◌≡◌, ℕ, suc, ◌+◌, ◌-◌, ◌<◌, ◌≤◌, List, [], ◌∷◌, ◌++◌, map, append_assoc, append-nil}
use Rattle.std.proofs.Common.{refl, ap, ap₂, sym, ◌∙◌, arith}
use Rattle.std.specs.List.{concat, flat_map, join_with_byte}
use Rattle.std.proofs.lemmas.List.Concat.{concat_is}
use Rattle.wu_demo.specs.Draws.{Draws, in_turn}
use Rattle.wu_demo.specs.Script.{word, word_number, text_line}

-- ---- one turn

pub turns-none : {A : Type 0} (draws : ℕ → Draws A) (n state : ℕ) → in_turn draws n 0 state ≡ ([], state)
unfolding in_turn
turns-none draws n state = refl

pub turns-some : {A : Type 0} (draws : ℕ → Draws A) (n count state : ℕ)
    → (in_turn draws n (suc count) state).0 ≡ (draws n state).0 ∷ (in_turn draws (n + 1) count (draws n state).1).0
unfolding in_turn
turns-some draws n count state = refl

pub turns-last : {A : Type 0} (draws : ℕ → Draws A) (n count state : ℕ)
    → (in_turn draws n (suc count) state).1 ≡ (in_turn draws (n + 1) count (draws n state).1).1
unfolding in_turn
turns-last draws n count state = refl

-- ---- a loop

-- What is written so far, with what the turns that are left write, is what was there before, with what all turns write. The turns that are
-- left begin at n, and go up to the end, which isn't one of them.
pub record Goes {A : Type 0} (spell : A → List ℕ) (draws : ℕ → Draws A) (first all start : ℕ) (before : List ℕ) (n end state : ℕ)
    (out : List ℕ) : Type 0 where
  pub bytes : out ++ flat_map spell (in_turn draws n (end - n) state).0 ≡ before ++ flat_map spell (in_turn draws first all start).0
  pub last : (in_turn draws n (end - n) state).1 ≡ (in_turn draws first all start).1

pub goes-on : {A : Type 0} (spell : A → List ℕ) (draws : ℕ → Draws A) (first all start : ℕ) (before : List ℕ) (n end state : ℕ)
    (out : List ℕ) (state' : ℕ) (out' : List ℕ)
    → n < end → Goes spell draws first all start before n end state out
    → out' ≡ out ++ spell (draws n state).0 → state' ≡ (draws n state).1
    → Goes spell draws first all start before (n + 1) end state' out'
goes-on spell draws first all start before n end state out state' out' within goes written moved =
    let left : end - n ≡ suc (end - (n + 1)) = omega arith in
    let others = in_turn draws (n + 1) (end - (n + 1)) (draws n state).1 in
    record {
      bytes = rw (written, moved)
          (append_assoc out (spell (draws n state).0) (flat_map spell others.0)
          ∙ ap (λ xs. out ++ flat_map spell xs) (sym (turns-some draws n (end - (n + 1)) state))
          ∙ ap (λ k. out ++ flat_map spell (in_turn draws n k state).0) (sym left)
          ∙ goes.bytes);
      last = rw moved
          (sym (turns-last draws n (end - (n + 1)) state)
          ∙ ap (λ k. (in_turn draws n k state).1) (sym left)
          ∙ goes.last);
    }

pub goes-written : {A : Type 0} (spell : A → List ℕ) (draws : ℕ → Draws A) (first all start : ℕ) (before : List ℕ) (n end state : ℕ)
    (out : List ℕ) → end ≤ n → Goes spell draws first all start before n end state out
    → out ≡ before ++ flat_map spell (in_turn draws first all start).0
goes-written spell draws first all start before n end state out done goes =
    let none : end - n ≡ 0 = omega arith in
    sym (append-nil out)
    ∙ ap (λ xs. out ++ flat_map spell xs) (sym (ap (λ p. p.0) (turns-none draws n state)))
    ∙ ap (λ k. out ++ flat_map spell (in_turn draws n k state).0) (sym none)
    ∙ goes.bytes

pub goes-last : {A : Type 0} (spell : A → List ℕ) (draws : ℕ → Draws A) (first all start : ℕ) (before : List ℕ) (n end state : ℕ)
    (out : List ℕ) → end ≤ n → Goes spell draws first all start before n end state out
    → state ≡ (in_turn draws first all start).1
goes-last spell draws first all start before n end state out done goes =
    let none : end - n ≡ 0 = omega arith in
    sym (ap (λ p. p.1) (turns-none draws n state))
    ∙ ap (λ k. (in_turn draws n k state).1) (sym none)
    ∙ goes.last

-- ---- the same of what draws give as bytes

abbrev pub Joins : (ℕ → Draws (List ℕ)) → ℕ → ℕ → ℕ → List ℕ → ℕ → ℕ → ℕ → List ℕ → Type 0
Joins draws first all start before n end state out = Goes (λ bytes. bytes) draws first all start before n end state out

pub joined : (draws : ℕ → Draws (List ℕ)) (first all start : ℕ) (before : List ℕ) (n end state : ℕ)
    (out : List ℕ) → end ≤ n → Joins draws first all start before n end state out
    → out ≡ before ++ concat (in_turn draws first all start).0
joined draws first all start before n end state out done goes =
    goes-written (λ bytes. bytes) draws first all start before n end state out done goes
    ∙ ap (λ xs. before ++ xs) (sym (concat_is (in_turn draws first all start).0))

-- ---- a line of words

pub spaced : (number : ℕ) (numbers : List ℕ)
    → join_with_byte 32 (map word (number ∷ numbers)) ≡ word number ++ flat_map (λ n. 32 ∷ word n) numbers
spaced number [] = sym (append-nil (word number))
spaced number (next ∷ numbers) = ap (λ (xs : List ℕ). word number ++ (32 ∷ xs)) (spaced next numbers)

-- the words after the first, each after a space
abbrev further : ℕ → List ℕ
further state = flat_map (λ n. 32 ∷ word n) (in_turn (λ _. word_number) 1 7 state).0

text_line-bytes : (state first moved : ℕ) → first ≡ (word_number state).0 → moved ≡ (word_number state).1
    → (text_line state).0 ≡ word first ++ further moved ++ 10 ∷ []
unfolding text_line
text_line-bytes state first moved first_is moved_is =
    ap (λ (numbers : List ℕ). join_with_byte 32 (map word numbers) ++ 10 ∷ []) (turns-some (λ _. word_number) 0 7 state)
    ∙ ap (λ (xs : List ℕ). xs ++ 10 ∷ []) (spaced (word_number state).0 (in_turn (λ _. word_number) 1 7 (word_number state).1).0)
    ∙ ap₂ (λ (w m : ℕ). word w ++ further m ++ 10 ∷ []) (sym first_is) (sym moved_is)

-- a loop over the words after the first
abbrev pub GoesByWord : ℕ → List ℕ → ℕ → ℕ → List ℕ → Type 0
GoesByWord start before n state out = Goes (λ n. 32 ∷ word n) (λ _. word_number) 1 7 start before n 8 state out

pub line-written : (out : List ℕ) (state first moved : ℕ) (begun : List ℕ) (n last : ℕ) (so_far : List ℕ)
    → first ≡ (word_number state).0 → moved ≡ (word_number state).1 → begun ≡ out ++ word first
    → 8 ≤ n → GoesByWord moved begun n last so_far
    → so_far ++ 10 ∷ [] ≡ out ++ (text_line state).0
line-written out state first moved begun n last so_far first_is moved_is begun_is done goes =
    let words : so_far ≡ (out ++ word first) ++ further moved =
    goes-written (λ n. 32 ∷ word n) (λ _. word_number) 1 7 moved begun n 8 last so_far done goes
    ∙ ap (λ (xs : List ℕ). xs ++ further moved) begun_is in
    ap (λ (xs : List ℕ). xs ++ 10 ∷ []) words
    ∙ append_assoc (out ++ word first) (further moved) (10 ∷ [])
    ∙ append_assoc out (word first) (further moved ++ 10 ∷ [])
    ∙ ap (λ (xs : List ℕ). out ++ xs)
    (sym (append_assoc (word first) (further moved) (10 ∷ [])) ∙ sym (text_line-bytes state first moved first_is moved_is))

pub line-moves : (state moved : ℕ) (begun : List ℕ) (n last : ℕ) (so_far : List ℕ) → moved ≡ (word_number state).1
    → 8 ≤ n → GoesByWord moved begun n last so_far → last ≡ (text_line state).1
unfolding text_line
line-moves state moved begun n last so_far moved_is done goes =
    goes-last (λ n. 32 ∷ word n) (λ _. word_number) 1 7 moved begun n 8 last so_far done goes
    ∙ ap (λ (m : ℕ). (in_turn (λ _. word_number) 1 7 m).1) moved_is
    ∙ sym (turns-last (λ _. word_number) 0 7 state)
