-- The output for the whole items of a prefix of bytes.
use Rattle.std.proofs.Common.{◌≡◌, ℕ, zero, suc, ◌-◌, List, [], ◌∷◌, ◌++◌, length, take, drop, Option, refl, sym, ap, ◌∙◌, arith}
use Rattle.std.proofs.Common.{append-nil, length-append}
use Rattle.std.proofs.lemmas.List.{take-append-drop}
use Rattle.wu_script.specs.Holding.{but_last}
use Rattle.wu_script.specs.Items.{whole_items_of}
use Rattle.wu_script.proofs.ItemListLemmas.{whole_items_more}
use Rattle.wu_query.specs.States.{State}
use Rattle.wumpus_run.specs.Replies.{Rules, output_of, state_after}
use Rattle.wumpus_run.proofs.SessionLemmas.{output-append}
use Rattle.wumpus_run.proofs.Endings.SentReplies.{whole_output, HasSentUsed}

-- the output for the whole items of a prefix of bytes is a prefix of that for all of them
whole-prefix : (rules : Rules) (s : State) (bytes more : List ℕ)
    → (rest : List ℕ) × (whole_output rules s (bytes ++ more) ≡ whole_output rules s bytes ++ rest)
whole-prefix rules s bytes more =
    let prefix = whole_items_more bytes more in (
      output_of rules (state_after rules s (whole_items_of bytes)) prefix.0,
      ap (output_of rules s) prefix.1 ∙ output-append rules s (whole_items_of bytes) prefix.0,
    )

pub whole-take : (rules : Rules) (s : State) (n : ℕ) (bytes : List ℕ)
    → (rest : List ℕ) × (whole_output rules s bytes ≡ whole_output rules s (take n bytes) ++ rest)
whole-take rules s n bytes =
    let prefix = whole-prefix rules s (take n bytes) (drop n bytes) in
    (prefix.0, ap (whole_output rules s) (sym (take-append-drop n bytes)) ∙ prefix.1)

-- a prefix of two lists together is a prefix of the first and a prefix of the second
prefix_of_both : (n : ℕ) (xs ys : List ℕ) → (behind : List ℕ) × (xs ++ take (n - length xs) ys ≡ take n (xs ++ ys) ++ behind)
prefix_of_both zero xs ys = (xs ++ take (zero - length xs) ys, refl)
prefix_of_both (suc n) [] ys =
    let all : suc n - length {A = ℕ} [] ≡ suc n = omega arith in
    ([], ap (λ k. take k ys) all ∙ sym (append-nil (take (suc n) ys)))
prefix_of_both (suc n) (x ∷ xs) ys =
    let below = prefix_of_both n xs ys in
    let same : suc n - length (x ∷ xs) ≡ n - length xs = omega arith in
    (below.0, ap (λ k. x ∷ xs ++ take k ys) same ∙ ap (λ bs. x ∷ bs) below.1)

module _ (start : State) where
  -- where no item is whole in what follows the used bytes, exactly what was sent answers the whole items
  pub sent_exactly : (rules : Rules) (before now : Option (List ℕ)) (given held more : List ℕ) (s : State)
      → (sent : HasSentUsed start rules before now given held s) → whole_items_of more ≡ []
      → whole_output rules start (sent.used ++ more) ≡ sent.sent
  sent_exactly rules before now given held more s sent none = sent.whole more ∙ ap (λ es. sent.sent ++ output_of rules s es) none
      ∙ append-nil sent.sent

  -- what was sent begins with the output for the whole items but for the last bytes, where none is whole in what follows the used ones
  pub sent_at_least : (rules : Rules) (last_read : ℕ) (before now : Option (List ℕ)) (given held : List ℕ) (s : State) (all behind : List ℕ)
      → (sent : HasSentUsed start rules before now given held s) → all ≡ sent.used ++ behind
      → whole_items_of (but_last last_read behind) ≡ []
      → (rest : List ℕ) × (sent.sent ≡ whole_output rules start (but_last last_read all) ++ rest)
  sent_at_least rules last_read before now given held s all behind sent joined none =
      let used = sent.used in
      let count = length (used ++ behind) - last_read in
      let fewer : count - length used ≡ length behind - last_read = omega (arith, length-append used behind) in
      let cut = prefix_of_both count used behind in
      let prefix = whole-prefix rules start (take count (used ++ behind)) cut.0 in (
        prefix.0,
        sym (sent_exactly rules before now given held (but_last last_read behind) s sent none)
            ∙ ap (λ k. whole_output rules start (used ++ take k behind)) (sym fewer)
            ∙ ap (whole_output rules start) cut.1
            ∙ prefix.1
            ∙ ap (λ bs. whole_output rules start (but_last last_read bs) ++ prefix.0) (sym joined),
      )
