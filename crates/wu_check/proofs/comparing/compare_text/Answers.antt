use Rattle.std.proofs.Common.{◌≡◌, ◌<◌, ℕ, ◌-◌, ◌∙◌, List, length, length-drop, take, take_all, drop, ap, arith}
use Rattle.wu_token.specs.Tokens.{tokens_of}
use Rattle.wu_token.proofs.PlacesLemmas.{tokens_of-pieces}
use Rattle.wu_check.specs.Comparing.{are_numbers_of}
use Rattle.wu_check.proofs.ComparedTexts.{compared_exact, place_is_within}
use Rattle.wu_check.proofs.comparing.compare_text.Goals as goal

pub returns-clause-same : goal.returns-clause-same
returns-clause-same c =
    let index = c.args.index.now in
    let tokens : List (List ℕ) = tokens_of c.args.text.now in
    let all : List ℕ = c.as_slice-numbers.result.now in
    let from : ℕ = c.min-from.result in
    let rest : List ℕ = take (length all - from) (drop from all) in
    let whole : rest ≡ drop from all = take_all (length all - from) (drop from all) (omega (arith, length-drop from all)) in
    λ ranges lists range indexed distinct apart is few.
    let some : 0 < length tokens = omega (arith, ap length (tokens_of-pieces c.args.text.now)) in
    let within = place_is_within ranges c.args.place range apart is (omega (arith, few, some)) in
    let same : from ≡ c.args.place =
    omega (arith, c.min-from.ensures, within, indexed.long, ap length c.as_slice-numbers.ensures.value) in
    compared_exact ranges lists index c.args.place range tokens c.compare.result.same rest indexed distinct apart is few
    (whole ∙ ap (drop from) c.as_slice-numbers.ensures.value ∙ ap (λ n. drop n index.numbers.items) same)
    (c.compare.ensures.same ∙ ap (λ (ts : List (List ℕ)). are_numbers_of ts rest 0 tokens) c.as_slice.ensures.value)
