use Rattle.std.proofs.Common.{◌≡◌, ◌+◌, ◌≤◌, ℕ, List, length, take, map, ap, refl, ◌∙◌, arith, rules}
use Rattle.std.proofs.lemmas.Bool.{eqb-false}
use Rattle.std.proofs.lemmas.List.{length-map, take_all}
use Rattle.wu_token.specs.declared.spans.Token.{Token}
use Rattle.wu_parts.specs.Memory.{Memory}
use Rattle.wu_parts.specs.Lists.{with_posting, with_terms}
use Rattle.wu_parts.proofs.Putting.{add_more, end_of_front, low_of_front, with_terms-passed}
use Rattle.wu_parts.proofs.memory.MemoryPostings.add.Goals as goal

-- memory, once it has passed to the first address
abbrev passed : Memory → ℕ → Memory
passed memory start = record memory { end = start }

end : (tokens : List Token) (place : ℕ) (old now : Memory) (start : ℕ) → place ≤ length tokens
    → now ≡ with_terms (passed old start) start (map (λ (t : Token). t.term) (take place tokens)) → now.end ≡ start + place
end tokens place old now start l h = end_of_front tokens place (passed old start) now start l refl h

pub push-requires-clause-bounded : goal.push-requires-clause-bounded
push-requires-clause-bounded c =
    omega (
      arith,
      end c.args.tokens.now c.loop-token.token-index c.args.self.now c.loop-token.self c.args.start (omega arith) c.loop-token.invariant,
      c.requires.bounded,
    )

low : (tokens : List Token) (place : ℕ) (old now : Memory) (start : ℕ)
    → now ≡ with_terms (passed old start) start (map (λ (t : Token). t.term) (take place tokens)) → now.low ≡ old.low
low tokens place old now start h = low_of_front tokens place (passed old start) now start h

pub returns-in_err-push-clause-low : goal.returns-in_err-push-clause-low
returns-in_err-push-clause-low c =
    ap (λ (m : Memory). m.low) c.in_err-push.ensures.err
    ∙ low c.args.tokens.now c.loop-token.token-index c.args.self.now c.loop-token.self c.args.start c.loop-token.invariant

pub loop-token-preserved : goal.loop-token-preserved
loop-token-preserved c =
    let tokens : List Token = c.args.tokens.now in
    let place : ℕ = c.loop-token.token-index in
    let here : place ≤ length tokens = omega arith in
    c.in_ok-push.ensures.ok
    ∙ ap (λ (n : ℕ). with_posting c.loop-token.self n c.as_slice.result.now)
    (end tokens place c.args.self.now c.loop-token.self c.args.start here c.loop-token.invariant)
    ∙ add_more tokens place c.token-item.result (passed c.args.self.now c.args.start) c.loop-token.self c.args.start
    c.as_slice.result.now (omega arith) c.token-item.is c.as_slice.ensures c.loop-token.invariant

pub returns-clause-low : goal.returns-clause-low
returns-clause-low c =
    low c.args.tokens.now c.loop-token.token-index c.args.self.now c.loop-token.self c.args.start c.loop-token.invariant

pub returns-clause-terms : goal.returns-clause-terms
returns-clause-terms c =
    let tokens : List Token = c.args.tokens.now in
    let place : ℕ = c.loop-token.token-index in
    let old : Memory = c.args.self.now in
    let some : length tokens ≡ 0 → ⊥ = eqb-false (length tokens) 0 (search rules) in
    let all : take place tokens ≡ tokens = take_all place tokens (omega arith) in
    c.loop-token.invariant
    ∙ ap (λ (ts : List Token). with_terms (passed old c.args.start) c.args.start (map (λ (t : Token). t.term) ts)) all
    ∙ with_terms-passed (map (λ (t : Token). t.term) tokens) old c.args.start
    (omega (arith, some, length-map tokens (λ (t : Token). t.term)))
