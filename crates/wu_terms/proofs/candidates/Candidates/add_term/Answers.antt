use Rattle.std.proofs.Common.{◌≡◌, ℕ, List, [], ◌∷◌, ◌++◌, true, false, ap, sym, ◌∙◌, arith, rules}
use Rattle.wu_terms.proofs.Collected.{none_added, one_added}
use Rattle.wu_terms.proofs.Prefixed.{not_true, not_false}
use Rattle.wu_terms.proofs.candidates.Candidates.add_term.Goals as goal

pub returns-then-not-is_candidate-clause-ok : goal.returns-then-not-is_candidate-clause-ok
returns-then-not-is_candidate-clause-ok c =
    let given = rw c.as_slice.ensures at c.is_candidate.ensures in
    let test : c.is_candidate.result ≡ false = first_of (search (rules, not_true, not_false), grind (arith, not_true, not_false)) in
    none_added c.args.self.now c.self.inside.prefix c.self.inside.words.items c.args.term.now c.self.view_is (sym given ∙ test)

pub returns-clause-ok : goal.returns-clause-ok
returns-clause-ok c =
    let given = rw c.as_slice.ensures at c.is_candidate.ensures in
    let test : c.is_candidate.result ≡ true = first_of (search (rules, not_true, not_false), grind (arith, not_true, not_false)) in
    c.settle.ensures
    ∙ one_added c.args.self.now c.self.inside.prefix c.self.inside.words.items c.push.new.self.items c.args.term.now c.self.view_is
    (sym given ∙ test)
    (c.in_ok-push.ensures.items ∙ ap (λ (w : List ℕ). c.self.inside.words.items ++ w ∷ []) c.in_ok-from_slice.ensures)
