use Rattle.std.proofs.Common.{◌≡◌, ℕ, List, [], ◌∷◌, ◌++◌, true, false, ap, sym, ◌∙◌, arith, rules}
use Rattle.wu_terms.proofs.Entries.{terms, walk_begins, walk_skips, walk_stops, walk_takes}
use Rattle.wu_terms.proofs.Prefixed.{not_true, not_false}
use Rattle.wu_terms.proofs.candidates.words_in.Goals as goal

pub loop-entry-init : goal.loop-entry-init
loop-entry-init c =
    walk_begins c.args.prefix.now c.args.directory.now.terms c.into_iter-entry-iterator.result c.new-words.result.items
    c.is_spelled.ensures.1.holds.ascending
    (c.into_iter-entry-iterator.ensures.into_iter_gives ∙ c.terms_from-entry-items.ensures) c.new-words.ensures.items

pub returns-then-not-starts_with : goal.returns-then-not-starts_with
returns-then-not-starts_with c =
    let given = rw c.term-term.ensures at c.starts_with.ensures.value in
    let test : c.starts_with.result ≡ false = first_of (search (rules, not_true, not_false), grind (arith, not_true, not_false)) in
    walk_stops c.args.prefix.now (terms c.args.directory.now.terms) c.loop-entry.words.items c.loop-entry.entry-iterator c.in-Some.entry
    c.next.new.self c.loop-entry.invariant c.in-Some.ensures.steps (sym given ∙ test)

pub loop-entry-preserved-in_ok-push : goal.loop-entry-preserved-in_ok-push
loop-entry-preserved-in_ok-push c =
    let given = rw c.term-term.ensures at c.starts_with.ensures.value in
    let test : c.starts_with.result ≡ true = first_of (search (rules, not_true, not_false), grind (arith, not_true, not_false)) in
    let tag = rw c.term-term.ensures at c.is_tag.ensures in
    let word : c.is_tag.result ≡ false = first_of (search (rules, not_true, not_false), grind (arith, not_true, not_false)) in
    walk_takes c.args.prefix.now (terms c.args.directory.now.terms) c.loop-entry.words.items c.push.new.self.items
    c.loop-entry.entry-iterator c.in-Some.entry c.next.new.self c.loop-entry.invariant c.in-Some.ensures.steps
    (sym given ∙ test) (sym tag ∙ word)
    (c.in_ok-push.ensures.items
    ∙ ap (λ (w : List ℕ). c.loop-entry.words.items ++ w ∷ []) (c.in_ok-from_slice.ensures ∙ c.term-term.ensures))

pub loop-entry-preserved : goal.loop-entry-preserved
loop-entry-preserved c =
    let tag = rw c.term-term.ensures at c.is_tag.ensures in
    let is : c.is_tag.result ≡ true = first_of (search (rules, not_true, not_false), grind (arith, not_true, not_false)) in
    walk_skips c.args.prefix.now (terms c.args.directory.now.terms) c.loop-entry.words.items c.loop-entry.entry-iterator c.in-Some.entry
    c.next.new.self c.loop-entry.invariant c.in-Some.ensures.steps (sym tag ∙ is)
