use Rattle.std.proofs.Common.{◌≡◌, ◌∙◌, ◌++◌, ◌∷◌, [], ◌<◌, ◌+◌, ℕ, zero, suc, List, map, Bool, true, false, length, take, get_or, refl, ap, sym, arith, rules}
use Rattle.std.proofs.lemmas.List.{take_more}
use Rattle.std.specs.Cmp.Lexicographic.{other_text, same_text}
use Rattle.std.specs.Prelude.{not, ◌≢◌}
use Rattle.wu_base.specs.declared.addresses.TermList.{TermList}
use Rattle.wu_query.proofs.FetchedLists.{named_next}
use Rattle.wu_query.proofs.ranking.are_of.Goals as goal

not_false : (b : Bool) → not b ≡ false → b ≡ true
not_false true is = refl
not_false false is = absurd (cc)

not_true : (b : Bool) → not b ≡ true → b ≡ false
not_true true is = absurd (cc)
not_true false is = refl

-- lists of the words have the word's list at its place
same_at : (lists : List TermList) (words : List (List ℕ)) (i : ℕ) (list : TermList) (word : List ℕ) → i < length lists
    → list ≡ get_or lists i list → word ≡ get_or words i word → map (λ l. l.term) lists ≡ words → list.term ≡ word
same_at [] words i list word within is there same = absurd (omega arith)
same_at (l ∷ ls) [] i list word within is there same = absurd cc
same_at (l ∷ ls) (w ∷ ws) zero list word within is there same =
    let first : l.term ≡ w = cc in ap (λ (x : TermList). x.term) is ∙ first ∙ sym there
same_at (l ∷ ls) (w ∷ ws) (suc i) list word within is there same =
    let later : map (λ (x : TermList). x.term) ls ≡ ws = cc in same_at ls ws i list word (omega arith) is there later

pub loop-i-preserved : goal.loop-i-preserved
loop-i-preserved c =
    let lists = c.args.lists.now in
    let words = c.args.words.now in
    let i = c.loop-i.i in
    let list = c.index-lists-i.result in
    let word = c.index-words-i.result in
    let fits : i < length lists = search rules in
    let named : list.term ≡ word =
    ap (λ (l : TermList). l.term) c.index-lists-i.is
    ∙ same_text (get_or lists i list).term word (sym (not_false _ (sym c.ne.ensures ∙ c.if-ne.false))) in
    named_next words i word c.loop-i-test.true c.index-words-i.is (take i lists) (take (i + 1) lists) list c.loop-i.invariant
    (take_more lists i list fits ∙ ap (λ (l : TermList). take i lists ++ l ∷ []) (sym c.index-lists-i.is)) named

pub returns-then-ne : goal.returns-then-ne
returns-then-ne c = (
  λ t. absurd cc,
  λ all.
      let lists = c.args.lists.now in
      let i = c.loop-i.i in
      let list = c.index-lists-i.result in
      let word = c.index-words-i.result in
      let fits : i < length lists = search rules in
      let there : TermList = get_or lists i list in
      let other : there.term ≢ word = other_text there.term word (sym (not_true _ (sym c.ne.ensures ∙ c.if-ne.true))) in
      let same : list.term ≡ word =
      same_at lists c.args.words.now i list word fits c.index-lists-i.is c.index-words-i.is all in
      absurd (other (sym (ap (λ (l : TermList). l.term) c.index-lists-i.is) ∙ same)),
)
