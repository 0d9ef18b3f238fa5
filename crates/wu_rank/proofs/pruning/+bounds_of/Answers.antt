use Rattle.std.proofs.Common.{◌≡◌, ℕ, ◌*◌, ◌^◌, ◌≤◌, List, ◌++◌, length, Vec, Global, ap₂, sym, ◌∙◌, subst, arith}
use Rattle.std.specs.List.{AllByRecursion}
use Rattle.std.proofs.lemmas.List.{take-append-drop}
use Rattle.std.proofs.lemmas.Result.{IfOk-weaker}
use Rattle.wu_base.specs.declared.addresses.TermList.{TermList}
use Rattle.wu_rank.specs.declared.entries.Entry.{Entry}
use Rattle.wu_rank.proofs.Bounds.{no_bounds, summed_bounds}
use Rattle.wu_rank.proofs.Parts.{summed_small}
use Rattle.wu_rank.proofs.pruning.+bounds_of.Goals as goal

pub returns-in-empty-clause-value : goal.returns-in-empty-clause-value
returns-in-empty-clause-value t c =
    c.new.ensures.items ∙ no_bounds c.args.units.now c.args.lists.now (length c.args.units.now) c.args.units.now c.in-empty.len_below

pub returns-in-len1-clause-small : goal.returns-in-len1-clause-small
returns-in-len1-clause-small t c =
    let one : 2 ^ 24 ≡ length c.args.lists.now * 2 ^ 24 = omega (arith, c.in-len1.len_at_least, c.in-len1.len_below) in
    IfOk-weaker _ _ _ (λ (es : Vec Entry Global) h. subst (λ (n : ℕ). AllByRecursion (λ (part : Entry). part.value ≤ n) es.items) one h)
    c.word_bounds.ensures.small

pub returns-in_ok-other-in_default-clause-value : goal.returns-in_ok-other-in_default-clause-value
returns-in_ok-other-in_default-clause-value t c =
    let whole : c.split_at.result.0.now ++ c.split_at.result.1.now ≡ c.args.lists.now =
    ap₂ ◌++◌ c.split_at.ensures.front c.split_at.ensures.back ∙ take-append-drop _ c.args.lists.now in
    IfOk-weaker _ _ _
    (λ (es : Vec Entry Global) h.
    summed_bounds c.args.units.now c.args.lists.now c.split_at.result.0.now c.split_at.result.1.now c.deref.result.now
    c.deref-in_default.result.now es.items (c.deref.ensures.value ∙ c.in_ok-one-in_default.ensures.value)
    (c.deref-in_default.ensures.value ∙ c.in_ok-other-in_default.ensures.value) whole h) c.merged.ensures

pub returns-in_ok-other-in_default-clause-small : goal.returns-in_ok-other-in_default-clause-small
returns-in_ok-other-in_default-clause-small t c =
    let some : List TermList = c.split_at.result.0.now in
    let others : List TermList = c.split_at.result.1.now in
    IfOk-weaker _ _ _
    (λ (es : Vec Entry Global) h.
    summed_small (length some) (length others) (length c.args.lists.now) c.deref.result.now c.deref-in_default.result.now es.items
    (omega (arith, c.split_at.ensures.front_len, c.split_at.ensures.back_len)) h
    (subst (λ (xs : List Entry). AllByRecursion (λ (e : Entry). e.value ≤ length some * 2 ^ 24) xs) (sym c.deref.ensures.value)
    c.in_ok-one-in_default.ensures.small)
    (subst (λ (xs : List Entry). AllByRecursion (λ (e : Entry). e.value ≤ length others * 2 ^ 24) xs) (sym c.deref-in_default.ensures.value)
    c.in_ok-other-in_default.ensures.small)) c.merged.ensures
