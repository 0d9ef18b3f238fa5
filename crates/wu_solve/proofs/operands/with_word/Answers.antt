use Rattle.std.proofs.Common.{◌≡◌, ◌+◌, ◌∙◌, [], true, get_or, sym, ap, subst, ℕ}
use Rattle.std.specs.Prelude.{filter, All}
use Rattle.std.proofs.lemmas.List.{get_or_default}
use Rattle.std.proofs.lemmas.Result.{IfOk-weaker}
use Rattle.wu_solve.specs.Addresses.{is_among, has_address}
use Rattle.wu_solve.proofs.Results.{filter_alike}
use Rattle.wu_solve.proofs.WordByWord.{all_kept}
use Rattle.wu_solve.proofs.operands.with_word.Goals as goal

pub returns-then-place-known : goal.returns-then-place-known
returns-then-place-known c =
    let lists = c.args.lists.now in
    let words = c.args.words.now in
    let xs = c.args.extents.items in
    sym (all_kept (λ x. has_address lists (get_or words c.args.place []) (x.start + c.args.place)) xs
    (subst (λ (k : ℕ). All (λ x. has_address lists (get_or words k []) (x.start + k) ≡ true) xs) (sym c.if-place-known.true)
    c.requires.known))

pub returns : goal.returns
returns c =
    let lists = c.args.lists.now in
    let words = c.args.words.now in
    let place = c.args.place in
    let addresses = c.addresses_of-addresses.result.now in
    let word : get_or words place [] ≡ c.as_slice.result.now =
    get_or_default words place [] c.index-words-place.result c.requires.place ∙ sym c.index-words-place.is ∙ sym c.as_slice.ensures in
    IfOk-weaker c.with_address.result
    (λ v. v.items ≡ filter (λ x. is_among addresses (x.start + place)) c.deref.result.now)
    (λ v. v.items ≡ filter (λ x. has_address lists (get_or words place []) (x.start + place)) c.args.extents.items)
    (λ v same. same ∙ rw c.deref.ensures.value
    (filter_alike (λ x. is_among addresses (x.start + place)) (λ x. has_address lists (get_or words place []) (x.start + place))
    c.args.extents.items (λ x has. c.addresses_of-addresses.ensures.same (x.start + place)
    ∙ ap (λ term. has_address lists term (x.start + place)) (sym word)))) c.with_address.ensures
