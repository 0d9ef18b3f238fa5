use Rattle.std.proofs.Common.{◌-◌, ◌^◌, ◌≡◌, ◌++◌, ℕ, List, false, filter, refl, ap, sym, ◌∙◌, subst, rules, append-nil}
use Rattle.std.proofs.lemmas.Result.{on_ok_weaker}
use Rattle.wu_layout.specs.Postings.{is_live}
use Rattle.wu_lists.specs.Ascending.{AscendBetween}
use Rattle.wu_lists.specs.Blocks.{bytes_of}
use Rattle.wu_lists.specs.Gathering.{addresses_at}
use Rattle.wu_lists.proofs.Copies.{found-there, none_needed}
use Rattle.wu_lists.proofs.gathering.put_block.Goals as goal

pub returns-then-not-is_needed : goal.returns-then-not-is_needed
returns-then-not-is_needed c =
    let missed : c.is_needed.result ≡ false = search rules in
    let found : List ℕ = c.args.found.now.items in
    sym (append-nil found)
    ∙ ap (λ (l : List ℕ). found ++ l)
    (sym (none_needed c.args.bytes.now c.args.block.now c.args.frames.now c.requires.copied (sym c.is_needed.ensures ∙ missed)))

pub put_within-requires-clause-ascend : goal.put_within-requires-clause-ascend
put_within-requires-clause-ascend c =
    let spelled = c.in_ok-addresses.ensures in
    rw c.deref.ensures.value
    (subst (AscendBetween 0 (2 ^ 64 - 1))
    (sym (found-there c.args.bytes.now c.args.block.now c.in_ok-addresses.addresses.items (bytes_of c.args.block.now c.args.bytes.now) refl spelled))
    c.requires.ascend)

pub returns : goal.returns
returns c =
    let spelled = c.in_ok-addresses.ensures in
    let same : c.deref.result.now ≡ addresses_at c.args.bytes.now c.args.block.now =
    c.deref.ensures.value
    ∙ found-there c.args.bytes.now c.args.block.now c.in_ok-addresses.addresses.items (bytes_of c.args.block.now c.args.bytes.now) refl spelled in
    on_ok_weaker c.put_within.result
    (λ made. made ∙ ap (λ (l : List ℕ). c.args.found.now.items ++ filter (is_live c.args.frames.now) l) same)
    c.put_within.ensures.ok
