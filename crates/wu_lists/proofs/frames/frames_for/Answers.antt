use Rattle.std.proofs.Common.{◌-◌, ◌^◌, ◌≡◌, ◌∙◌, filter, get_or, ap, arith}
use Rattle.wu_layout.specs.Postings.{is_live}
use Rattle.wu_lists.proofs.Ascending.{all_from, ascend-filter, ascend-first}
use Rattle.wu_lists.specs.Gaining.{filter-alike, tally_on, tally_on-alike}
use Rattle.wu_lists.proofs.frames.frames_for.Goals as goal

pub returns-in-len1-up-clause-same : goal.returns-in-len1-up-clause-same
returns-in-len1-up-clause-same c =
    let xs = c.args.addresses.now in
    let first = get_or xs 0 0 in
    filter-alike (is_live c.frames_from.result.now) (is_live c.args.frames.now) first xs c.frames_from.ensures.live
    (all_from first (2 ^ 64 - 1) xs (ascend-first 0 (2 ^ 64 - 1) xs 0 (omega arith) c.requires.ascend))

pub returns-in-len1-up-clause-counted : goal.returns-in-len1-up-clause-counted
returns-in-len1-up-clause-counted c = λ tally.
    let xs = c.args.addresses.now in
    let first = get_or xs 0 0 in
    let left = c.frames_from.result.now in
    let frames = c.args.frames.now in
    let from = ascend-first 0 (2 ^ 64 - 1) xs 0 (omega arith) c.requires.ascend in
    let same : filter (is_live left) xs ≡ filter (is_live frames) xs =
    filter-alike (is_live left) (is_live frames) first xs c.frames_from.ensures.live (all_from first (2 ^ 64 - 1) xs from) in
    ap (tally_on left tally) same
    ∙ tally_on-alike left frames first c.frames_from.ensures.opens tally (filter (is_live frames) xs)
    (all_from first (2 ^ 64 - 1) (filter (is_live frames) xs) (ascend-filter (is_live frames) first (2 ^ 64 - 1) xs from))
