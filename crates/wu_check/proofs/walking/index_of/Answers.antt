use Rattle.std.proofs.Common.{◌+◌, ◌<◌, ◌≤◌, ◌∙◌, List, rules, subst, sym}
use Rattle.std.specs.List.{AllByRecursion}
use Rattle.wu_base.specs.declared.addresses.Range.{Range}
use Rattle.wu_base.specs.declared.limits.TheConstants.{ADDRESSES_MAX}
use Rattle.wu_check.proofs.SoundParts.{ranges_bounded}
use Rattle.wu_check.proofs.walking.index_of.Goals as goal

pub index_part-requires-clause-bounded : goal.index_part-requires-clause-bounded
index_part-requires-clause-bounded g c =
    let below : c.args.part.now.high < ADDRESSES_MAX = search rules in
    subst (λ (l : List Range). AllByRecursion (λ range. range.start + range.len ≤ ADDRESSES_MAX) l)
    (sym (c.deref-in-Some.ensures.value ∙ c.in_ok-ranges.ensures))
    (ranges_bounded c.args.part.now ADDRESSES_MAX c.args.files.now below c.requires.lie)
