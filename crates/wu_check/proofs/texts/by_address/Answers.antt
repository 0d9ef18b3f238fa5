use Rattle.std.proofs.Common.{◌≡◌, List, rules, subst}
use Rattle.std.specs.Prelude.{IsPermutation}
use Rattle.std.proofs.lemmas.List.Sorted.{IsNonDecreasingBy-from_sort_by_key}
use Rattle.wu_image.specs.declared.records.FileRec.{FileRec}
use Rattle.wu_check.proofs.texts.by_address.Goals as goal

pub returns : goal.returns
returns c =
    let sorted = c.sort_unstable_by_key.new.self.items in
    let same : c.extend_from_slice.new.self.items ≡ c.args.files.now = search rules in
    record {
      moved = subst (λ (l : List FileRec). IsPermutation l sorted) same c.sort_unstable_by_key.ensures.permutation;
      ascend =
          IsNonDecreasingBy-from_sort_by_key (λ (x : FileRec). x.range.start) sorted c.sort_unstable_by_key.ensures.sorted
          (λ a r q k. search rules);
    }
