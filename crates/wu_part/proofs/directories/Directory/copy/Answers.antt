use Rattle.std.proofs.Common.{◌∙◌}
use Rattle.wu_part.proofs.directories.Directory.copy.Goals as goal

pub invariant_of-result : goal.invariant_of-result
invariant_of-result c =
    let bytes = c.new.ensures ∙ c.in_ok-from_slice.ensures.items ∙ c.as_slice.ensures in
    let marks = c.in_ok-from_slice-2.ensures.items in
    let k = c.self.invariant in
    record {
      spelled = rw bytes k.spelled;
      entries = rw bytes k.entries;
      marked = rw (bytes, marks, c.deref.ensures.value) k.marked;
      near = rw (marks, c.deref.ensures.value) k.near;
    }
