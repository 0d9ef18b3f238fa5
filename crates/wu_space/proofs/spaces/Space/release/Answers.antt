use Rattle.std.proofs.Common.{length, ap, sym, refl, ◌∙◌}
use Rattle.wu_space.proofs.Order.{starts-rise}
use Rattle.wu_space.proofs.Live.{sound-released, length-of_file}
use Rattle.wu_space.proofs.spaces.Space.release.Goals as goal

pub overflow_sub-self : goal.overflow_sub-self
overflow_sub-self c = length-of_file _ _ _ _ c.self.invariant c.args.ino c.in-Some.range (sym c.in-Some.ensures.value)

pub release-requires : goal.release-requires
release-requires c = starts-rise _ _ _ c.self.invariant.by_address

pub invariant_of-self : goal.invariant_of-self
invariant_of-self c =
    rw (c.in-Some.ensures.entries, c.tidy.ensures)
    (sound-released _ _ _ _ c.self.invariant c.args.ino c.in-Some.range _ _ _ (sym c.in-Some.ensures.value) c.release.ensures
    (c.len.ensures.len ∙ ap length c.in-Some.ensures.entries) refl)
