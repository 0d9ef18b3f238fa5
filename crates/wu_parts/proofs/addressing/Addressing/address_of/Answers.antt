use Rattle.std.proofs.Common.{◌≡◌, ℕ, ◌+◌, ◌<◌, drop, ap, subst, arith}
use Rattle.std.specs.List.{AllByRecursion}
use Rattle.wu_parts.specs.declared.addressing.Break.{Break}
use Rattle.wu_parts.specs.Addressing.{address_of}
use Rattle.wu_parts.proofs.RisingAddresses.{counted_by, counted_first}
use Rattle.wu_parts.proofs.addressing.Addressing.address_of.Goals as goal

pub returns-then-passed-eq0 : goal.returns-then-passed-eq0
returns-then-passed-eq0 c =
    let none : c.count_passed-passed.result ≡ 0 = omega arith in
    let first : address_of c.args.self.now c.args.place ≡ c.args.self.now.start + c.args.place =
    counted_first c.args.self.now.start c.args.self.now.breaks.items c.args.place
    (subst (λ (n : ℕ). AllByRecursion (λ (next : Break). c.args.place < next.place) (drop n c.args.self.now.breaks.items)) none
    c.count_passed-passed.ensures.others) in
    omega (arith, first, c.from.ensures)

pub overflow_add-result : goal.overflow_add-result
overflow_add-result c = let same = returns-then-passed-eq0 c in omega (arith, same, c.requires.bounded)

pub returns-else-passed-eq0 : goal.returns-else-passed-eq0
returns-else-passed-eq0 c =
    let last = counted_by c.args.self.now.start c.args.self.now.breaks.items c.count_passed-passed.result c.args.place c.index.result.now
    (omega arith) c.count_passed-passed.ensures.within c.count_passed-passed.ensures.passed c.count_passed-passed.ensures.others in
    omega (arith, last, ap (λ (next : Break). next.start) c.index.ensures, c.from-else-passed-eq0.ensures)

pub overflow_add-result-else-passed-eq0 : goal.overflow_add-result-else-passed-eq0
overflow_add-result-else-passed-eq0 c = let same = returns-else-passed-eq0 c in omega (arith, same, c.requires.bounded)
