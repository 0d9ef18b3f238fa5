use Rattle.std.proofs.Common.{◌≡◌, ◌-◌, ◌<◌, ◌≤◌, ◌⊎◌, ⊎_elim, ℕ, arith}
use Rattle.wu_vbyte.proofs.NumberLemmas.{one_number}
use Rattle.wu_vbyte.proofs.blocks.next_address.Goals as goal

pub returns-else-is_gap-clause-none : goal.returns-else-is_gap-clause-none
returns-else-is_gap-clause-none c address rest above within s =
    let one = one_number _ _ _ _ _ c.in-Some.ensures.found s in
    refused _ address c.args.before c.args.last one.0 above within c.if-is_gap.ensures
  where
    refused : (gap address before last : ℕ) → gap ≡ address - before → before < address → address ≤ last
        → ((gap ≡ 0) ⊎ (last - before < gap)) → ⊥
    refused gap address before last e above within h =
        ⊎_elim (λ (s : gap ≡ 0). absurd (omega arith)) (λ (s : last - before < gap). absurd (omega arith)) h

pub returns-in-None-clause-none : goal.returns-in-None-clause-none
returns-in-None-clause-none c address rest above within s = c.in-None.ensures.none (address - c.args.before) rest (omega arith) s
