-- A block that lies in the first of some frames, counted by what the directory tells of it.
use Rattle.std.proofs.Common.{◌≡◌, ℕ, ◌+◌, ◌<◌, ◌≤◌, true, false, List, [], ◌∷◌, length, get_or, filter, refl, ap, sym, ◌∙◌, arith}
use Rattle.std.proofs.Common.{leb, ltb}
use Rattle.std.specs.Prelude.{Some}
use Rattle.std.specs.List.{AllByRecursion, last_or}
use Rattle.std.proofs.lemmas.Bool.{leb-true, ltb-true, and_parts}
use Rattle.std.proofs.lemmas.Option.{same_Some}
use Rattle.wu_base.specs.declared.addresses.Range.{Range}
use Rattle.wu_layout.specs.Postings.{is_live}
use Rattle.wu_layout.proofs.Ascending.{ascend-below}
use Rattle.wu_lists.specs.declared.blocks.Block.{Block}
use Rattle.wu_lists.specs.declared.tallies.Tally.{Tally}
use Rattle.wu_lists.specs.Ascending.{AscendBetween, AreInOrder}
use Rattle.wu_lists.specs.Blocks.{IsSpelling}
use Rattle.wu_lists.specs.Gaining.{is_inside, is_inside_first, tally_on, with_frame, with_several}
use Rattle.wu_lists.specs.Tallying.{after_last}
use Rattle.wu_lists.proofs.Ascending.{all_from, first_end}
use Rattle.wu_lists.proofs.Cutting.{all_both, all_weaker, filter-all, inside_is_live}
use Rattle.wu_lists.proofs.Spans.{spelled_ascend}
use Rattle.wu_lists.proofs.Tallying.{inside_frame}

pub inside_at : (frames : List Range) (d : Range) (block : Block) → 0 < length frames
    → is_inside (get_or frames 0 d) block ≡ is_inside_first frames block
inside_at [] d block some = absurd (omega arith)
inside_at (f ∷ fs) d block some = refl

pub inside_none : (frames : List Range) (block : Block) → length frames < 1 → false ≡ is_inside_first frames block
inside_none [] block none = refl
inside_none (f ∷ fs) block none = absurd (omega arith)

pub inside_some : (frames : List Range) (block : Block) → is_inside_first frames block ≡ true → 0 < length frames
inside_some [] block inside = absurd (cc)
inside_some (f ∷ fs) block inside = omega arith

record IsWithin (f : Range) (block : Block) : Type 0 where
  pub from : f.start ≤ block.first
  pub to : block.last < f.start + f.len

within : (f : Range) (block : Block) → is_inside f block ≡ true → IsWithin f block
within f block inside =
    let parts = and_parts (leb f.start block.first) (ltb block.last (f.start + f.len)) inside in
    record { from = leb-true f.start block.first parts.0; to = ltb-true block.last (f.start + f.len) parts.1 }

pub inside_end : (high : ℕ) (frames : List Range) (block : Block) → AreInOrder 0 high frames → is_inside_first frames block ≡ true
    → block.last < high
inside_end high [] block order inside = absurd (cc)
inside_end high (f ∷ fs) block order inside =
    let end = first_end 0 high (f ∷ fs) f (omega arith) order in
    let w = within f block inside in
    omega arith

-- the last of a block's addresses is the one before `after`
after_end : (x : ℕ) (xs : List ℕ) (last : ℕ) → last_or (Some x) xs ≡ Some last → after_last (x + 1) xs ≡ last + 1
after_end x [] last e = ap (λ (n : ℕ). n + 1) (same_Some x last e)
after_end x (y ∷ ys) last e = after_end y ys last e

entry_tells : (start : ℕ) (t : Tally) (block : Block) (addresses bytes : List ℕ) → IsSpelling block addresses bytes
    → with_several start t block.count (block.last + 1) ≡ with_frame start t addresses
entry_tells start t block [] bytes s = absurd s.spelled
entry_tells start t block (x ∷ xs) bytes s =
    sym (ap (λ (n : ℕ). with_several start t n (after_last (x + 1) xs)) s.span.number
    ∙ ap (with_several start t block.count) (after_end x xs block.last s.span.end))

pub counted_whole : (high : ℕ) (frames : List Range) (d : Range) (block : Block) (t : Tally) (addresses bytes : List ℕ)
    → AreInOrder 0 high frames → is_inside_first frames block ≡ true → IsSpelling block addresses bytes
    → with_several (get_or frames 0 d).start t block.count (block.last + 1) ≡ tally_on frames t (filter (is_live frames) addresses)
counted_whole high [] d block t addresses bytes order inside s = absurd (cc)
counted_whole high (f ∷ fs) d block t addresses bytes order inside s =
    let w = within f block inside in
    let up : AscendBetween block.first (block.last + 1) addresses = spelled_ascend block addresses bytes s in
    let starts : AllByRecursion (λ x. f.start ≤ x) addresses =
    all_weaker (λ x. block.first ≤ x) (λ x. f.start ≤ x) addresses (λ x l. omega arith)
    (all_from block.first (block.last + 1) addresses up) in
    let ends : AllByRecursion (λ x. x < f.start + f.len) addresses =
    all_weaker (λ x. x < block.last + 1) (λ x. x < f.start + f.len) addresses (λ x l. omega arith)
    (ascend-below block.first (block.last + 1) addresses up) in
    let live : AllByRecursion (λ x. is_live (f ∷ fs) x ≡ true) addresses =
    all_both (λ x. f.start ≤ x) (λ x. x < f.start + f.len) (λ x. is_live (f ∷ fs) x ≡ true) addresses
    (λ x a b. inside_is_live f fs x a b) starts ends in
    entry_tells f.start t block addresses bytes s
    ∙ sym (inside_frame f fs high order t addresses starts ends)
    ∙ ap (tally_on (f ∷ fs) t) (sym (filter-all (is_live (f ∷ fs)) addresses live))
