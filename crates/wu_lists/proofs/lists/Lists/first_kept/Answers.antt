use Rattle.std.proofs.Common.{◌≡◌, ℕ, ◌∷◌, List, Some, sym, ◌∙◌, ap}
use Rattle.std.specs.Prelude.{slice_get}
use Rattle.wu_lists.specs.declared.blocks.Block.{Block}
use Rattle.wu_lists.specs.Keeping.{Kept}
use Rattle.wu_lists.proofs.Caching.{first-checked, first-there, never-empty}
use Rattle.wu_lists.proofs.lists.Lists.first_kept.Goals as goal

pub returns-in-Some-clause-first : goal.returns-in-Some-clause-first
returns-in-Some-clause-first c =
    let block : Block = c.args.block.now in
    let there : Some (c.in-Some.field-0-0.now, c.in-Some.bytes.now) ≡ slice_get c.args.self.now.entries 0 =
    c.in-Some.ensures ∙ ap (λ (k : Kept). slice_get k.entries 0) c.self.view_is in
    let first = first-there block c.args.self.now.entries c.args.self.now.cap c.requires.0 c.is_valid.ensures.2 c.requires.1
    (c.in-Some.field-0-0.now, c.in-Some.bytes.now) there in
    (first.0, first.1 ∙ ap (λ (bytes : List ℕ). (block, bytes) ∷ first.0) (sym c.as_slice.ensures))

pub returns-in-Some-clause-checked : goal.returns-in-Some-clause-checked
returns-in-Some-clause-checked c =
    let first = returns-in-Some-clause-first c in
    first-checked c.self.inside.kept.entries first.0 (c.args.block.now, c.as_slice.result.now) c.self.invariant
    (ap (λ (k : Kept). k.entries) c.self.view_is ∙ first.1)

pub returns-in-None-clause-first : goal.returns-in-None-clause-first
returns-in-None-clause-first c =
    absurd (never-empty c.args.block.now c.args.self.now.entries c.args.self.now.cap c.requires.0 c.is_valid.ensures.2 c.requires.1
    (sym (c.in-None.ensures ∙ ap (λ (k : Kept). slice_get k.entries 0) c.self.view_is)))

pub returns-in-None-clause-checked : goal.returns-in-None-clause-checked
returns-in-None-clause-checked c =
    absurd (never-empty c.args.block.now c.args.self.now.entries c.args.self.now.cap c.requires.0 c.is_valid.ensures.2 c.requires.1
    (sym (c.in-None.ensures ∙ ap (λ (k : Kept). slice_get k.entries 0) c.self.view_is)))
