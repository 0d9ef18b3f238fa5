use Rattle.std.proofs.Common.{ℕ, ◌<◌, List, subst, sym}
use Rattle.std.specs.List.{AllByRecursion}
use Rattle.std.proofs.lemmas.List.{take_all, take_more}
use Rattle.wu_base.proofs.EachLemmas.{each-push}
use Rattle.wu_image.proofs.RuleLemmas.{all_has_at}
use Rattle.wu_image.proofs.rules.are_drawn.Goals as goal

pub returns-then-not-is_drawn : goal.returns-then-not-is_drawn
returns-then-not-is_drawn c = λ all.
    let its = all_has_at (λ (b : ℕ). (0 < b) × (b < c.args.next_blob)) c.args.blobs.now c.loop-blob.blob-index 0 all
    c.loop-blob-test.true in
    c.if-not-is_drawn.ensures its.0 its.1

pub loop-blob-preserved : goal.loop-blob-preserved
loop-blob-preserved c =
    subst (λ (l : List ℕ). AllByRecursion (λ (b : ℕ). (0 < b) × (b < c.args.next_blob)) l)
    (sym (take_more c.args.blobs.now c.loop-blob.blob-index 0 c.loop-blob-test.true))
    (each-push (λ (b : ℕ). (0 < b) × (b < c.args.next_blob)) _ _ c.loop-blob.invariant c.if-not-is_drawn.ensures)

pub returns : goal.returns
returns c =
    subst (λ (l : List ℕ). AllByRecursion (λ (b : ℕ). (0 < b) × (b < c.args.next_blob)) l)
    (take_all c.loop-blob.blob-index c.args.blobs.now c.loop-blob-test.false) c.loop-blob.invariant
