use Rattle.std.proofs.Common.{List, subst, sym}
use Rattle.std.specs.List.{AllByRecursion}
use Rattle.std.proofs.lemmas.List.{take_all, take_more}
use Rattle.wu_base.proofs.EachLemmas.{each-push}
use Rattle.wu_image.specs.declared.records.FileRec.{FileRec}
use Rattle.wu_image.specs.LayoutRules.{IsText}
use Rattle.wu_image.proofs.RuleLemmas.{all_has_at, no_file}
use Rattle.wu_image.proofs.rules.are_texts.Goals as goal

pub returns-then-not-is_text : goal.returns-then-not-is_text
returns-then-not-is_text c = λ all.
    c.if-not-is_text.ensures
    (all_has_at (IsText c.args.next_address) c.args.files.now c.loop-file.file-index no_file all c.loop-file-test.true)

pub loop-file-preserved : goal.loop-file-preserved
loop-file-preserved c =
    subst (λ (l : List FileRec). AllByRecursion (IsText c.args.next_address) l)
    (sym (take_more c.args.files.now c.loop-file.file-index no_file c.loop-file-test.true))
    (each-push (IsText c.args.next_address) _ _ c.loop-file.invariant c.if-not-is_text.ensures)

pub returns : goal.returns
returns c =
    subst (λ (l : List FileRec). AllByRecursion (IsText c.args.next_address) l)
    (take_all c.loop-file.file-index c.args.files.now c.loop-file-test.false) c.loop-file.invariant
