use Rattle.std.proofs.Common.{◌≡◌, take}
use Rattle.std.specs.Prelude.{IfSome}
use Rattle.wu_check.specs.Reads.{ReadsAll, texts_ranges}
use Rattle.wu_check.specs.Wrong.{AreSoundTexts}
use Rattle.wu_check.proofs.texts.first_broken.Given as goal

abbrev pub invariant-loop-file : goal.invariant-loop-file
invariant-loop-file g l = record {
  holds : g.D.Store.holds l.store ≡ g.D.Store.holds l.fn.store;
  moments : g.D.Store.moments l.store ≡ g.D.Store.moments l.fn.store;
  calm : g.D.Store.faults l.store ≡ g.D.Store.faults l.fn.store;
  texts : IfSome (g.D.Store.holds l.fn.store) (λ content. AreSoundTexts content (take l.file-index l.files));
  ranges : ReadsAll (texts_ranges (take l.file-index l.files)) (g.D.Store.reads l.fn.store) (g.D.Store.reads l.store);
}
