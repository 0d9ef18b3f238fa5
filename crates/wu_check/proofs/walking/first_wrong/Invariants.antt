use Rattle.std.proofs.Common.{◌≡◌, take}
use Rattle.std.specs.Prelude.{IfSome}
use Rattle.wu_check.specs.Walking.{FindsPart}
use Rattle.wu_check.specs.Wrong.{AreSoundTexts}
use Rattle.wu_check.proofs.ReadWalks.{IsReadTo}
use Rattle.wu_check.proofs.Walks.{IsReached}
use Rattle.wu_check.proofs.walking.first_wrong.Given as goal

abbrev pub invariant-loop-part : goal.invariant-loop-part
invariant-loop-part g l = record {
  holds : g.D.Store.holds l.store ≡ g.D.Store.holds l.fn.store;
  moments : g.D.Store.moments l.store ≡ g.D.Store.moments l.fn.store;
  calm : g.D.Store.faults l.store ≡ g.D.Store.faults l.fn.store;
  reached : IsReached l.files l.parts l.part-index l.done;
  texts : IfSome (g.D.Store.holds l.fn.store) (λ content. AreSoundTexts content (take l.done l.files));
  found : IfSome (g.D.Store.holds l.fn.store) (λ content. FindsPart content l.files (take l.part-index l.parts) l.wrong);
  read : IsReadTo l.files l.parts l.part-index l.done l.wrong (g.D.Store.reads l.fn.store) (g.D.Store.reads l.store);
}
