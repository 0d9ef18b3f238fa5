use Rattle.std.proofs.Common.{◌≡◌, List, take}
use Rattle.std.specs.Prelude.{IfSome, MatchBool}
use Rattle.std.specs.List.{AllByRecursion}
use Rattle.wu_base.specs.declared.addresses.TermList.{TermList}
use Rattle.wu_check.specs.Places.{total_of}
use Rattle.wu_check.specs.Reads.{ReadsAll, texts_ranges}
use Rattle.wu_check.specs.Walking.{IsIndexFor, ranges_of}
use Rattle.wu_check.specs.Wrong.{AreSoundTexts, HasTokens}
use Rattle.wu_check.proofs.walking.compare_texts.Given as goal

abbrev pub invariant-loop-file : goal.invariant-loop-file
invariant-loop-file g l = record {
  holds : g.D.Store.holds l.store ≡ g.D.Store.holds l.fn.store;
  moments : g.D.Store.moments l.store ≡ g.D.Store.moments l.fn.store;
  calm : g.D.Store.faults l.store ≡ g.D.Store.faults l.fn.store;
  place : l.place ≡ total_of (ranges_of (take l.file-index l.files));
  compared : (lists : List TermList) → IsIndexFor (ranges_of l.files) lists l.index → IfSome (g.D.Store.holds l.fn.store)
      (λ content. AreSoundTexts content (take l.file-index l.files)
      × MatchBool l.same (AllByRecursion (HasTokens content lists) (take l.file-index l.files))
      (AllByRecursion (HasTokens content lists) (take l.file-index l.files) → ⊥));
  ranges : ReadsAll (texts_ranges (take l.file-index l.files)) (g.D.Store.reads l.fn.store) (g.D.Store.reads l.store);
}
