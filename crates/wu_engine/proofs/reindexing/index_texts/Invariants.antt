use Rattle.std.proofs.Common.{◌≡◌, ℕ, ◌+◌, ◌≤◌, ◌++◌, map, take, drop}
use Rattle.std.specs.Prelude.{IfSome, option_map}
use Rattle.std.specs.List.{AllByRecursion}
use Rattle.wu_parts.specs.Memory.{HasPostings}
use Rattle.wu_image.specs.Checks.{AreInOrder}
use Rattle.wu_image.specs.Images.{postings_from, text_held}
use Rattle.wu_query.specs.Permitted.{ReadsOnly}
use Rattle.wu_engine.specs.Reindexing.{IsTextOfOne, IsThere, texts_whole}
use Rattle.wu_engine.proofs.reindexing.index_texts.Given as goal

abbrev pub invariant-loop-file : goal.invariant-loop-file
invariant-loop-file g l = record {
  holds : g.D.Store.holds l.store ≡ g.D.Store.holds l.fn.store;
  moments : g.D.Store.moments l.store ≡ g.D.Store.moments l.fn.store;
  calm : g.D.Store.faults l.store ≡ g.D.Store.faults l.fn.store;
  others : l.parts ≡ record l.fn.parts { memory = l.parts.memory };
  order : AreInOrder l.parts.memory.end (map (λ file. file.range) (drop l.file-index l.files));
  below : (next : ℕ) → AllByRecursion (λ file. file.range.start + file.range.len ≤ next) l.files → l.parts.memory.end ≤ next;
  whole : AllByRecursion (IsThere (g.D.Store.holds l.fn.store)) (take l.file-index l.files);
  memory : IfSome (g.D.Store.holds l.fn.store)
      (λ content. HasPostings 0 l.parts.memory.end l.parts.memory (postings_from (text_held content) (take l.file-index l.files)));
  reads : g.D.Store.reads l.store ≡ option_map (λ ranges. ranges ++ texts_whole (take l.file-index l.files)) (g.D.Store.reads l.fn.store);
  only : ReadsOnly (IsTextOfOne l.files) (g.D.Store.reads l.fn.store) (g.D.Store.reads l.store);
}
