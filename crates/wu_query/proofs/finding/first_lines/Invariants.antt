use Rattle.std.proofs.Common.{◌≡◌, ◌++◌, ◌-◌, drop, length, take}
use Rattle.std.specs.Prelude.{IfSome, option_map}
use Rattle.std.specs.List.{AllByRecursion, flat_map}
use Rattle.wu_gcl.specs.Regions.{region_of}
use Rattle.wu_query.specs.Finding.{files_at, hits_at, lines_at, text_at}
use Rattle.wu_query.specs.Near.{lists_found}
use Rattle.wu_query.specs.Permitted.{ReadsSuch}
use Rattle.wu_query.specs.Reads.{IsTextOf, texts_shown}
use Rattle.wu_query.proofs.finding.first_lines.Given as goal

-- with those of the files to come, the lines so far are the first ones, and so are the texts read so far
abbrev pub invariant-loop-turn : goal.invariant-loop-turn
invariant-loop-turn g l = record {
  holds : g.D.Store.holds l.store ≡ g.D.Store.holds l.fn.store;
  moments : g.D.Store.moments l.store ≡ g.D.Store.moments l.fn.store;
  calm : g.D.Store.faults l.store ≡ g.D.Store.faults l.fn.store;
  none : l.k ≡ 0 → l.store ≡ l.fn.store;
  lines : IfSome (g.D.Store.holds l.fn.store) (λ content. l.shown.items
      ++ take (l.k - length l.shown.items) (flat_map (lines_at content l.files.entries (region_of l.expr) (lists_found l.postings))
      (drop l.turn (files_at l.places l.view)))
      ≡ take l.k (flat_map (lines_at content l.files.entries (region_of l.expr) (lists_found l.postings)) (files_at l.places l.view)));
  reads : option_map (λ ranges. ranges ++ texts_shown (hits_at l.files.entries (region_of l.expr) (lists_found l.postings))
      (text_at l.files.entries) (l.k - length l.shown.items) (drop l.turn (files_at l.places l.view))) (g.D.Store.reads l.store)
      ≡ option_map (λ ranges. ranges ++ texts_shown (hits_at l.files.entries (region_of l.expr) (lists_found l.postings))
      (text_at l.files.entries) l.k (files_at l.places l.view))
      (g.D.Store.reads l.fn.store);
  sound : AllByRecursion (IsTextOf (g.D.Store.holds l.fn.store) l.files.entries)
      (texts_shown (hits_at l.files.entries (region_of l.expr) (lists_found l.postings)) (text_at l.files.entries)
      (l.k - length l.shown.items) (drop l.turn (files_at l.places l.view)))
      → AllByRecursion (IsTextOf (g.D.Store.holds l.fn.store) l.files.entries)
      (texts_shown (hits_at l.files.entries (region_of l.expr) (lists_found l.postings)) (text_at l.files.entries) l.k
      (files_at l.places l.view));
  only : ReadsSuch (λ read. read ++ texts_shown (hits_at l.files.entries (region_of l.expr) (lists_found l.postings))
      (text_at l.files.entries) (l.k - length l.shown.items) (drop l.turn (files_at l.places l.view))
      ≡ texts_shown (hits_at l.files.entries (region_of l.expr) (lists_found l.postings)) (text_at l.files.entries) l.k
      (files_at l.places l.view))
      (g.D.Store.reads l.fn.store) (g.D.Store.reads l.store);
}
