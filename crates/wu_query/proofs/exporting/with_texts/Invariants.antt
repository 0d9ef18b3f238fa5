use Rattle.std.proofs.Common.{◌≡◌, take}
use Rattle.std.specs.Prelude.{IfSome}
use Rattle.std.specs.List.{AllByRecursion, flat_map}
use Rattle.wu_query.specs.Exporting.{shown_at}
use Rattle.wu_query.specs.Finding.{text_at}
use Rattle.wu_query.specs.Reads.{IsTextOf}
use Rattle.wu_query.proofs.ExportedFiles.{AreRead}
use Rattle.wu_query.proofs.WrittenFiles.{IsWritten}
use Rattle.wu_query.proofs.exporting.with_texts.Given as goal

-- the files so far are written with their texts, and these were read
abbrev pub invariant-loop-place : goal.invariant-loop-place
invariant-loop-place g l = record {
  holds : g.D.Store.holds l.store ≡ g.D.Store.holds l.fn.store;
  moments : g.D.Store.moments l.store ≡ g.D.Store.moments l.fn.store;
  calm : g.D.Store.faults l.store ≡ g.D.Store.faults l.fn.store;
  directories : l.written.directories ≡ l.fn.exporter.directories;
  written : IfSome (g.D.Store.holds l.fn.store)
      (λ content. IsWritten (shown_at content l.files.entries) l.view l.place l.fn.exporter l.written);
  sound : AllByRecursion (IsTextOf (g.D.Store.holds l.fn.store) l.files.entries)
      (flat_map (text_at l.files.entries) (take l.place l.view));
  read : AreRead (flat_map (text_at l.files.entries) (take l.place l.view)) (g.D.Store.reads l.fn.store)
      (g.D.Store.reads l.store);
}
