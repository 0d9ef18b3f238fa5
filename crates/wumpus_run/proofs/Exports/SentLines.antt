-- A reply that is written in pieces.
use Rattle.std.proofs.Common.{◌≡◌, ℕ, ◌+◌, ◌<◌, ◌≤◌, List, [], ◌++◌, length, drop, Option, sym, ap, ◌∙◌, append_assoc}
use Rattle.std.specs.Prelude.{Some, slice_get}
use Rattle.std.specs.List.{flat_map}
use Rattle.std.proofs.KnownBytes.{Appends-trans}
use Rattle.std.proofs.lemmas.List.{drop_all}
use Rattle.std.proofs.lemmas.List.Concat.{flat_map-append}
use Rattle.wu_outside.specs.Gains.{GainsPrefix}
use Rattle.wu_view.specs.declared.Seen.{Seen}
use Rattle.wu_script.specs.Replies.{path_line}
use Rattle.wu_engine.specs.Listing.{paths_of}
use Rattle.wu_engine.proofs.ListedPaths.{file_there, paths_left}
use Rattle.wumpus_run.specs.Rests.{PassesOn, lines_of}
use Rattle.wumpus_run.proofs.SessionLemmas.{HasSent, HasSent-part}

-- the lines of the file at a place, and those of the files behind it
lines_left : (files : List Seen) (place : ℕ) (seen : Seen) → place < length files → slice_get files place ≡ Some seen
    → lines_of (drop place files) ≡ flat_map path_line seen.paths ++ lines_of (drop (place + 1) files)
lines_left files place seen within there =
    ap (flat_map path_line) (paths_left files place seen within there)
    ∙ flat_map-append path_line seen.paths (paths_of (drop (place + 1) files))

module _ (before between now : Option (List ℕ)) (output held : List ℕ) (files : List Seen) (place : ℕ)
    (sent : HasSent before between output (held ++ lines_of (drop place files))) where
  -- what is held and the lines of the file at the place are the next piece
  sent_to : (seen : Seen) → place < length files → slice_get files place ≡ Some seen
      → HasSent before between output ((held ++ flat_map path_line seen.paths) ++ lines_of (drop (place + 1) files))
  sent_to seen within there = record {
    front = sent.front;
    whole = sent.whole
        ∙ ap (λ (bytes : List ℕ). sent.front ++ (held ++ bytes)) (lines_left files place seen within there)
        ∙ ap (λ (bytes : List ℕ). sent.front ++ bytes)
        (sym (append_assoc held (flat_map path_line seen.paths) (lines_of (drop (place + 1) files))));
    gained = sent.gained;
  }

  -- they were passed on
  pub sent_more : (left : List ℕ) → place < length files
      → ((seen : Seen) → slice_get files place ≡ Some seen → PassesOn between now held (flat_map path_line seen.paths) left)
      → HasSent before now output (left ++ lines_of (drop (place + 1) files))
  sent_more left within passes =
      let found = file_there files place within in
      let later = lines_of (drop (place + 1) files) in
      let to = sent_to found.0 within found.1 in
      let step = passes found.0 found.1 in
      record {
        front = to.front ++ step.front;
        whole = to.whole ∙ ap (λ (bytes : List ℕ). to.front ++ (bytes ++ later)) step.whole
            ∙ ap (λ (bytes : List ℕ). to.front ++ bytes) (append_assoc step.front left later)
            ∙ sym (append_assoc to.front step.front (left ++ later));
        gained = Appends-trans before between now to.front step.front to.gained step.gained;
      }

  -- a part of them was gained
  pub sent_part : place < length files
      → ((seen : Seen) → slice_get files place ≡ Some seen → GainsPrefix between now (held ++ flat_map path_line seen.paths))
      → GainsPrefix before now output
  sent_part within part =
      let found = file_there files place within in
      HasSent-part before between now output (held ++ flat_map path_line found.0.paths) (lines_of (drop (place + 1) files))
      (sent_to found.0 within found.1) (part found.0 found.1)

  -- no line is to come, and a part of what is held was gained
  pub sent_last : length files ≤ place → GainsPrefix between now held → GainsPrefix before now output
  sent_last all part =
      HasSent-part before between now output held []
      (record {
        front = sent.front;
        whole = sent.whole ∙ ap (λ (left : List Seen). sent.front ++ (held ++ lines_of left)) (drop_all place files all);
        gained = sent.gained;
      }) part
