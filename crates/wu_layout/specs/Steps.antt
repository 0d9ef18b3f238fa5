-- How each step changes the layout.
use Rattle.std.specs.Prelude.{ℕ, zero, suc, ◌+◌, ◌==◌, Bool, not, nat_le, if◌then◌else◌, Option, None, Some, option_map, is_some, List, []}
use Rattle.std.specs.Prelude.{◌∷◌, ◌++◌, map, filter, take, drop, length, position, zip}
use Rattle.std.specs.Ordering.{nat_cmp}
use Rattle.std.specs.Option.{option_or}
use Rattle.std.specs.Map.{remove_entry}
use Rattle.std.specs.BTreeMap.{is_at, insert_entry}
use Rattle.wu_base.specs.declared.addresses.Range.{Range}
use Rattle.wu_layout.specs.Postings.{Posting, placed_from, live_of, dead_of, has_some}
use Rattle.wu_layout.specs.Layouts.{Text, FileEntry, Part, Job, Layout, entry_of, ranges_of, stored_in, terms_of, parts_before, parts_taken}
use Rattle.wu_layout.specs.Layouts.{parts_after}

-- ---- texts

-- the blob of the file's text, if it has one
abbrev pub text_blob : Option FileEntry → List ℕ
text_blob None = []
text_blob (Some entry) = if entry.blob == 0 then [] else entry.blob ∷ []

-- The file's range is live no more, and its text's blob no longer needed. Its postings stay where they are.
abbrev pub release : ℕ → Layout → Layout
release ino layout = record layout {
  files = remove_entry (is_at (nat_cmp ino)) layout.files;
  stale = layout.stale ++ text_blob (entry_of layout.files ino);
}

-- The file gets the text: as many addresses as it has terms, from the next on, and a blob where it has bytes. Its postings join
-- those in memory.
abbrev pub place : ℕ → Text → Layout → Layout
place ino text layout = record layout {
  next = layout.next + length text.terms;
  blob = layout.blob + (if text.has_bytes then 1 else 0);
  files = insert_entry nat_cmp layout.files ino (record {
    blob = if text.has_bytes then layout.blob else 0;
    range = record { start = layout.next; len = length text.terms };
  });
  memory = layout.memory ++ placed_from layout.next text.terms;
}

-- ---- flushes

-- memory is empty, and these of its postings become a part of generation 0, right of all others; where there are none, no part
-- is made and no blob drawn
abbrev pub flushed : List Posting → Layout → Layout
flushed [] layout = record layout { memory = [] }
flushed (posting ∷ postings) layout = record layout {
  blob = layout.blob + 1;
  flushes = layout.flushes + 1;
  memory = [];
  parts = layout.parts ++ record { blob = layout.blob; generation = 0; postings = posting ∷ postings } ∷ [];
}

-- the live postings in memory become a part, the dead ones are dropped
abbrev pub flush : Layout → Layout
flush layout = flushed (live_of (ranges_of layout.files) layout.memory) layout

-- a flush, where memory has as many postings as that or more
abbrev pub flush_if_full : ℕ → Layout → Layout
flush_if_full flush_at layout = if nat_le flush_at (length layout.memory) then flush layout else layout

-- ---- jobs

-- the place of the leftmost part that has the same generation as its right neighbour
abbrev pub alike_neighbours : List Part → Option ℕ
alike_neighbours parts = position (λ pair. pair.0.generation == pair.1.generation) (zip parts (drop 1 parts))

-- the part has as many dead postings as live ones, or more
abbrev pub is_half_dead : List Range → Part → Bool
is_half_dead ranges part = nat_le (length (live_of ranges part.postings)) (length (dead_of ranges part.postings))

-- a job at its start, on these postings of its parts
abbrev pub job_on : List Range → ℕ → ℕ → List Posting → Job
job_on ranges place count postings = record {
  place = place;
  count = count;
  live = filter (λ range. has_some range postings) ranges;
  terms_left = terms_of postings;
}

-- a job at its start, on that many parts from a place on
abbrev pub job_at : Layout → ℕ → ℕ → Job
job_at layout count place = job_on (ranges_of layout.files) place count (stored_in (take count (drop place layout.parts)))

-- The job that the policy names. The leftmost two neighbours of equal generations are merged; where there are none, the
-- leftmost part is written anew of which half or more is dead; else there is nothing to do.
abbrev pub pick : Layout → Option Job
pick layout =
    option_or
    (option_map (job_at layout 2) (alike_neighbours layout.parts))
    (option_map (job_at layout 1) (position (is_half_dead (ranges_of layout.files)) layout.parts))

-- the job that is under way, or else the one that the policy names
abbrev pub job_of : Layout → Option Job
job_of layout = option_or layout.job (pick layout)

-- no job is under way, and the policy names none
abbrev pub is_idle : Layout → Bool
is_idle layout = not (is_some (job_of layout))

-- the generation of what is made of a job's parts: g + 1 for two of generation g, and g for one
abbrev pub made_generation : List Part → ℕ
made_generation [] = 0
made_generation (part ∷ more) = part.generation + length more

-- The job's parts are replaced by one that has these postings, where there are any; its blob is drawn, the old parts' blobs are no
-- longer needed, and no job is under way.
abbrev pub replaced : List Posting → Job → Layout → Layout
replaced [] job layout = record layout {
  parts = parts_before job layout.parts ++ parts_after job layout.parts;
  stale = layout.stale ++ map (λ part. part.blob) (parts_taken job layout.parts);
  job = None;
}
replaced (posting ∷ postings) job layout = record layout {
  blob = layout.blob + 1;
  parts =
      parts_before job layout.parts
      ++ record {
        blob = layout.blob;
        generation = made_generation (parts_taken job layout.parts);
        postings = posting ∷ postings;
      }
      ∷ parts_after job layout.parts;
  stale = layout.stale ++ map (λ part. part.blob) (parts_taken job layout.parts);
  job = None;
}

-- the end of a job: of its parts' postings those are kept that were live when it began
abbrev pub end_job : Job → Layout → Layout
end_job job layout = replaced (live_of job.live (stored_in (parts_taken job layout.parts))) job layout

-- a job whose first term was done, where these are the terms left
abbrev pub with_terms_left : List (List ℕ) → Job → Layout → Layout
with_terms_left [] job layout = end_job job layout
with_terms_left (term ∷ terms) job layout = record layout { job = Some (record job { terms_left = term ∷ terms }) }

abbrev pub unit_of : Option Job → Layout → Layout
unit_of None layout = layout
unit_of (Some job) layout = with_terms_left (drop 1 job.terms_left) job layout

-- A unit of background work does the first term that is left of the job under way, or else of the one that the policy names. With
-- the last term the job ends. Where there is nothing to do, it changes nothing.
abbrev pub unit : Layout → Layout
unit layout = unit_of (job_of layout) layout

-- so many units, or as many as there is work for
abbrev pub work : ℕ → Layout → Layout
work zero layout = layout
work (suc n) layout = work n (unit layout)

-- ---- checkpoints

-- a checkpoint is written: its blob is drawn, and the stale blobs are removed
abbrev pub checkpointed : Layout → Layout
checkpointed layout = record layout { blob = layout.blob + 1; check = layout.blob; stale = [] }

-- a flush, and then a checkpoint
abbrev pub save : Layout → Layout
save layout = checkpointed (flush layout)

-- no job is under way: none is saved
abbrev pub rest : Layout → Layout
rest layout = record layout { job = None }
