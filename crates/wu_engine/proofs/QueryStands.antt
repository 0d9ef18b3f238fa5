-- The engine stands for the same state after a query.
use Rattle.std.proofs.Common.{◌≡◌, ℕ, List, refl, ◌∙◌}
use Rattle.std.specs.Prelude.{Option, Some, None, IfSome, IsSome}
use Rattle.wu_outside.specs.Content.{Content}
use Rattle.wu_outside.specs.declared.ranges.ReadRange.{ReadRange}
use Rattle.wu_layout.specs.Layouts.{FileEntry}
use Rattle.wu_lists.specs.Keeping.{Kept}
use Rattle.wu_ask.specs.Questions.{Question}
use Rattle.wu_parts.specs.Candidates.{terms_held}
use Rattle.wu_parts.specs.Contents.{Contents}
use Rattle.wu_query.specs.Asked.{terms_asked}
use Rattle.wu_query.specs.Finding.{KeepsTexts}
use Rattle.wu_query.specs.Reads.{AreTexts, ReadsForQuery, texts_read}
use Rattle.wu_query.specs.Records.{Records}
use Rattle.wu_query.specs.Searched.{HoldsTexts, IsIndexOf, TellsPostings}
use Rattle.wu_query.specs.States.{State, Texts}
use Rattle.wu_query.proofs.ToldPostings.{blocks_kept}
use Rattle.wu_engine.specs.declared.engines.Engine.{Engine}
use Rattle.wu_engine.specs.Going.{Goes, IsSoundOver}
use Rattle.wu_engine.specs.Stands.{KeepsJob, Stands}

is_told : (holds : Option Content) (texts : Texts) (files : List (ℕ × FileEntry)) → HoldsTexts holds texts files → IsSome holds
is_told None texts files held = absurd held
is_told (Some content) texts files held = refl

module _ (engine : Engine) (holds : Option Content) (s : State) (stands : Stands engine holds s) where
  pub postings_told : TellsPostings engine.parts holds s
  postings_told = record {
    is_state = stands.index.is_state;
    memory = stands.index.memory;
    told = is_told holds s.texts s.layout.files stands.texts;
    parts = stands.parts;
    kept = stands.kept;
  }

  pub ranges_told : IsIndexOf engine.space.ranges s
  ranges_told = record { is_state = stands.index.is_state; ranges = stands.index.live }

  -- a job under way stays where other blocks are kept
  job_on : (kept : Kept) (told : Option Content) → IfSome told (λ content. KeepsJob content s.layout engine.parts)
      → IfSome told (λ content. KeepsJob content s.layout (record engine.parts { kept = kept }))
  job_on kept None keeps = tt
  job_on kept (Some content) keeps = record { same = keeps.same; running = keeps.running }

  pub texts_kept : KeepsTexts engine.files.entries holds s
  texts_kept = record { records = stands.index.files; texts = stands.texts }

  -- only blocks are kept anew
  pub stands_on : (new : Engine) (holds_now : Option Content) (uid : ℕ) (question : Question) (Are : List ReadRange → Type 0)
      (before after : Option (List ReadRange)) → new.ended ≡ None → holds_now ≡ holds → new.tree ≡ engine.tree → new.space ≡ engine.space
      → new.files.entries ≡ engine.files.entries → new.checkpoint ≡ engine.checkpoint
      → new.parts ≡ record engine.parts { kept = new.parts.kept }
      → ReadsForQuery engine.tree engine.space.ranges uid question engine.parts new.parts.kept Are holds before after
      → Stands new holds_now s
  stands_on new holds_now uid question Are before after ended same tree space files check parts reads =
      rw same
      (record {
        goes_on = ended;
        index = rw (tree, space, parts, files)
            (record {
              is_state = stands.index.is_state;
              tree = stands.index.tree;
              next = stands.index.next;
              live = stands.index.live;
              files = stands.index.files;
              next_blob = stands.index.next_blob;
              stale = stands.index.stale;
              memory = stands.index.memory;
              stored = stands.index.stored;
              flushes = stands.index.flushes;
            });
        texts = stands.texts;
        parts = rw parts stands.parts;
        job = rw parts (job_on new.parts.kept holds stands.job);
        kept = blocks_kept engine.parts reads.frames.ranges (terms_asked (terms_held engine.parts) question) new.parts.kept s holds
            before reads.reads.between postings_told reads.reads.asks;
        check = check ∙ stands.check;
      })

-- the texts are those of every state that engine and store stand for
pub reads_of_engine : (engine : Engine) (holds : Option Content) (uid : ℕ) (question : Question) (kept : Kept)
    (before after : Option (List ReadRange))
    → ReadsForQuery engine.tree engine.space.ranges uid question engine.parts kept (λ texts. AreTexts holds engine.files.entries question texts
    × ((s : State) → engine.tree ≡ s.tree → IsIndexOf engine.space.ranges s → TellsPostings engine.parts holds s
    → KeepsTexts engine.files.entries holds s → texts ≡ texts_read s uid question)) holds before after
    → ReadsForQuery engine.tree engine.space.ranges uid question engine.parts kept (λ texts. AreTexts holds engine.files.entries question texts
    × ((s : State) → Stands engine holds s → texts ≡ texts_read s uid question)) holds before after
reads_of_engine engine holds uid question kept before after r = record {
  frames = r.frames;
  hers = r.hers;
  reads = record {
    between = r.reads.between;
    asks = r.reads.asks;
    texts = r.reads.texts;
    are = (
      r.reads.are.0,
      λ s stands. r.reads.are.1 s stands.index.tree (ranges_told engine holds s stands) (postings_told engine holds s stands)
          (texts_kept engine holds s stands),
    );
    read = r.reads.read;
  };
}

-- over whatever the store held when it was opened, the engine goes on
sound_kept : (start : Content) (held : Option Content) (files : Records) (contents : Contents) (kept : Kept) (check : ℕ)
    → IsSoundOver start held files contents check → IsSoundOver start held files (record contents { kept = kept }) check
sound_kept start None files contents kept check sound = absurd sound
sound_kept start (Some content) files contents kept check sound = record {
  paired = sound.paired;
  blobs = sound.blobs;
  texts = sound.texts;
  parts = sound.parts;
  job = sound.job;
}

pub goes_asked : (before after : Engine) (start : Content) (holds holds_now : Option Content) → after.ended ≡ None
    → after.space ≡ before.space → after.files.entries ≡ before.files.entries → after.checkpoint ≡ before.checkpoint
    → after.parts ≡ record before.parts { kept = after.parts.kept } → holds_now ≡ holds → Goes before start holds
    → Goes after start holds_now
goes_asked before after start holds holds_now on space files check parts same goes = record {
  goes_on = on;
  low = goes.low;
  high = goes.high;
  below = rw space goes.below;
  postings = goes.postings;
  memory = rw parts goes.memory;
  sound = rw (same, files, check, parts)
      (sound_kept start holds before.files.entries before.parts after.parts.kept before.checkpoint goes.sound);
}
