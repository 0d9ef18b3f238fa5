-- How an engine and its store stand for a state, and what it answers to an event.
use Rattle.std.specs.Prelude.{◌≡◌, ◌⊎◌, ⊤, ℕ, ◌+◌, ◌<◌, ◌≤◌, Bool, true, false, not, ◌&&◌, nat_lt, List, [], length, Option, None, Some}
use Rattle.std.specs.Prelude.{IfSome, Result, Ok, Err}
use Rattle.wu_outside.specs.Content.{Content}
use Rattle.wu_layout.specs.Layouts.{Layout, ranges_by_number}
use Rattle.wu_layout.specs.Postings.{addresses_of}
use Rattle.wu_token.specs.Words.{has_bytes}
use Rattle.wu_token.specs.Tokens.{tokens_of}
use Rattle.wu_tree.specs.FileSystems.{FileSystem}
use Rattle.wu_tree.specs.declared.events.Event.{Event}
use Rattle.wu_tree.specs.declared.events.Event.TheVariants.{Create, Text}
use Rattle.wu_tree.specs.declared.events.Refusal.{Refusal}
use Rattle.wu_space.specs.Addresses.{Addresses}
use Rattle.wu_parts.specs.Contents.{Contents}
use Rattle.wu_parts.specs.Holdings.{HoldParts}
use Rattle.wu_parts.specs.Memory.{held}
use Rattle.wu_parts.specs.Units.{IsRunning}
use Rattle.wu_parts.specs.Working.{TellsJobs}
use Rattle.wu_query.specs.States.{State, IsState}
use Rattle.wu_query.specs.Records.{Records, records_of}
use Rattle.wu_query.specs.Searched.{HoldsTexts, KeepsBlocks}
use Rattle.wu_engine.specs.declared.engines.Engine.{Engine}
use Rattle.wu_engine.specs.declared.verdicts.Verdict.{Verdict}
use Rattle.wu_engine.specs.declared.verdicts.Verdict.TheVariants.{Made, Refused}

-- Each part of an engine tells the state's. It keeps no text, only where each is.
pub record IsEngineOf (fs : FileSystem) (addresses : Addresses) (contents : Contents) (records : Records) (s : State) : Type 0 where
  pub is_state : IsState s
  pub tree : fs ≡ s.tree
  pub next : addresses.next ≡ s.layout.next
  -- the live ranges, by number
  pub live : addresses.ranges ≡ ranges_by_number s.layout.files
  -- the files' texts: how long each is, and in which blob
  pub files : records ≡ records_of s.texts s.layout.files
  pub next_blob : contents.next_blob ≡ s.layout.blob
  pub stale : contents.stale ≡ s.layout.stale
  -- where each term stands in memory
  pub memory : (term : List ℕ) → held contents.memory term ≡ addresses_of term s.layout.memory
  pub stored : contents.memory.stored ≡ length s.layout.memory
  pub flushes : contents.flushes ≡ s.layout.flushes

-- The job under way is the layout's, as far as it has gone, and the lists that it has made are right by the content. Its parts are some of
-- those that are kept.
pub record KeepsJob (content : Content) (layout : Layout) (contents : Contents) : Type 0 where
  pub same : TellsJobs content layout.parts contents.job layout.job
  pub running : IfSome contents.job (IsRunning contents.parts contents.directories)

-- Engine and store stand for the state: the engine goes on and tells its tree and its index, and the store, which tells what it holds,
-- has its texts and its parts, with their directories, the job that is under way on them and kept blocks in the engine.
pub record Stands (engine : Engine) (holds : Option Content) (s : State) : Type 0 where
  pub goes_on : engine.ended ≡ None
  pub index : IsEngineOf engine.tree engine.space engine.parts engine.files.entries s
  pub texts : HoldsTexts holds s.texts s.layout.files
  pub parts : IfSome holds (λ content. HoldParts content engine.parts.parts engine.parts.directories s.layout.parts)
  pub job : IfSome holds (λ content. KeepsJob content s.layout engine.parts)
  pub kept : IfSome holds (λ content. KeepsBlocks content s.layout.blob engine.parts.kept)
  -- the blob of the checkpoint that the root names, or 0
  pub check : engine.checkpoint ≡ s.layout.check

-- how many addresses an event takes, where it is accepted
abbrev pub taken_by : Event → List ℕ → ℕ
taken_by (Create ino parent name perm) text = length (tokens_of [])
taken_by (Text ino) text = length (tokens_of text)
taken_by event text = 0

-- the answer to an event
abbrev pub verdict_of : Result State Refusal → Verdict
verdict_of (Ok s) = Made
verdict_of (Err refusal) = Refused refusal

-- whether the answer is that a file was given a text that isn't empty: one that the store keeps
abbrev pub gives_text : Verdict → Event → List ℕ → Bool
gives_text Made (Text ino) text = has_bytes text
gives_text verdict event text = false

-- whether such an answer leaves the store alone: no text is given that the store keeps, and memory isn't full then
abbrev pub leaves_store : Verdict → Event → List ℕ → Contents → Bool
leaves_store Made event text contents =
    not (gives_text Made event text) && nat_lt (contents.memory.stored + taken_by event text) contents.flush_at
leaves_store (Refused refusal) event text contents = true

-- The store tells as much as before, and has what it had, but maybe for blobs from the low number on and below the high one.
abbrev pub KeepsOthers : ℕ → ℕ → Option Content → Option Content → Type 0
KeepsOthers low high None None = ⊤
KeepsOthers low high None (Some after) = ⊥
KeepsOthers low high (Some before) None = ⊥
KeepsOthers low high (Some before) (Some after) =
    ((blob : ℕ) → (blob < low) ⊎ (high ≤ blob) → after.blobs blob ≡ before.blobs blob) × (after.root ≡ before.root)
