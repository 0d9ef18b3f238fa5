-- What a query does besides what all calls have in common.
use Rattle.std.specs.Prelude.{◌≡◌, ◌⊎◌, ℕ, Some, OnOk, Result, Err}
use Rattle.wu_base.specs.declared.troubles.Trouble.{Trouble}
use Rattle.wu_base.specs.declared.troubles.Trouble.TheVariants.{Damaged}
use Rattle.wu_outside.specs.declared.traits.Store as stores
use Rattle.wu_ask.specs.Questions.{Question}
use Rattle.wu_query.specs.Causes.{IsDamagedFor}
use Rattle.wu_query.specs.Permitted.{AreReadForQuery, ReadsSuch}
use Rattle.wu_query.specs.Reads.{AreTexts, ReadsForQuery, texts_read}
use Rattle.wu_query.specs.States.{State}
use Rattle.wu_engine.specs.declared.engines.Engine.{Engine}
use Rattle.wu_engine.specs.Calls.{BlamesBroken}
use Rattle.wu_engine.specs.Stands.{Stands}

-- all is as it was but which blocks and frames it keeps, and the trouble that ended it
pub record KeepsIndex (before after : Engine) : Type 0 where
  pub tree : after.tree ≡ before.tree
  pub files : after.files ≡ before.files
  pub space : after.space ≡ before.space
  pub checkpoint : after.checkpoint ≡ before.checkpoint
  pub parts : after.parts ≡ record before.parts { kept = after.parts.kept }

-- Her frames' blocks of the terms are asked for in turn, and then only texts of files are read. Where engine and store stand for a state,
-- these are the texts of the files of which a line is shown, or of all files of her view where they are exported, each whole; and whatever
-- the answer, nothing is read but what a query of hers may read in that state, in this order.
pub record ReadsForQuestion {D T : Type 0} (Store : stores.Ghosts D) (uid : ℕ) (question : Question) (before after : Engine)
    (old new : D) (result : Result T Trouble) : Type 0 where
  pub done : OnOk result (ReadsForQuery before.tree before.space.ranges uid question before.parts after.parts.kept
      (λ texts. AreTexts (Store.holds old) before.files.entries question texts × ((s : State)
      → Stands before (Store.holds old) s → texts ≡ texts_read s uid question))
      (Store.holds old) (Store.reads old) (Store.reads new))
  pub permitted : (s : State) → Stands before (Store.holds old) s
      → ReadsSuch (AreReadForQuery s uid question) (Store.reads old) (Store.reads new)

-- A blob is called damaged only where the engine had ended so, or where this query of hers read of it and needs it: a part of which it
-- read a block of the terms that her frames need, or, where the question shows lines or is an export, the text of a file of hers of which
-- it read bytes, and not only asked the size; where frames, postings and records are those of a state, the text of a file that is exported
-- or of which a line is to be shown. Over whatever the store held when the engine was opened, it was broken then.
pub record BlamesAsked {D T : Type 0} (Store : stores.Ghosts D) (uid : ℕ) (question : Question) (before : Engine) (old new : D)
    (result : Result T Trouble) : Type 0 where
  pub damaged : (blob : ℕ) → result ≡ Err (Damaged blob) → (before.ended ≡ Some (Damaged blob))
      ⊎ ReadsSuch (λ read. IsDamagedFor before.tree before.space.ranges uid question before.parts before.files.entries
      (Store.holds old) read blob) (Store.reads old) (Store.reads new)
  pub broken : BlamesBroken before (Store.holds old) result
