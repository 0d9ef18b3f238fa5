-- Where no session is asked for, or the arguments couldn't be read, nothing is taken and the store stays as it is.
use Rattle.std.proofs.Common.{◌≡◌, ◌⊎◌, inl, inr, ℕ, List, [], ◌∷◌, Option, None, Some, refl, sym, ◌∙◌, ⊎_elim, arith}
use Rattle.std.specs.Prelude.{IfSome}
use Rattle.wu_outside.specs.Content.{Content}
use Rattle.std.specs.Io.KnownBytes.{Appends}
use Rattle.std.proofs.KnownBytes.{Appends-nil}
use Rattle.wu_outside.specs.Gains.{GainsPrefix}
use Rattle.wu_outside.specs.Ranges.{root_range}
use Rattle.wu_outside.specs.declared.ranges.ReadRange.{ReadRange}
use Rattle.wu_image.specs.declared.roots.TheConstants.{ROOT_LEN}
use Rattle.wu_options.specs.declared.command_lines.CommandLine.{CommandLine}
use Rattle.wu_options.specs.declared.command_lines.CommandLine.TheVariants.{Run, Demo, Check}
use Rattle.wu_check.specs.Reads.{MayBeRead, ReadsFrontOf}
use Rattle.wu_check.specs.Wrong.{IsChecked}
use Rattle.wu_check.specs.declared.checking.Checked.{Checked}
use Rattle.wu_options.specs.declared.command_lines.Settings.{Settings}
use Rattle.wu_query.specs.States.{State}
use Rattle.wu_engine.specs.Opening.{IsSpentAt}
use Rattle.wumpus_run.specs.declared.statuses.Status.{Status}
use Rattle.wumpus_run.specs.declared.statuses.Status.TheVariants.{Done, Usage, ReadFault, WriteFault, NoMemory, InputTooLong, StoreFault}
use Rattle.wumpus_run.specs.declared.statuses.Status.TheVariants.{Damaged, Spent}
use Rattle.wumpus_run.specs.Checks.{ChecksStore, FindsStore, IfCheck, check_line}
use Rattle.wumpus_run.specs.Demo.{IsShown}
use Rattle.wumpus_run.specs.Ended.{IsOutcome, KeepsBlobs, OpensOnly}
use Rattle.wumpus_run.specs.Session.{AnswersPrefix, AsksBriefly, HoldsNothingBack, IsCounted, IsSpent, Moment, StaysWithin}
use Rattle.wumpus_run.specs.Session.{LeavesAlone}
use Rattle.wu_check.proofs.ReadRanges.{front_none}
use Rattle.wumpus_run.proofs.Blobs.EarlierLemmas.{left_alone}
use Rattle.wumpus_run.proofs.Blobs.NamedCheckpoints.{checkpoint_same}
use Rattle.wumpus_run.proofs.Endings.PromptAtEnd.{AnswersAllButOneRead-untouched}
use Rattle.wumpus_run.proofs.Endings.ShutStores.{shut-unread}
use Rattle.wumpus_run.proofs.Blobs.StrayBlobs.{strays_alone}
use Rattle.wumpus_run.proofs.Endings.TakenAtEnd.{IsTooLong-none, StaysWithin-short, TakesAtMost-none}
use Rattle.wumpus_run.proofs.Endings.TakenReplies.{AnswersTaken-untouched}
use Rattle.wumpus_run.proofs.Endings.UntakenBytes.{untaken_so}
use Rattle.wumpus_run.proofs.Endings.WrittenAtEnd.{AnswersPrefix-none}

-- ---- the store stays as it is

pub blobs_alone : (before now : Moment) → now.holds ≡ before.holds → KeepsBlobs before now
blobs_alone before now same = record {
  earlier = λ content told root has. left_alone before.holds now.holds same content told root has;
  checkpoint = checkpoint_same 0 before.holds now.holds same;
  strays = λ s image. strays_alone s.layout before.holds now.holds same;
}

-- ---- no session is asked for

no_prompt : (start : State) (status : Status) (before now : Moment) → ((blob : ℕ) → status ≡ Damaged blob → ⊥)
    → ((next : ℕ) → status ≡ Spent next → ⊥) → HoldsNothingBack start status None before now
no_prompt start Done before now d s = tt
no_prompt start Usage before now d s = tt
no_prompt start ReadFault before now d s = tt
no_prompt start InputTooLong before now d s = tt
no_prompt start WriteFault before now d s = tt
no_prompt start NoMemory before now d s = tt
no_prompt start StoreFault before now d s = tt
no_prompt start (Damaged blob) before now d s = absurd (d blob refl)
no_prompt start (Spent next) before now d s = absurd (s next refl)

-- which statuses come then, and with which counts of faults
pub record IsUnasked (status : Status) (before now : Moment) : Type 0 where
  pub read_fault : IsCounted ReadFault status before.read_faults now.read_faults
  pub write_fault : IsCounted WriteFault status before.write_faults now.write_faults
  pub store_fault : IsCounted StoreFault status before.store_faults now.store_faults
  pub damaged : (blob : ℕ) → status ≡ Damaged blob → ⊥
  pub spent : (next : ℕ) → status ≡ Spent next → ⊥
  pub asked : AsksBriefly before now

pub unasked_session : (status : Status) (before now : Moment) → IsUnasked status before now → IsOutcome status None before now
unasked_session status before now is = record {
  usage = λ e. refl;
  all_taken = λ e. tt;
  done = λ e s image. tt;
  saved = λ e s image. tt;
  named = λ e s image. tt;
  read_fault = is.read_fault;
  write_fault = is.write_fault;
  store_fault = is.store_fault;
  too_long = tt;
  damaged = λ s image. is.damaged;
  spent = record { only = λ next e. absurd (is.spent next e); comes = tt };
  asked = is.asked;
  taken = tt;
  ends = λ s image. record { prefix = tt; only_taken = tt; prompt = no_prompt s status before now is.damaged is.spent };
}

same_count : (fault status : Status) (count : ℕ) → (status ≡ fault → ⊥) → IsCounted fault status count count
same_count fault status count other = record { rose = λ e. absurd (other e); calm = λ e. refl }

pub usage_only : (before : Moment) → IsUnasked Usage before before
usage_only before = record {
  read_fault = same_count ReadFault Usage before.read_faults (λ e. (cc));
  write_fault = same_count WriteFault Usage before.write_faults (λ e. (cc));
  store_fault = same_count StoreFault Usage before.store_faults (λ e. (cc));
  damaged = λ blob e. (cc);
  spent = λ next e. (cc);
  asked = omega arith;
}

-- a demonstration ends in one of three ways
pub demo_only : (number : ℕ) (status : Status) (before now : Moment) → now.most_asked ≡ before.most_asked
    → now.read_faults ≡ before.read_faults
    → now.store_faults ≡ before.store_faults → IsShown number status before.gained now.gained
    → IsCounted WriteFault status before.write_faults now.write_faults → IsUnasked status before now
demo_only number status before now asked read store shown write =
    let other = λ (fault : Status) (d : fault ≡ Done → ⊥) (w : fault ≡ WriteFault → ⊥) (m : fault ≡ NoMemory → ⊥) (e : status ≡ fault).
    ⊎_elim (λ is. d (sym e ∙ is)) (λ rest. ⊎_elim (λ is. w (sym e ∙ is)) (λ is. m (sym e ∙ is)) rest) shown.ends in
    record {
      read_fault = record { rose = λ e. absurd (other ReadFault (λ f. (cc)) (λ f. (cc)) (λ f. (cc)) e); calm = λ e. read };
      write_fault = write;
      store_fault = record { rose = λ e. absurd (other StoreFault (λ f. (cc)) (λ f. (cc)) (λ f. (cc)) e); calm = λ e. store };
      damaged = λ blob e. other (Damaged blob) (λ f. (cc)) (λ f. (cc)) (λ f. (cc)) e;
      spent = λ next e. other (Spent next) (λ f. (cc)) (λ f. (cc)) (λ f. (cc)) e;
      asked = omega (arith, asked);
    }

-- the store is as it was, also for a crash, and nothing was taken
pub alone_unasked : (status : Status) (before now : Moment) → now.left ≡ before.left → now.holds ≡ before.holds
    → now.moments ≡ before.moments → OpensOnly status None before now
alone_unasked status before now left same as_before = record {
  opens = untaken_so _ before.left now.left (same, inl as_before);
  unopened = λ next e. same;
  shut = tt;
}

-- ---- what is said by the command line

-- source, sink and store are as they were
pub all_alone : {I O D : Type 0} (line : Option CommandLine) (source : I) (sink : O) (store : D)
    → LeavesAlone line source source sink sink store store
all_alone None source sink store = (refl, refl, refl)
all_alone (Some (Run settings)) source sink store = tt
all_alone (Some (Demo number)) source sink store = (refl, refl)
all_alone (Some Check) source sink store = refl

nothing_told : (status : Status) (holds : Option Content) (gained : Option (List ℕ))
    → IfSome holds (λ content. Appends gained gained []
    ⊎ ((checked : Checked) × IsChecked content checked × GainsPrefix gained gained (check_line checked)))
nothing_told status None gained = tt
nothing_told status (Some content) gained = inl (Appends-nil gained)

nothing_read : (holds : Option Content) (reads : Option (List ReadRange))
    → IfSome holds (λ content. ReadsFrontOf (MayBeRead content) reads reads)
nothing_read None reads = tt
nothing_read (Some content) reads =
    let root = root_range ROOT_LEN ∷ [] in
    (root, inl refl, front_none root reads reads refl)

-- nothing was checked
pub unchecked : (line : Option CommandLine) (before : Moment) → IfCheck line (ChecksStore NoMemory before before)
unchecked None before = tt
unchecked (Some (Run settings)) before = tt
unchecked (Some (Demo number)) before = tt
unchecked (Some Check) before = record {
  found = record {
    ends = inr (inr (inr refl));
    done = λ e. absurd (cc);
    prefix = nothing_told NoMemory before.holds before.gained;
  };
  holds = refl;
  moments = refl;
  ranges = nothing_read before.holds before.reads;
}

-- a check ends in one of four ways
pub check_only : (status : Status) (before now : Moment) → now.most_asked ≡ before.most_asked → now.read_faults ≡ before.read_faults
    → FindsStore status before.holds before.gained now.gained → IsCounted WriteFault status before.write_faults now.write_faults
    → IsCounted StoreFault status before.store_faults now.store_faults → IsUnasked status before now
check_only status before now asked read found write store =
    let other = λ (fault : Status) (d : fault ≡ Done → ⊥) (w : fault ≡ WriteFault → ⊥) (s : fault ≡ StoreFault → ⊥)
    (m : fault ≡ NoMemory → ⊥) (e : status ≡ fault).
    ⊎_elim (λ is. d (sym e ∙ is)) (λ rest. ⊎_elim (λ is. w (sym e ∙ is)) (λ last. ⊎_elim (λ is. s (sym e ∙ is)) (λ is. m (sym e ∙ is))
    last) rest) found.ends in
    record {
      read_fault = record {
        rose = λ e. absurd (other ReadFault (λ f. (cc)) (λ f. (cc)) (λ f. (cc)) (λ f. (cc)) e);
        calm = λ e. read;
      };
      write_fault = write;
      store_fault = store;
      damaged = λ blob e. other (Damaged blob) (λ f. (cc)) (λ f. (cc)) (λ f. (cc)) (λ f. (cc)) e;
      spent = λ next e. other (Spent next) (λ f. (cc)) (λ f. (cc)) (λ f. (cc)) (λ f. (cc)) e;
      asked = omega (arith, asked);
    }

-- ---- the arguments couldn't be read

spent_unread : (settings : Option Settings) (holds : Option Content) → IsSpent NoMemory settings holds
spent_unread settings holds = record { only = λ next e. absurd (cc); comes = comes settings holds }
  where
    comes : (settings : Option Settings) (holds : Option Content) → IfSome settings (λ told. IfSome holds (λ content. (next : ℕ)
        → IsSpentAt content next → (NoMemory ≡ Spent next) ⊎ ((NoMemory ≡ StoreFault) ⊎ (NoMemory ≡ NoMemory))))
    comes None holds = tt
    comes (Some told) None = tt
    comes (Some told) (Some content) = λ next is. inr (inr refl)

within_unread : (settings : Option Settings) (before : Moment) → StaysWithin settings before before
within_unread None before = tt
within_unread (Some told) before = StaysWithin-short told before before (TakesAtMost-none before.left told.max_input)

prefix_unread : (start : State) (settings : Option Settings) (before : Moment) → AnswersPrefix start settings before before
prefix_unread start None before = tt
prefix_unread start (Some told) before = AnswersPrefix-none told start before

pub unread_session : (settings : Option Settings) (before : Moment) → IsOutcome NoMemory settings before before
unread_session settings before = record {
  usage = λ e. absurd (cc);
  all_taken = λ e. absurd (cc);
  done = λ e. absurd (cc);
  saved = λ e. absurd (cc);
  named = λ e. absurd (cc);
  read_fault = same_count ReadFault NoMemory before.read_faults (λ e. (cc));
  write_fault = same_count WriteFault NoMemory before.write_faults (λ e. (cc));
  store_fault = same_count StoreFault NoMemory before.store_faults (λ e. (cc));
  too_long = IsTooLong-none NoMemory settings before (λ e. (cc));
  damaged = λ s image blob e. (cc);
  spent = spent_unread settings before.holds;
  asked = omega arith;
  taken = within_unread settings before;
  ends = λ s image. record {
    prefix = prefix_unread s settings before;
    only_taken = AnswersTaken-untouched s settings before;
    prompt = AnswersAllButOneRead-untouched s settings before;
  };
}

-- source and store are as they were
pub alone_unread : (status : Status) (settings : Option Settings) (before : Moment) → OpensOnly status settings before before
alone_unread status settings before = record {
  opens = untaken_so _ before.left before.left (refl, inl refl);
  unopened = λ next e. refl;
  shut = shut-unread _ settings before.holds (refl, refl, refl);
}
