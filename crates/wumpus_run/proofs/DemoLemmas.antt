-- What a demonstration counts, item by item, and how it ends.
use Rattle.std.proofs.Common.{◌≡◌, ℕ, ◌<◌, ◌^◌, ◌⊎◌, false, List, [], ◌++◌, map, Option, Some, None}
use Rattle.std.proofs.Common.{refl, sym, ap, ◌∙◌, subst, inl, inr, arith, append-nil}
use Rattle.std.specs.Io.KnownBytes.{Appends, prepend_known}
use Rattle.std.proofs.KnownBytes.{Appends-nil}
use Rattle.wu_base.specs.declared.limits.TheConstants.{BLOBS_SPENT_AT, FLUSH_DEFAULT, SPENT_AT}
use Rattle.wu_outside.specs.Content.{Content}
use Rattle.wu_outside.specs.Gains.{GainsPrefix}
use Rattle.wu_outside.specs.Known.{KnownSource}
use Rattle.wu_outside.specs.Stored.{PlainBlobs, plain_content}
use Rattle.wu_outside.specs.declared.traits.Fault.{Fault}
use Rattle.wu_outside.specs.declared.traits.Fault.TheVariants.{Failed}
use Rattle.wu_outside.specs.declared.traits.Fault.TheVariants as faults
use Rattle.wu_script.specs.declared.types.Item.{Item}
use Rattle.wu_script.specs.declared.types.Item.TheVariants as items
use Rattle.wu_script.specs.declared.types.Reply.{Reply}
use Rattle.wu_script.specs.Commands.{Entry}
use Rattle.wu_script.specs.Holding.{Held}
use Rattle.wu_script.specs.Said.{Reading, IsReading, said_by, said_of}
use Rattle.wu_script.specs.Items.{first_of, IsBeforeEnd, IsFirstItem, IsNext}
use Rattle.wu_script.proofs.ItemListLemmas.{items_of-none, items_of-some}
use Rattle.wu_options.specs.declared.command_lines.CommandLine.{CommandLine}
use Rattle.wu_options.specs.declared.command_lines.CommandLine.TheVariants.{Run, Demo, Check}
use Rattle.wu_image.specs.Images.{IsSaved}
use Rattle.wu_query.specs.States.{State}
use Rattle.wu_engine.specs.declared.engines.Engine.{Engine}
use Rattle.wu_engine.specs.Opening.{HoldsImage}
use Rattle.wu_engine.specs.Stands.{Stands}
use Rattle.wu_engine.specs.States.{first_state}
use Rattle.wu_engine.proofs.KeptStates.{first_is_state}
use Rattle.wumpus_run.specs.declared.demo.TheConstants.{SCRIPT_MAX}
use Rattle.wumpus_run.specs.declared.statuses.Status.TheVariants.{Done, WriteFault, NoMemory}
use Rattle.wumpus_run.specs.declared.tallies.Tally.{Tally}
use Rattle.wumpus_run.specs.Replies.{after, met, reply_to}
use Rattle.wumpus_run.specs.Ended.{status_of_fault}
use Rattle.wumpus_run.specs.Demo.{IfDemo, IsDemoLine, IsFew, IsReady, IsShown, IsTallyOf, IsUnderWay}
use Rattle.wumpus_run.specs.Demo.{counted, counted_all, demo_line, no_reply, tally_from}
use Rattle.wumpus_run.proofs.Endings.EndStatuses.{writing}
use Rattle.wumpus_run.proofs.SessionLemmas.{first_item}
use Rattle.wumpus_run.proofs.AddressRoom.{HasRoom-none, StaysLow-none}

-- what is counted of some bytes is what their first item adds, and then what the rest adds
tally-first : (read : Reading) → IsReading read → (tally : Tally) (s : State) (bytes rest : List ℕ) (item : Item) → IsBeforeEnd item
    → IsFirstItem bytes rest item
    → tally_from read tally s bytes
    ≡ tally_from read (counted tally (reply_to s (said_by item))) (after FLUSH_DEFAULT s (said_by item)) rest
tally-first read are tally s bytes rest item other is =
    let first = first_item bytes rest item other is in
    let says : said_by item ≡ said_of read (first_of bytes).entry = first.1 read are in
    ap (λ entries. counted_all tally (met FLUSH_DEFAULT s (map (said_of read) entries))) (items_of-some bytes first.0)
    ∙ ap (λ said. tally_from read (counted tally (reply_to s said)) (after FLUSH_DEFAULT s said) (first_of bytes).rest) (sym says)
    ∙ ap (λ bs. tally_from read (counted tally (reply_to s (said_by item))) (after FLUSH_DEFAULT s (said_by item)) bs) (sym first.2)

-- ---- at the start

-- a store without a root holds an image of the root directory alone
pub fresh_image : (content : Content) → content.root ≡ None → HoldsImage (Some content) first_state
fresh_image content none = (
  first_is_state,
  record {
    saved = subst (λ (root : Option (List ℕ)). IsSaved content root first_state.tree first_state.texts first_state.layout) (sym none)
        (record { tree_alone = refl; no_texts = refl; layout_empty = refl });
  },
)

few_at_first : IsFew 0 no_reply
few_at_first = record { commands = omega arith; oks = omega arith; refused = omega arith; counts = omega arith; hits = omega arith }

pub IsReady-none : (source : KnownSource) (reader : Held) (engine : Engine) → source.ended ≡ false
    → reader ≡ record { bytes = []; spare = SCRIPT_MAX; ended = false } → engine.ended ≡ None → engine.parts.flush_at ≡ FLUSH_DEFAULT
    → engine.space.next < SPENT_AT → engine.parts.next_blob < BLOBS_SPENT_AT → engine.parts.flushes < 2 ^ 62
    → IsReady source reader engine no_reply
IsReady-none source reader engine begins fresh goes_on flush_at next next_blob flushes =
    subst (λ (r : Held). IsReady source r engine no_reply) (sym fresh) (record {
      goes_on = goes_on;
      flush_at = flush_at;
      addresses = HasRoom-none engine.space.next SCRIPT_MAX next;
      blobs = StaysLow-none engine.parts.next_blob SCRIPT_MAX next_blob;
      flushes = StaysLow-none engine.parts.flushes SCRIPT_MAX (omega (arith, flushes));
      items = 0;
      few = few_at_first;
      left = omega arith;
      follows = record { going = λ h. begins; recent = omega arith };
      at_end = λ h. absurd (cc);
    })

pub IsUnderWay-none : (script : List ℕ) (source : KnownSource) (reader : Held) (engine : Engine) (before store : PlainBlobs)
    → source.left ≡ script → reader ≡ record { bytes = []; spare = SCRIPT_MAX; ended = false } → before.root ≡ None
    → ((s : State) → HoldsImage (Some (plain_content before)) s → Stands engine (Some (plain_content store)) s)
    → IsUnderWay script source reader engine store no_reply
IsUnderWay-none script source reader engine before store left fresh rootless stands = record {
  state = first_state;
  stands = stands first_state (fresh_image (plain_content before) rootless);
  sums = λ read are. ap (λ (r : Held). tally_from read no_reply first_state (r.bytes ++ source.left)) fresh
      ∙ ap (λ (bytes : List ℕ). tally_from read no_reply first_state bytes) left;
}

-- ---- an item

module _ (script : List ℕ) (source next : KnownSource) (reader rest : Held) where
  -- the reply to an item is counted
  pub IsUnderWay-turn : (engine after_it : Engine) (store kept : PlainBlobs) (tally new : Tally) (item : Item) (reply : Option Reply)
      → IsBeforeEnd item → IsNext (prepend_known reader.bytes (Some source.left)) (prepend_known rest.bytes (Some next.left)) item
      → ((s : State) → Stands engine (Some (plain_content store)) s → (reply ≡ reply_to s (said_by item))
      × Stands after_it (Some (plain_content kept)) (after engine.parts.flush_at s (said_by item)))
      → engine.parts.flush_at ≡ FLUSH_DEFAULT → new ≡ counted tally reply
      → IsUnderWay script source reader engine store tally → IsUnderWay script next rest after_it kept new
  IsUnderWay-turn engine after_it store kept tally new item reply other is_next replied flush_at is so_far =
      let s = so_far.state in
      let answered = replied s so_far.stands in
      let t = after FLUSH_DEFAULT s (said_by item) in
      record {
        state = t;
        stands = subst (λ (n : ℕ). Stands after_it (Some (plain_content kept)) (after n s (said_by item))) flush_at answered.1;
        sums = λ read are. ap (λ (u : Tally). tally_from read u t (rest.bytes ++ next.left)) (is ∙ ap (counted tally) answered.0)
            ∙ sym (tally-first read are tally s (reader.bytes ++ source.left) (rest.bytes ++ next.left) item other is_next)
            ∙ so_far.sums read are;
      }

  -- at the end of the script the whole is counted
  pub IsTallyOf-end : (engine : Engine) (store : PlainBlobs) (tally : Tally)
      → IsNext (prepend_known reader.bytes (Some source.left)) (prepend_known rest.bytes (Some next.left)) items.End
      → IsUnderWay script source reader engine store tally → IsTallyOf script tally
  IsTallyOf-end engine store tally is_next so_far = λ read are.
      sym (ap (λ (bytes : List ℕ). tally_from read tally so_far.state bytes) is_next.0
      ∙ ap (λ (entries : List Entry). counted_all tally (met FLUSH_DEFAULT so_far.state (map (said_of read) entries))) items_of-none)
      ∙ so_far.sums read are

-- ---- how it ends

-- where there was no memory, nothing was written
pub unshown : (number : ℕ) (gained : Option (List ℕ)) → IsShown number NoMemory gained gained
unshown number gained = record {
  ends = inr (inr refl);
  done = λ e. absurd (cc);
  prefix = λ read are. ([], demo_line read number, refl, Appends-nil gained);
}

-- nor where there was none to read the arguments
pub nothing-shown : (line : Option CommandLine) (gained : Option (List ℕ)) → IfDemo line (λ number. IsShown number NoMemory gained gained)
nothing-shown None gained = tt
nothing-shown (Some (Run settings)) gained = tt
nothing-shown (Some (Demo number)) gained = unshown number gained
nothing-shown (Some Check) gained = tt

fault_ends : (fault : Fault)
    → (status_of_fault fault ≡ Done) ⊎ ((status_of_fault fault ≡ WriteFault) ⊎ (status_of_fault fault ≡ NoMemory))
fault_ends Failed = inr (inl refl)
fault_ends faults.NoMemory = inr (inr refl)

-- the line was written
pub shown : (number : ℕ) (line : List ℕ) (before now : Option (List ℕ)) → IsDemoLine number line → Appends before now line
    → IsShown number Done before now
shown number line before now is gained = record {
  ends = inl refl;
  done = λ e read are. subst (Appends before now) (is read are) gained;
  prefix = λ read are.
      (demo_line read number, [], sym (append-nil (demo_line read number)), subst (Appends before now) (is read are) gained);
}

-- the line wasn't written whole
pub shown_in_part : (number : ℕ) (line : List ℕ) (fault : Fault) (before now : Option (List ℕ)) → IsDemoLine number line
    → GainsPrefix before now line → IsShown number (status_of_fault fault) before now
shown_in_part number line fault before now is gained = record {
  ends = fault_ends fault;
  done = λ e. absurd (writing fault Done refl e);
  prefix = λ read are. subst (GainsPrefix before now) (is read are) gained;
}
