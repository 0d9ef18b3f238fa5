-- What an event, a flush, background work and a save make of a state, and the first one.
use Rattle.std.specs.Prelude.{ℕ, List, [], Option, Some, None, Result, Ok, Err}
use Rattle.std.specs.Ordering.{nat_cmp}
use Rattle.std.specs.Map.{remove_entry}
use Rattle.std.specs.BTreeMap.{is_at, insert_entry}
use Rattle.wu_layout.specs.Layouts.{Layout, first_layout}
use Rattle.wu_layout.specs.Steps.{release, place, flush, flush_if_full, work, save, rest}
use Rattle.wu_tree.specs.FileSystems.{FileSystem, root_alone}
use Rattle.wu_tree.specs.Steps.{step as tree_step}
use Rattle.wu_tree.specs.declared.events.Event.{Event}
use Rattle.wu_tree.specs.declared.events.Effect.{Effect}
use Rattle.wu_tree.specs.declared.events.Refusal.{Refusal}
use Rattle.wu_query.specs.States.{State, Texts, indexed}

-- the root directory alone
abbrev pub first_state : State
first_state = record { tree = root_alone; texts = []; layout = first_layout }

-- a file without a text
abbrev pub without_text : Option ℕ → Texts → Texts
without_text None texts = texts
without_text (Some ino) texts = remove_entry (is_at (nat_cmp ino)) texts

-- a file with a text in place of the one before
abbrev pub with_text : Option ℕ → List ℕ → Texts → Texts
with_text None text texts = texts
with_text (Some ino) text texts = insert_entry nat_cmp texts ino text

-- a file that is made has the empty text, and the text of one that is gone goes with it
abbrev pub texts_after : Effect → List ℕ → Texts → Texts
texts_after effect text texts = with_text effect.texted text (with_text effect.made [] (without_text effect.dropped texts))

-- ---- the index

abbrev pub layout_without : Option ℕ → Layout → Layout
layout_without None layout = layout
layout_without (Some ino) layout = release ino layout

abbrev pub layout_with : Option ℕ → List ℕ → Layout → Layout
layout_with None text layout = layout
layout_with (Some ino) text layout = place ino (indexed text) layout

-- the range of a file that is gone is released, a file that is made is indexed with the empty text, and one that is given a text
-- is indexed anew
abbrev pub layout_after : Effect → List ℕ → Layout → Layout
layout_after effect text layout = layout_with effect.texted text
    (layout_without effect.texted (layout_with effect.made [] (layout_without effect.dropped layout)))

-- ---- a step

abbrev pub stepped : List ℕ → State → Result (FileSystem × Effect) Refusal → Result State Refusal
stepped text s (Ok (tree, effect)) = Ok (record {
  tree = tree;
  texts = texts_after effect text s.texts;
  layout = layout_after effect text s.layout;
})
stepped text s (Err refusal) = Err refusal

-- what an event makes of a state before a flush, where `text` is the text that it gives, or why it is refused
unfoldable pub step : State → Event → List ℕ → Result State Refusal
step s event text = stepped text s (tree_step s.tree event)

-- ---- flushes

-- the state whose live postings in memory became a part
abbrev pub flushed_state : State → State
flushed_state s = record s { layout = flush s.layout }

-- the same, where memory has as many postings as that or more
abbrev pub flushed_if_full : ℕ → State → State
flushed_if_full flush_at s = record s { layout = flush_if_full flush_at s.layout }

-- after an accepted event a flush follows, where memory then has as many postings as that or more; a refused one changes nothing
abbrev pub followed : ℕ → State → Result State Refusal → State
followed flush_at s (Ok after) = flushed_if_full flush_at after
followed flush_at s (Err refusal) = s

-- the state after an event, where memory is full at so many postings
abbrev pub after_event : ℕ → State → Event → List ℕ → State
after_event flush_at s event text = followed flush_at s (step s event text)

-- ---- background work

-- the state after so many units of background work, or as many as there is work for
abbrev pub worked_state : ℕ → State → State
worked_state n s = record s { layout = work n s.layout }

-- ---- saves

-- the state after a save
abbrev pub saved_state : State → State
saved_state s = record s { layout = save s.layout }

-- the state as it is opened again: no job is under way
abbrev pub rested_state : State → State
rested_state s = record s { layout = rest s.layout }
