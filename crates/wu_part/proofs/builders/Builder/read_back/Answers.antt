use Rattle.std.proofs.Common.{◌≡◌, ◌∙◌, List, true, ap, length, subst, rules}
use Rattle.std.specs.List.{AllZip}
use Rattle.wu_part.specs.declared.entries.TermEntry.{TermEntry}
use Rattle.wu_part.specs.Buildings.{Building}
use Rattle.wu_part.specs.Parts.{HoldsList}
use Rattle.wu_part.proofs.BuilderLemmas.{head_with, held_lists, high_bound}
use Rattle.wu_part.proofs.DecodingLemmas.{entries_are}
use Rattle.wu_part.proofs.LawLemmas.{same_lists}
use Rattle.wu_part.proofs.builders.Builder.read_back.Goals as goal

pub lists_in-requires-clause-high : goal.lists_in-requires-clause-high
lists_in-requires-clause-high c = high_bound c.self.inside.added.lists c.self.inside.totals c.self.invariant.totals

pub lists_in-requires-clause-entries : goal.lists_in-requires-clause-entries
lists_in-requires-clause-entries c =
    let i = c.self.inside in
    let whole : i.whole ≡ true = search rules in
    let held = held_lists i.added.lists i.totals i.entries.items i.blocks.items c.self.invariant.totals (c.self.invariant.written whole) in
    (held.terms, rw (c.deref.ensures.value, c.deref-2.ensures.value) held.are)

pub returns : goal.returns
returns c =
    let i = c.self.inside in
    let whole : i.whole ≡ true = search rules in
    let held = held_lists i.added.lists i.totals i.entries.items i.blocks.items c.self.invariant.totals (c.self.invariant.written whole) in
    let is = entries_are (head_with i.totals) (length i.blocks.items) i.totals.count i.entries.items 0 held.terms held.are in
    let read = rw (c.deref.ensures.value, c.deref-2.ensures.value) at c.in_ok-lists_in.ensures in
    let found = c.in_ok-lists_in.field-0.items in
    same_lists i.totals.low i.blocks.items held.terms found i.added.lists
    (subst (λ (es : List TermEntry). AllZip (HoldsList i.totals.low i.blocks.items) es found) is read) held.held
    ∙ ap (λ (b : Building). b.lists) c.self.view_is
