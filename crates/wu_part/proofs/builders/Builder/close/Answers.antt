use Rattle.std.proofs.Common.{◌≡◌, ◌<◌, ◌+◌, ◌-◌, ◌∷◌, [], ◌==◌, ℕ, true, eqb, length, map, sym, subst, arith, rules}
use Rattle.std.specs.List.{IsDistinct, flat_map, list_any, sum_by}
use Rattle.std.specs.List.Sorted.{IsStrictlySortedBy}
use Rattle.std.specs.Cmp.Lexicographic.{slice_cmp}
use Rattle.std.specs.Ordering.{nat_cmp}
use Rattle.wu_base.specs.declared.addresses.TermList.{TermList}
use Rattle.wu_part.specs.Buildings.{Building}
use Rattle.wu_part.specs.Directories.{PartDirectory}
use Rattle.wu_part.specs.Headers.{SpellsHeader}
use Rattle.wu_part.specs.Parts.{SpellsPart}
use Rattle.wu_part.specs.Writing.{AppendsNumbers, first_of}
use Rattle.wu_part.proofs.BuilderLemmas.{written_all}
use Rattle.wu_part.proofs.PartLemmas.{blob_turned, high_below, part_of_lists}
use Rattle.wu_part.proofs.builders.Builder.close.Goals as goal

pub put_head-requires : goal.put_head-requires
put_head-requires c =
    let i = c.self.inside in
    let t = c.self.invariant.totals in
    let some : 0 < length i.added.lists = subst (λ (b : Building). 0 < length b.lists) (sym c.self.view_is) c.requires.some in
    (high_below i.totals.low i.totals.high i.added.lists t.each t.begin (t.last some)).0

pub returns : goal.returns
returns c =
    let i = c.self.inside in
    let t = c.self.invariant.totals in
    let back = sym c.self.view_is in
    let lists = i.added.lists in
    let low = i.totals.low in
    let high = i.totals.high in
    let whole : i.whole ≡ true = search rules in
    let some : 0 < length lists = subst (λ (b : Building). 0 < length b.lists) back c.requires.some in
    let first : list_any (λ list. first_of list.at == low) lists ≡ true =
    subst (λ (b : Building). list_any (λ list. first_of list.at == b.low) b.lists ≡ true) back c.requires.reached in
    let ascending : IsStrictlySortedBy (slice_cmp nat_cmp) (map (λ list. list.term) lists) =
    subst (λ (b : Building). IsStrictlySortedBy (slice_cmp nat_cmp) (map (λ list. list.term) b.lists)) back c.requires.ascending in
    let distinct : IsDistinct eqb (flat_map (λ list. list.at) lists) =
    subst (λ (b : Building). IsDistinct eqb (flat_map (λ list. list.at) b.lists)) back c.requires.distinct in
    let head = c.put_head.new.out.items in
    let appended = rw c.new-head.ensures.items at c.in_ok-put_head.ensures in
    let stored = sum_by (λ (list : TermList). length list.at) lists in
    let numbers : AppendsNumbers [] (c.args.generation ∷ low ∷ (high - low) ∷ stored ∷ length lists ∷ []) head =
    subst (λ (n : ℕ). AppendsNumbers [] (c.args.generation ∷ low ∷ (high - low) ∷ stored ∷ n ∷ []) head) t.count
    (subst (λ (n : ℕ). AppendsNumbers [] (c.args.generation ∷ low ∷ (high - low) ∷ n ∷ i.totals.count ∷ []) head) t.stored appended) in
    let header = c.in_ok-put_header.ensures in
    let long : c.len.result + c.len-2.result ≡ length head + length i.entries.items = omega arith in
    record {
      part =
          subst (λ (b : Building). (directory : PartDirectory) × (directory.generation ≡ c.args.generation)
          × SpellsPart directory b.lists c.move_to_end.new.bytes.items) c.self.view_is
          (part_of_lists lists c.args.generation low high header.0 head i.entries.items i.blocks.items c.move_to_end.new.bytes.items
          some t.each ascending distinct c.requires.generation t.begin first t.greatest (t.last some)
          (written_all low lists i.entries.items i.blocks.items (c.self.invariant.written whole)) numbers
          (subst (λ (n : ℕ). SpellsHeader n header.0) long header.1)
          (blob_turned i.blocks.items c.put_header.new.out.items c.extend_from_slice.new.self.items c.extend_from_slice-2.new.self.items
          c.move_to_end.new.bytes.items header.0 head i.entries.items c.deref.result.now c.deref-2.result.now c.len-blocks.result
          (omega arith) header.2 c.in_ok-extend_from_slice.ensures.items c.deref.ensures.value
          c.in_ok-extend_from_slice-2.ensures.items c.deref-2.ensures.value c.move_to_end.ensures));
    }
