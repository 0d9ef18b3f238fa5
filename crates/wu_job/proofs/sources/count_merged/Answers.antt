use Rattle.std.proofs.Common.{◌≡◌, List, length, map, ap, sym, subst, ◌∙◌, arith, rules}
use Rattle.std.specs.Prelude.{None}
use Rattle.wu_part.specs.declared.entries.TermEntry.{TermEntry}
use Rattle.wu_job.specs.Sources.{merged, with_entry}
use Rattle.wu_job.proofs.Counting.{AreLeft, none_left_over, one_term, walk_opened}
use Rattle.wu_job.proofs.Merging.{IsUp, length_merged}
use Rattle.wu_job.proofs.sources.count_merged.Goals as goal

pub loop-order-init : goal.loop-order-init
loop-order-init c =
    let left = walk_opened c.next-first.result c.args.left c.next-first.new.self c.next-first.ensures.steps in
    let right = walk_opened c.next-second.result c.args.right c.next-second.new.self c.next-second.ensures.steps in
    record {
      count =
          omega (
            arith,
            ap
                (λ (es : List TermEntry). length (merged (map (λ (e : TermEntry). e.term) es)
                (map (λ (e : TermEntry). e.term) (with_entry c.next-second.result c.next-second.new.self)))) left.0,
            ap (λ (es : List TermEntry). length (merged (map (λ (e : TermEntry). e.term) c.args.left) (map (λ (e : TermEntry). e.term) es)))
                right.0,
          );
      terms = subst (λ (es : List TermEntry). IsUp (map (λ (e : TermEntry). e.term) es)) (sym left.0) c.requires.terms.ascending;
      others = subst (λ (es : List TermEntry). IsUp (map (λ (e : TermEntry). e.term) es)) (sym right.0) c.requires.others.ascending;
      ended = left.1;
      others_ended = right.1;
    }

-- the entries that are left after a turn
turn : (c : goal.After-entry_after-second)
    → AreLeft (with_entry c.loop-order.first c.loop-order.left) (with_entry c.loop-order.second c.loop-order.right)
    (with_entry c.entry_after-first.result c.entry_after-first.new.rest)
    (with_entry c.entry_after-second.result c.entry_after-second.new.rest)
turn c =
    let inv = c.loop-order.invariant in
    one_term c.loop-order.first c.loop-order.second c.loop-order.left c.loop-order.right _ _ c.in-Some.order c.is_le.result c.is_ge.result
    inv.ended inv.others_ended inv.terms inv.others (sym c.in-Some.ensures) c.is_le.ensures c.is_ge.ensures
    c.entry_after-first.ensures.left c.entry_after-second.ensures.left

pub loop-order-preserved : goal.loop-order-preserved
loop-order-preserved c =
    let t = turn c in
    record {
      count = omega (arith, t.count, c.loop-order.invariant.count);
      terms = t.terms;
      others = t.others;
      ended = c.entry_after-first.ensures.ended;
      others_ended = c.entry_after-second.ensures.ended;
    }

pub loop-order-smaller : goal.loop-order-smaller
loop-order-smaller c = omega (arith, (turn c).count)

pub overflow_add-count : goal.overflow_add-count
overflow_add-count c =
    omega (
      arith,
      (turn c).count,
      c.loop-order.invariant.count,
      length_merged (map (λ (e : TermEntry). e.term) c.args.left) (map (λ (e : TermEntry). e.term) c.args.right),
      c.requires.terms.few,
      c.requires.others.few,
    )

pub returns : goal.returns
returns c =
    let inv = c.loop-order.invariant in
    let none : c.order_of.result ≡ None = search rules in
    let none_left = none_left_over c.loop-order.first c.loop-order.second c.loop-order.left c.loop-order.right inv.ended inv.others_ended
    (sym c.order_of.ensures ∙ none) in
    omega (arith, none_left, inv.count)
