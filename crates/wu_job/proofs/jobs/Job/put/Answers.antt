use Rattle.std.proofs.Common.{◌-◌, length, refl, ap, sym, ◌∙◌, arith}
use Rattle.wu_job.specs.Jobs.{JobState}
use Rattle.wu_job.specs.Live.{total_of}
use Rattle.wu_job.proofs.Marking.{places_within}
use Rattle.wu_job.proofs.Putting.{ascending_put, distinct_made, distinct_put, has_put, sound_put}
use Rattle.wu_job.proofs.Sound.{lists_for}
use Rattle.wu_job.proofs.jobs.Job.put.Goals as goal

pub put_list-requires-clause-lists : goal.put_list-requires-clause-lists
put_list-requires-clause-lists c =
    lists_for c.args.first.term c.args.cut.addresses.items c.requires.next.bounded.0 c.requires.next.bounded.1 c.requires.new.ascend

pub mark_all-requires : goal.mark_all-requires
mark_all-requires c =
    let live = ap (λ (s : JobState). s.live) c.self.view_is in
    rw (c.deref.ensures.value, c.requires.new.places)
    (places_within c.args.self.now.live (length c.self.inside.marks) c.args.cut.addresses.items
    (ap total_of (sym live) ∙ sym c.self.invariant.marks.long) c.requires.new.live)

pub invariant_of-self-then-self-gt0 : goal.invariant_of-self-then-self-gt0
invariant_of-self-then-self-gt0 c =
    let i = c.self.inside in
    sound_put i c.self.invariant c.args.self.now c.self.view_is c.args.first.term c.args.first.after c.args.cut c.requires.next
    c.requires.new c.mark_all.new.marks c.put_list.new.made c.put_list.new.lists (i.units_left - 1) c.mark_all.ensures.long
    (rw c.deref.ensures.value at c.mark_all.ensures.marked) c.in_ok-put_list.ensures.made refl
    (λ some.
    has_put i c.self.invariant c.args.self.now c.self.view_is c.args.first.term c.args.first.after c.args.cut c.requires.next
    c.requires.new c.put_list.new.made.lists c.put_list.new.lists c.in_ok-put_list.ensures.ok c.in_ok-put_list.ensures.made)

pub part_of-requires-clause-ascending : goal.part_of-requires-clause-ascending
part_of-requires-clause-ascending c =
    ascending_put c.self.inside c.self.invariant c.args.self.now c.self.view_is c.args.first.term c.args.first.after c.args.cut
    c.requires.next c.requires.new c.replace-done.result (c.replace-done.ensures.value ∙ c.in_ok-put_list.ensures.ok)
    (omega (arith, c.if-self-gt0.false))

pub part_of-requires-clause-distinct : goal.part_of-requires-clause-distinct
part_of-requires-clause-distinct c =
    distinct_put c.self.inside c.self.invariant c.args.self.now c.self.view_is c.args.first.term c.args.first.after c.args.cut
    c.requires.next c.requires.new c.replace-done.result (c.replace-done.ensures.value ∙ c.in_ok-put_list.ensures.ok)

pub invariant_of-self-in_err-made : goal.invariant_of-self-in_err-made
invariant_of-self-in_err-made c =
    let i = c.self.inside in
    sound_put i c.self.invariant c.args.self.now c.self.view_is c.args.first.term c.args.first.after c.args.cut c.requires.next
    c.requires.new c.mark_all.new.marks c.put_list.new.made c.replace-done.new.dest (i.units_left - 1) c.mark_all.ensures.long
    (rw c.deref.ensures.value at c.mark_all.ensures.marked) c.in_ok-put_list.ensures.made refl
    (λ some. absurd (omega (arith, c.if-self-gt0.false)))

pub invariant_of-self-2 : goal.invariant_of-self-2
invariant_of-self-2 c =
    let i = c.self.inside in
    sound_put i c.self.invariant c.args.self.now c.self.view_is c.args.first.term c.args.first.after c.args.cut c.requires.next
    c.requires.new c.mark_all.new.marks c.put_list.new.made c.replace-done.new.dest (i.units_left - 1) c.mark_all.ensures.long
    (rw c.deref.ensures.value at c.mark_all.ensures.marked) c.in_ok-put_list.ensures.made refl
    (λ some. absurd (omega (arith, c.if-self-gt0.false)))

pub returns-then-self-gt0-clause-distinct : goal.returns-then-self-gt0-clause-distinct
returns-then-self-gt0-clause-distinct c =
    distinct_made c.self.inside c.self.invariant c.args.self.now c.self.view_is c.args.first.term c.args.first.after c.args.cut
    c.requires.next c.requires.new c.put_list.new.made c.in_ok-put_list.ensures.made

pub returns-clause-distinct : goal.returns-clause-distinct
returns-clause-distinct c =
    distinct_made c.self.inside c.self.invariant c.args.self.now c.self.view_is c.args.first.term c.args.first.after c.args.cut
    c.requires.next c.requires.new c.put_list.new.made c.in_ok-put_list.ensures.made
