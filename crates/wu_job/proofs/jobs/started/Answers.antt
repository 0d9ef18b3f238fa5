use Rattle.std.proofs.Common.{◌≡◌, ◌≤◌, ◌∙◌, List, sym, ap, subst, arith}
use Rattle.wu_base.specs.declared.addresses.TermList.{TermList}
use Rattle.wu_base.specs.declared.limits.TheConstants.{ADDRESSES_MAX}
use Rattle.wu_job.specs.Jobs.{StandWithin}
use Rattle.wu_job.specs.Keeping.{AreMarks, AreWritable, addresses_in}
use Rattle.wu_job.specs.Live.{first_from, ranges_alone, total_of}
use Rattle.wu_job.specs.Sources.{parts_of, terms_from, terms_of, terms_of_other}
use Rattle.wu_part.specs.Buildings.{Building}
use Rattle.wu_job.proofs.Joining.{lowest_left}
use Rattle.wu_job.proofs.Marking.{no_marks}
use Rattle.wu_job.proofs.Merging.{merged_up}
use Rattle.wu_job.proofs.Ranks.{sum_alone, total_within}
use Rattle.wu_job.proofs.Sound.{writable_none}
use Rattle.wu_job.proofs.Walking.{none_passed}
use Rattle.wu_job.proofs.jobs.started.Goals as goal

pub total-requires : goal.total-requires
total-requires c =
    rw c.deref.ensures.value
    (omega (
      arith,
      sum_alone c.in_ok-live.live.items,
      ap total_of c.in_ok-live.ensures.ranges,
      total_within ADDRESSES_MAX c.args.live.now c.requires.apart c.requires.bounded,
    ))

pub invariant_of-result : goal.invariant_of-result
invariant_of-result c =
    let live = ranges_alone c.in_ok-live.live.items in
    let left = terms_from c.args.left c.args.right (record { left = 0; right = 0 }) in
    let total : c.total.result ≡ total_of live =
    (rw c.deref.ensures.value at c.total.ensures) ∙ sum_alone c.in_ok-live.live.items in
    let none = sym c.new.ensures in
    let low = ap (λ (b : Building). b.low) c.in_ok-done.ensures in
    let least = lowest_left c.args.left c.args.right in
    let first = rw c.deref-2.ensures.value at c.first_live-low.ensures in
    record {
      sources = c.requires.sources;
      passed = (none_passed (terms_of c.args.left) left, none_passed (terms_of_other c.args.right) left);
      live = c.in_ok-live.ensures.ranked;
      marks = subst (AreMarks live c.in_ok-marks.marks) none (no_marks live c.in_ok-marks.marks c.total.result c.in_ok-marks.ensures total);
      writable =
          subst (λ (lists : List TermList). AreWritable live lists left) none
          (writable_none live left (merged_up (terms_of c.args.left) (terms_of_other c.args.right)));
      units = c.count_terms-units_left.ensures.count;
      generation = c.requires.generation;
      within = subst (λ (lists : List TermList). StandWithin (parts_of c.args.left c.args.right) (addresses_in lists)) none tt;
      going = λ some. record {
        added = ap (λ (b : Building). b.lists) c.in_ok-done.ensures ∙ none;
        low = λ address alive within.
            let from : c.first_live-low.result ≤ address = first.low address alive (omega (arith, c.low.ensures, least)) in omega arith;
        least = low ∙ first.first ∙ ap (first_from live) (c.low.ensures ∙ sym least);
      };
    }
