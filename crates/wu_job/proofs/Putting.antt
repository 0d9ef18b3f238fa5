-- What a job keeps when a term's list is put.
use Rattle.std.proofs.Common.{◌≡◌, ℕ, ◌-◌, ◌<◌, ◌≤◌, ◌==◌, ◌||◌, Bool, false, List, [], ◌∷◌, ◌++◌, append-nil, eqb, length, map, get_or, ap}
use Rattle.std.proofs.Common.{sym, ◌∙◌, subst, arith}
use Rattle.std.specs.Ordering.{nat_cmp}
use Rattle.std.specs.Cmp.Lexicographic.{slice_cmp}
use Rattle.std.specs.List.{IsDistinct, list_any}
use Rattle.std.specs.List.Sorted.{IsStrictlySortedBy}
use Rattle.std.proofs.lemmas.List.{nil_from_length}
use Rattle.wu_base.specs.declared.addresses.Range.{Range}
use Rattle.wu_base.specs.declared.addresses.TermList.{TermList}
use Rattle.wu_base.proofs.EachLemmas.{each-append}
use Rattle.wu_part.specs.Buildings.{Building}
use Rattle.wu_part.specs.declared.histories.History.{History}
use Rattle.wu_job.specs.Jobs.{JobPart, JobState, StandWithin, highest, list_for, lowest}
use Rattle.wu_job.specs.Keeping.{AreMarks, AreWritable, HasLists, IsFrom, IsNewCut, IsNext, IsSound, addresses_in, state_of}
use Rattle.wu_job.specs.Live.{first_from, ranges_alone}
use Rattle.wu_job.specs.Sources.{parts_of, terms_from}
use Rattle.wu_job.specs.declared.jobs.Job.TheInside as inside
use Rattle.wu_job.specs.declared.live.Cut.{Cut}
use Rattle.wu_job.specs.declared.sources.Places.{Places}
use Rattle.wu_job.proofs.Marking.{addresses_more, marks_more}
use Rattle.wu_job.proofs.Sound.{writable_more}
use Rattle.wu_job.proofs.Whole.{passed_of_sources, terms_at_sources}

module _ (i : inside.Inside) (inv : IsSound i) (job : JobState) (is : state_of i ≡ job) (term : List ℕ) (after : Places) (cut : Cut)
    (next : IsNext job term after) (new : IsNewCut job cut) where
  abbrev live : List Range
  live = ranges_alone i.live.items

  abbrev parts : List JobPart
  parts = parts_of i.left i.right

  abbrev kept : List ℕ
  kept = cut.addresses.items

  abbrev more : List TermList
  more = list_for term kept

  abbrev later : List (List ℕ)
  later = terms_from i.left i.right after

  its_next : IsNext (state_of i) term after
  its_next = subst (λ (s : JobState). IsNext s term after) (sym is) next

  its_cut : IsNewCut (state_of i) cut
  its_cut = subst (λ (s : JobState). IsNewCut s cut) (sym is) new

  first : terms_from i.left i.right i.places ≡ term ∷ later
  first = its_next.left ∙ ap (λ (ts : List (List ℕ)). term ∷ ts) (terms_at_sources i.left i.right after)

  has : HasLists live parts i.made.lists i.done
  has = inv.going (omega (arith, inv.units, ap (λ (ts : List (List ℕ)). length ts) first))

  writable : AreWritable live (i.made.lists ++ more) later
  writable =
      writable_more live i.made.lists term kept (terms_from i.left i.right i.places) later inv.writable first its_next.bounded.0
      its_next.bounded.1 its_cut.ascend its_cut.live its_cut.new

  -- the builder has the list too
  pub has_put : (made : List TermList) (done : Building) → done ≡ record i.done { lists = i.done.lists ++ more }
      → made ≡ i.made.lists ++ more → HasLists live parts made done
  has_put made done d m =
      let low = sym (ap (λ (b : Building). b.low) d) in
      record {
        added = ap (λ (b : Building). b.lists) d ∙ ap (λ (ls : List TermList). ls ++ more) has.added ∙ sym m;
        low = subst (IsFrom live parts) low has.low;
        least = subst (λ (address : ℕ). address ≡ first_from live (lowest parts)) low has.least;
      }

  -- all that holds of the fields holds again
  pub sound_put : (marks : List Bool) (made : History) (done : Building) (units : ℕ) → length marks ≡ length i.marks
      → ((k : ℕ) → get_or marks k false ≡ (list_any (λ place. place == k) cut.places.items || get_or i.marks k false))
      → made.lists ≡ i.made.lists ++ more → units ≡ i.units_left - 1 → (0 < units → HasLists live parts made.lists done)
      → IsSound (record i { places = after; marks = marks; done = done; made = made; units_left = units })
  sound_put marks made done units long marked m n going =
      let lists = sym m in
      record {
        sources = inv.sources;
        passed = passed_of_sources i.left i.right after its_next.passed;
        live = inv.live;
        marks =
            subst (AreMarks live marks) lists
            (marks_more live i.marks marks i.made.lists term kept inv.marks its_cut.live long
            (λ k.
            subst (λ (ps : List ℕ). get_or marks k false ≡ (list_any (λ place. place == k) ps || get_or i.marks k false)) its_cut.places
            (marked k)));
        writable = subst (λ (ls : List TermList). AreWritable live ls later) lists writable;
        units = omega (arith, n, inv.units, ap (λ (ts : List (List ℕ)). length ts) first);
        generation = inv.generation;
        within =
            subst (λ (ls : List TermList). StandWithin parts (addresses_in ls)) lists
            (subst (StandWithin parts) (sym (addresses_more i.made.lists term kept))
            (each-append (λ address. (lowest parts ≤ address) × (address ≤ highest parts)) (addresses_in i.made.lists) kept inv.within
            its_cut.within));
        going = going;
      }

  -- ---- the builder of the last term

  added : (done : Building) → done ≡ record i.done { lists = i.done.lists ++ more } → i.made.lists ++ more ≡ done.lists
  added done d = sym (ap (λ (b : Building). b.lists) d ∙ ap (λ (ls : List TermList). ls ++ more) has.added)

  pub ascending_put : (done : Building) → done ≡ record i.done { lists = i.done.lists ++ more } → i.units_left ≤ 1
      → IsStrictlySortedBy (slice_cmp nat_cmp) (map (λ list. list.term) done.lists)
  ascending_put done d n =
      let last : later ≡ [] =
      nil_from_length later (omega (arith, n, inv.units, ap (λ (ts : List (List ℕ)). length ts) first)) in
      let names : List TermList → List (List ℕ) = map (λ list. list.term) in
      subst (λ (ls : List TermList). IsStrictlySortedBy (slice_cmp nat_cmp) (map (λ (list : TermList). list.term) ls)) (added done d)
      (subst (IsStrictlySortedBy (slice_cmp nat_cmp)) (append-nil (names (i.made.lists ++ more)))
      (subst (λ (ts : List (List ℕ)). IsStrictlySortedBy (slice_cmp nat_cmp) (names (i.made.lists ++ more) ++ ts)) last writable.ascending))

  pub distinct_put : (done : Building) → done ≡ record i.done { lists = i.done.lists ++ more } → IsDistinct eqb (addresses_in done.lists)
  distinct_put done d = subst (λ (ls : List TermList). IsDistinct eqb (addresses_in ls)) (added done d) writable.distinct

  -- no address stands in two of the lists that were made
  pub distinct_made : (made : History) → made.lists ≡ i.made.lists ++ more → IsDistinct eqb (addresses_in made.lists)
  distinct_made made m = subst (λ (ls : List TermList). IsDistinct eqb (addresses_in ls)) (sym m) writable.distinct
