-- What is counted of the addresses in parts, and then of those in memory.
use Rattle.std.proofs.Common.{◌≡◌, ℕ, ◌-◌, ◌^◌, ◌≤◌, List, [], ◌++◌, true, arith}
use Rattle.std.specs.List.{AllByRecursion}
use Rattle.std.specs.List.Sorted.{IsStrictlyIncreasing}
use Rattle.wu_base.specs.declared.limits.TheConstants.{ADDRESSES_MAX}
use Rattle.wu_base.specs.declared.addresses.Range.{Range}
use Rattle.wu_base.proofs.EachLemmas.{each-append}
use Rattle.wu_layout.specs.Postings.{is_live}
use Rattle.wu_lists.specs.declared.tallies.Tally.{Tally}
use Rattle.wu_lists.specs.Ascending.{AscendBetween, AreInOrder}
use Rattle.wu_lists.specs.Gaining.{tally_on}
use Rattle.wu_lists.specs.Tallying.{Counts, tally_of}
use Rattle.wu_lists.proofs.Ascending.{addresses_increase, ascend-higher}
use Rattle.wu_lists.proofs.Tallying.{ascend-front, counts}

-- the parts' addresses were counted from none on, and then memory's
module _ (frames : List Range) (end : ℕ) (found more : List ℕ) (none middle all : Tally) (both : AscendBetween 0 end (found ++ more))
    (bounded : end ≤ ADDRESSES_MAX) (order : AreInOrder 0 (2 ^ 64 - 1) frames) (is : none ≡ tally_of frames [])
    (gained : middle ≡ tally_on frames none found) (counted : Counts frames more middle all) where
  ascend_counted : AscendBetween 0 (2 ^ 64 - 1) (found ++ more)
  ascend_counted = ascend-higher 0 end (2 ^ 64 - 1) (found ++ more) (omega (arith, bounded)) both

  pub all_counted : all ≡ tally_of frames (found ++ more)
  all_counted =
      counted found ascend_counted
      (counts frames order found none middle gained [] (ascend-front 0 (2 ^ 64 - 1) found more ascend_counted) is)

  -- they ascend and lie in the frames
  pub some_counted : AllByRecursion (λ address. is_live frames address ≡ true) found
      → AllByRecursion (λ address. is_live frames address ≡ true) more
      → (some : List ℕ) × IsStrictlyIncreasing some × AllByRecursion (λ address. is_live frames address ≡ true) some
      × (all ≡ tally_of frames some)
  some_counted live live_more = (
    found ++ more,
    addresses_increase 0 (2 ^ 64 - 1) (found ++ more) ascend_counted,
    each-append (λ address. is_live frames address ≡ true) found more live live_more,
    all_counted,
  )
