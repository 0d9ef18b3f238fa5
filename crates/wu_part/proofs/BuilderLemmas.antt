-- Lemmas on what a builder has written.
use Rattle.std.proofs.Common.{◌≡◌, ℕ, ◌+◌, ◌<◌, List, [], ◌∷◌, ◌++◌, length, sym, subst, ◌∙◌, append_assoc, append-nil, arith}
use Rattle.std.specs.List.{AllZip}
use Rattle.wu_base.specs.declared.addresses.TermList.{TermList}
use Rattle.wu_base.specs.declared.limits.TheConstants.{ADDRESSES_MAX}
use Rattle.wu_part.specs.declared.entries.TermEntry.{TermEntry}
use Rattle.wu_part.specs.declared.reading.Head.{Head}
use Rattle.wu_part.specs.declared.totals.Totals.{Totals}
use Rattle.wu_part.specs.Built.{AreWritten}
use Rattle.wu_part.specs.Directories.{StandFrom, SpellsEntries, all_blocks}
use Rattle.wu_part.specs.Entries.{AreEntries}
use Rattle.wu_part.specs.Parts.{HoldsList}
use Rattle.wu_part.specs.Totals.{AreTotals}
use Rattle.wu_part.specs.Writing.{AppendsList, AppendsLists}
use Rattle.wu_part.proofs.PartLemmas.{held_number, high_below}
use Rattle.wu_part.proofs.TotalsLemmas.{some_or_none}
use Rattle.wu_part.proofs.WritingLemmas.{lists_first, lists_none}

pub written_more : (low : ℕ) (lists : List TermList) (list : TermList) (entries blocks now middle : List ℕ)
    → AreWritten low lists entries blocks → ((front : List ℕ) → AppendsList low list entries now blocks middle front)
    → AreWritten low (lists ++ list ∷ []) now middle
written_more low lists list entries blocks now middle w a = λ more new after front m.
    subst (λ ls. AppendsLists low ls [] new [] after front) (sym (append_assoc lists (list ∷ []) more))
    (w (list ∷ more) new after front (lists_first low list more entries now new blocks middle after front (a front) m))

pub written_all : (low : ℕ) (lists : List TermList) (entries blocks : List ℕ) → AreWritten low lists entries blocks
    → (front : List ℕ) → AppendsLists low lists [] entries [] blocks front
written_all low lists entries blocks w front =
    subst (λ ls. AppendsLists low ls [] entries [] blocks front) (append-nil lists)
    (w [] entries blocks front (lists_none low entries blocks front))

-- the highest address is below the limit, and not below the lowest that may come
pub high_bound : (lists : List TermList) (totals : Totals) → AreTotals lists totals → totals.high < ADDRESSES_MAX
high_bound lists totals t =
    some_or_none lists (totals.high < ADDRESSES_MAX)
    (λ some. (high_below totals.low totals.high lists t.each t.begin (t.last some)).1)
    (λ none. omega (arith, t.none none))

abbrev pub head_with : Totals → Head
head_with totals = record { generation = 0; low = totals.low; high = totals.high; stored = totals.stored; terms = totals.count }

-- The bytes are those of entries that hold the lists.
pub record HoldLists (totals : Totals) (lists : List TermList) (entries blocks : List ℕ) : Type 0 where
  pub terms : List TermEntry
  pub are : AreEntries (head_with totals) (length blocks) totals.count entries 0 terms
  pub held : AllZip (HoldsList totals.low blocks) terms lists

pub held_lists : (lists : List TermList) (totals : Totals) (entries blocks : List ℕ) → AreTotals lists totals
    → AreWritten totals.low lists entries blocks → HoldLists totals lists entries blocks
held_lists lists totals entries blocks t w =
    let a = written_all totals.low lists entries blocks w [] in
    let from : 0 ≡ length {A = ℕ} [] + length {A = ℕ} [] = omega arith in
    let to : length {A = ℕ} [] + length blocks ≡ length blocks = omega arith in
    record {
      terms = a.terms;
      are = record {
        number = held_number totals.low blocks a.terms lists a.held ∙ sym t.count;
        spelled = subst (SpellsEntries totals.low a.terms) (sym a.written) a.spelled;
        hold = a.hold totals.high t.greatest;
        places =
            subst (λ n. StandFrom n (length blocks) (all_blocks a.terms)) (sym from)
            (subst (λ n. StandFrom (length {A = ℕ} [] + length {A = ℕ} []) n (all_blocks a.terms)) to a.places);
      };
      held = a.held;
    }
