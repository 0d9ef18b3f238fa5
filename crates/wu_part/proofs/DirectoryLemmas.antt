-- Lemmas on the spelling of a directory.
use Rattle.std.proofs.Common.{◌≡◌, ℕ, ◌+◌, ◌-◌, ◌<◌, List, [], ◌∷◌, length, refl, sym, subst, ◌∙◌, true, ◌==◌, arith}
use Rattle.std.specs.List.{AllByRecursion, list_any}
use Rattle.wu_part.specs.declared.entries.TermEntry.{TermEntry}
use Rattle.wu_part.specs.declared.headers.TheConstants.{HEADER_LEN}
use Rattle.wu_part.specs.declared.reading.Checked.{Checked}
use Rattle.wu_part.specs.declared.reading.Head.{Head}
use Rattle.wu_part.specs.Directories.{PartDirectory, SpellsDirectory, IsEntry, StandFrom, StartsWithNumbers, SpellsEntries, all_blocks}
use Rattle.wu_part.specs.Entries.{StartsWithHead, IsNextEntry, HasAnEntry, AreEntries, IsWhole}
use Rattle.wu_part.specs.Marks.{IsChecked}
use Rattle.wu_part.proofs.EntryReadingLemmas.{next_of_entries}
use Rattle.wu_part.proofs.ReadingLemmas.{after_first, after_three}
use Rattle.wu_part.proofs.TermLemmas.{any_block}

-- the directory has the numbers of the head
pub record HasHead (directory : PartDirectory) (head : Head) : Type 0 where
  pub generation : directory.generation ≡ head.generation
  pub low : directory.low ≡ head.low
  pub high : directory.high ≡ head.high
  pub stored : directory.stored ≡ head.stored

pub head_of_directory : (d : PartDirectory) (bytes : List ℕ) (head : Head) (entries : List ℕ) → SpellsDirectory d bytes
    → StartsWithHead bytes head entries
    → HasHead d head × (length d.terms ≡ head.terms) × (s_entries : List ℕ) × (s_entries ≡ entries) × SpellsEntries d.low d.terms s_entries
head_of_directory d bytes head entries s h =
    let n = h.numbers in
    let m = s.numbers in
    let three = after_three bytes n.2.2.0 s.entries head.generation head.low (head.high - head.low) d.generation d.low (d.high - d.low)
    (d.stored ∷ length d.terms ∷ []) (n.0, n.1, (n.2.0, n.2.1, (n.2.2.0, n.2.2.1, refl))) m in
    let stored = after_first n.2.2.0 head.stored d.stored n.2.2.2.0 s.entries (length d.terms ∷ []) n.2.2.2.1 three.3 in
    let terms = after_first n.2.2.2.0 head.terms (length d.terms) n.2.2.2.2.0 s.entries [] n.2.2.2.2.1 stored.1 in
    let low : d.low ≡ head.low = three.1 in
    let span : d.high - d.low ≡ head.high - head.low = three.2 in
    let its = s.holds.span in
    let mine = h.span in (
      record { generation = three.0; low = low; high = omega arith; stored = stored.0 },
      terms.0,
      s.entries,
      sym terms.1 ∙ n.2.2.2.2.2,
      s.terms,
    )

-- the directory's entries are those that the head announces
pub entries_of_directory : (d : PartDirectory) (bytes : List ℕ) (head : Head) (entries : List ℕ) (place size : ℕ) → SpellsDirectory d bytes
    → StartsWithHead bytes head entries → place ≡ HEADER_LEN + length bytes → d.size ≡ size
    → AreEntries head size head.terms entries place d.terms
entries_of_directory d bytes head entries place size s h e f =
    let is = head_of_directory d bytes head entries s h in
    let its = s.holds.entries in
    record {
      number = is.1;
      spelled = subst (λ x. SpellsEntries x d.terms entries) is.0.low (subst (λ x. SpellsEntries d.low d.terms x) is.3 is.4);
      hold = subst (λ x. AllByRecursion (IsEntry x head.high) d.terms) is.0.low
          (subst (λ x. AllByRecursion (IsEntry d.low x) d.terms) is.0.high its);
      places = subst (λ x. StandFrom x size (all_blocks d.terms)) (sym e)
          (subst (λ x. StandFrom (HEADER_LEN + length bytes) x (all_blocks d.terms)) f s.holds.places);
    }

-- the head and the entries make a directory
pub directory_of_entries : (bytes : List ℕ) (head : Head) (entries : List ℕ) (place size : ℕ) (terms : List TermEntry)
    → StartsWithHead bytes head entries → place ≡ HEADER_LEN + length bytes → AreEntries head size head.terms entries place terms
    → IsWhole head terms
    → SpellsDirectory
    (record { generation = head.generation; low = head.low; high = head.high; stored = head.stored; size = size; terms = terms }) bytes
directory_of_entries bytes head entries place size terms h e a w = record {
  holds = record {
    generation = h.generation;
    span = h.span;
    below = h.below;
    some = h.some;
    room = h.room;
    sum = w.sum;
    ascending = w.ascending;
    entries = a.hold;
    begin = any_block (λ block. block.first == head.low) terms ∙ w.begin;
    end = any_block (λ block. block.last == head.high) terms ∙ w.end;
    places = subst (λ x. StandFrom x size (all_blocks terms)) e a.places;
  };
  entries = entries;
  numbers = subst (λ x. StartsWithNumbers bytes
      (head.generation ∷ head.low ∷ (head.high - head.low) ∷ head.stored ∷ x ∷ []) entries) (sym a.number) h.numbers;
  terms = a.spelled;
}

-- a directory's entries keep what the head says
pub whole_of_directory : (d : PartDirectory) (bytes : List ℕ) (head : Head) (entries : List ℕ) (terms : List TermEntry)
    → SpellsDirectory d bytes
    → StartsWithHead bytes head entries → d.terms ≡ terms → IsWhole head terms
whole_of_directory d bytes head entries terms s h same =
    let is = head_of_directory d bytes head entries s h in
    subst (λ (x : List TermEntry). IsWhole head x) same (record {
      ascending = s.holds.ascending;
      sum = s.holds.sum ∙ is.0.stored;
      begin = subst (λ x. list_any (λ entry. list_any (λ block. block.first == x) entry.blocks) d.terms ≡ true) is.0.low
          (sym (any_block (λ block. block.first == d.low) d.terms) ∙ s.holds.begin);
      end = subst (λ x. list_any (λ entry. list_any (λ block. block.last == x) entry.blocks) d.terms ≡ true) is.0.high
          (sym (any_block (λ block. block.last == d.high) d.terms) ∙ s.holds.end);
    })

has_terms : (head : Head) (terms : List TermEntry) → IsWhole head terms → 0 < head.stored → 0 < length terms
has_terms head [] w some = absurd (let sum = w.sum in omega arith)
has_terms head (entry ∷ later) w some = omega arith

-- a directory has an entry
pub entry_of_checked : (size : ℕ) (bytes : List ℕ) (checked : Checked) → IsChecked size bytes checked → HasAnEntry size bytes
entry_of_checked size bytes checked k =
    let some = has_terms checked.head k.are.terms k.are.whole k.head.some in
    let number = k.are.are.number in
    let many : 0 < checked.head.terms = omega arith in
    let next = next_of_entries checked.head size checked.head.terms k.entries checked.place k.are.terms k.are.are many in
    record {
      head = checked.head;
      entries = k.entries;
      numbers = k.head;
      first = record {
        some = many;
        entry = next.0;
        rest = next.1;
        end = next.2;
        is = subst (λ x. IsNextEntry checked.head size k.entries x next.0 next.1 next.2) k.place next.3;
      };
    }
