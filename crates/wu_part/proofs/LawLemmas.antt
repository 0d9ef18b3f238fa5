-- Lemmas on spellings: one for each directory and part, and one of them for each spelling.
use Rattle.std.proofs.Common.{◌≡◌, ℕ, ◌+◌, ◌-◌, List, [], ◌∷◌, ◌++◌, length, take, drop, refl, ap, sym, subst, ◌∙◌}
use Rattle.std.specs.Prelude.{codes}
use Rattle.std.specs.Int.{w64, to_be_bytes, from_be_bytes}
use Rattle.std.specs.List.{AllZip, flat_map}
use Rattle.std.proofs.lemmas.List.{take-append-drop}
use Rattle.std.proofs.lemmas.Nat.{from_be_bytes-to_be_bytes_8}
use Rattle.wu_base.specs.declared.addresses.TermList.{TermList}
use Rattle.wu_vbyte.specs.declared.blocks.TheConstants.{BLOCK_LEN}
use Rattle.wu_vbyte.specs.Numbers.{StartsWithNumber}
use Rattle.wu_vbyte.proofs.NumberLemmas.{code_of_value}
use Rattle.wu_vbyte.proofs.BlockLemmas.{block_same}
use Rattle.wu_part.specs.declared.entries.BlockEntry.{BlockEntry}
use Rattle.wu_part.specs.declared.entries.TermEntry.{TermEntry}
use Rattle.wu_part.specs.declared.headers.TheConstants.{HEADER_LEN}
use Rattle.wu_part.specs.declared.reading.Head.{Head}
use Rattle.wu_part.specs.Headers.{SpellsHeader}
use Rattle.wu_part.specs.Directories.{PartDirectory, SpellsDirectory, StartsWithNumbers, StartsWithEntry, SpellsEntries, block_numbers}
use Rattle.wu_part.specs.Parts.{HoldBlocks, HoldsList, IsDirectoryOf, SpellsPart}
use Rattle.wu_part.specs.Entries.{StartsWithHead}
use Rattle.wu_part.proofs.EntryReadingLemmas.{same_entries}
use Rattle.wu_part.proofs.ReadingLemmas.{same_front}
use Rattle.wu_part.proofs.DirectoryLemmas.{head_of_directory, entries_of_directory}

-- ---- a directory's spelling

pub number_code : (a b : List ℕ) (n : ℕ) (rest left : List ℕ) → StartsWithNumber a n rest → StartsWithNumber b n left → rest ≡ left → a ≡ b
number_code a b n rest left s t e =
    let one = code_of_value s.0 t.0 s.1.form t.1.form (s.1.value ∙ sym t.1.value) in
    s.2 ∙ (ap (λ x. x ++ rest) one ∙ (ap (λ x. t.0 ++ x) e ∙ sym t.2))

pub numbers_code : (a b ns rest left : List ℕ) → StartsWithNumbers a ns rest → StartsWithNumbers b ns left → rest ≡ left → a ≡ b
numbers_code a b [] rest left s t e = s ∙ (e ∙ sym t)
numbers_code a b (n ∷ ns) rest left s t e = number_code a b n s.0 t.0 s.1 t.1 (numbers_code s.0 t.0 ns rest left s.2 t.2 e)

entry_code : (low : ℕ) (a b : List ℕ) (entry : TermEntry) (rest left : List ℕ) → StartsWithEntry low a entry rest
    → StartsWithEntry low b entry left
    → rest ≡ left → a ≡ b
entry_code low a b entry rest left s t e =
    number_code a b (length entry.term) (entry.term ++ s.0) (entry.term ++ t.0) s.1 t.1
    (ap (λ x. entry.term ++ x) (numbers_code s.0 t.0 (entry.count ∷ flat_map (block_numbers low) entry.blocks) rest left s.2 t.2 e))

entries_code : (low : ℕ) (terms : List TermEntry) (a b : List ℕ) → SpellsEntries low terms a → SpellsEntries low terms b → a ≡ b
entries_code low [] a b s t = s ∙ sym t
entries_code low (entry ∷ later) a b s t = entry_code low a b entry s.0 t.0 s.1 t.1 (entries_code low later s.0 t.0 s.2 t.2)

pub directory_code : (d : PartDirectory) (code other : List ℕ) → SpellsDirectory d code → SpellsDirectory d other → code ≡ other
directory_code d code other s t =
    numbers_code code other (d.generation ∷ d.low ∷ (d.high - d.low) ∷ d.stored ∷ length d.terms ∷ []) s.entries t.entries s.numbers
    t.numbers
    (entries_code d.low d.terms s.entries t.entries s.terms t.terms)

directory_is : (d e : PartDirectory) → d.generation ≡ e.generation → d.low ≡ e.low → d.high ≡ e.high → d.stored ≡ e.stored → d.size ≡ e.size
    → d.terms ≡ e.terms → d ≡ e
directory_is d e generation low high stored size terms =
    let make : ℕ → ℕ → ℕ → ℕ → ℕ → List TermEntry → PartDirectory =
    λ g l h s n t. record { generation = g; low = l; high = h; stored = s; size = n; terms = t } in
    ap (λ x. make x d.low d.high d.stored d.size d.terms) generation ∙ (ap (λ x. make e.generation x d.high d.stored d.size d.terms) low
    ∙ (ap (λ x. make e.generation e.low x d.stored d.size d.terms) high ∙ (ap (λ x. make e.generation e.low e.high x d.size d.terms) stored
    ∙ (ap (λ x. make e.generation e.low e.high e.stored x d.terms) size ∙ ap
    (λ x. make e.generation e.low e.high e.stored e.size x) terms))))

head_of : PartDirectory → Head
head_of d = record { generation = d.generation; low = d.low; high = d.high; stored = d.stored; terms = length d.terms }

starts_with_head : (d : PartDirectory) (code : List ℕ) (s : SpellsDirectory d code) → StartsWithHead code (head_of d) s.entries
unfolding head_of
starts_with_head d code s = record {
  numbers = s.numbers;
  generation = s.holds.generation;
  span = s.holds.span;
  below = s.holds.below;
  some = s.holds.some;
  room = s.holds.room;
}

pub same_directory : (d e : PartDirectory) (code : List ℕ) → SpellsDirectory d code → SpellsDirectory e code → d.size ≡ e.size → d ≡ e
unfolding head_of
same_directory d e code s t size =
    let head = starts_with_head d code s in
    let its = head_of_directory e code (head_of d) s.entries t head in
    let mine = entries_of_directory d code (head_of d) s.entries (HEADER_LEN + length code) e.size s head refl size in
    let others = entries_of_directory e code (head_of d) s.entries (HEADER_LEN + length code) e.size t head refl refl in
    directory_is d e (sym its.0.generation) (sym its.0.low) (sym its.0.high) (sym its.0.stored) size
    (same_entries (head_of d) e.size (length d.terms) s.entries (HEADER_LEN + length code) d.terms e.terms mine others)

-- ---- a part's lists

header_is : (n m : ℕ) (header other : List ℕ) → SpellsHeader n header → SpellsHeader m other → header ≡ other → n ≡ m
header_is n m header other s t e =
    let bytes : codes "WUMPUSP1" ++ to_be_bytes w64 n ≡ codes "WUMPUSP1" ++ to_be_bytes w64 m = sym s.spelled ∙ (e ∙ t.spelled) in
    let last : to_be_bytes w64 n ≡ to_be_bytes w64 m = ap (λ x. drop 8 x) bytes in
    sym (from_be_bytes-to_be_bytes_8 n s.fits) ∙ (ap (λ x. from_be_bytes w64 x) last ∙ from_be_bytes-to_be_bytes_8 m t.fits)

-- a blob has one directory at most
pub one_directory : (d e : PartDirectory) (blob : List ℕ) → IsDirectoryOf d blob → IsDirectoryOf e blob → d ≡ e
one_directory d e blob s t =
    let long : length s.header ≡ length t.header = ap length s.header_spelled.spelled ∙ sym (ap length t.header_spelled.spelled) in
    let front = same_front s.header t.header (s.code ++ s.blocks) (t.code ++ t.blocks) long (sym s.whole ∙ t.whole) in
    let count = header_is (length s.code) (length t.code) s.header t.header s.header_spelled t.header_spelled front.0 in
    let code = same_front s.code t.code s.blocks t.blocks count front.1 in
    same_directory d e s.code s.code_spelled (subst (λ (x : List ℕ). SpellsDirectory e x) (sym code.0) t.code_spelled) (sym s.size ∙ t.size)

same_addresses : (low : ℕ) (blob : List ℕ) (blocks : List BlockEntry) (addresses others : List ℕ) → HoldBlocks low blob blocks addresses
    → HoldBlocks low blob blocks others → addresses ≡ others
same_addresses low blob [] addresses others a b = a ∙ sym b
same_addresses low blob (block ∷ later) addresses others a b =
    sym (take-append-drop BLOCK_LEN addresses)
    ∙ (ap (λ x. x ++ drop BLOCK_LEN addresses) (block_same low (take BLOCK_LEN addresses) (take BLOCK_LEN others) _ a.0.spelled b.0.spelled)
    ∙ (ap (λ x. take BLOCK_LEN others ++ x) (same_addresses low blob later (drop BLOCK_LEN addresses) (drop BLOCK_LEN others) a.1 b.1)
    ∙ take-append-drop BLOCK_LEN others))

list_is : (a b : TermList) → a.term ≡ b.term → a.at ≡ b.at → a ≡ b
list_is a b term addresses =
    let make : List ℕ → List ℕ → TermList = λ t l. record { term = t; at = l } in
    ap (λ x. make x a.at) term ∙ ap (λ x. make b.term x) addresses

pub same_lists : (low : ℕ) (blob : List ℕ) (terms : List TermEntry) (lists others : List TermList) → AllZip (HoldsList low blob) terms lists
    → AllZip (HoldsList low blob) terms others → lists ≡ others
same_lists low blob [] [] [] a b = refl
same_lists low blob [] [] (other ∷ others) a b = absurd b
same_lists low blob [] (list ∷ lists) others a b = absurd a
same_lists low blob (entry ∷ terms) [] others a b = absurd a
same_lists low blob (entry ∷ terms) (list ∷ lists) [] a b = absurd b
same_lists low blob (entry ∷ terms) (list ∷ lists) (other ∷ others) a b =
    ap (λ (x : TermList). x ∷ lists)
    (list_is list other (sym a.0.term ∙ b.0.term) (same_addresses low blob entry.blocks list.at other.at a.0.blocks b.0.blocks))
    ∙ ap (λ (x : List TermList). other ∷ x) (same_lists low blob terms lists others a.1 b.1)

pub same_part : (d e : PartDirectory) (lists others : List TermList) (blob : List ℕ) → SpellsPart d lists blob → SpellsPart e others blob
    → (d ≡ e) × (lists ≡ others)
same_part d e lists others blob s t =
    let same = one_directory d e blob s.own t.own in
    let its = subst (λ (x : PartDirectory). AllZip (HoldsList x.low blob) x.terms others) (sym same) t.lists_held in
    (same, same_lists d.low blob d.terms lists others s.lists_held its)
