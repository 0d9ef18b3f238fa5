-- The directory in the bytes of a part.
use Rattle.std.proofs.Common.{◌≡◌, ℕ, List, ◌++◌, length, drop, ap, sym, ◌∙◌, subst}
use Rattle.std.specs.Prelude.{codes}
use Rattle.std.specs.Int.{w64, to_be_bytes, from_be_bytes}
use Rattle.std.proofs.lemmas.Nat.{from_be_bytes-to_be_bytes_8}
use Rattle.wu_base.specs.declared.addresses.PartRec.{PartRec}
use Rattle.wu_part.specs.Headers.{SpellsHeader}
use Rattle.wu_part.specs.Directories.{PartDirectory, SpellsDirectory}
use Rattle.wu_part.specs.Parts.{IsDirectoryOf, IsRecorded}
use Rattle.wu_part.proofs.LawLemmas.{one_directory}
use Rattle.wu_part.proofs.ReadingLemmas.{same_front}

-- after a header that tells their length the bytes have these of a directory
abbrev pub IsCodeOf : List ℕ → List ℕ → Type 0
IsCodeOf bytes code = (header blocks : List ℕ) × (bytes ≡ header ++ (code ++ blocks)) × SpellsHeader (length code) header

pub directory_of : (bytes code : List ℕ) (directory : PartDirectory) → IsCodeOf bytes code → SpellsDirectory directory code
    → directory.size ≡ length bytes → IsDirectoryOf directory bytes
directory_of bytes code directory is spelled size = record {
  size = sym size;
  header = is.0;
  code = code;
  blocks = is.1;
  whole = is.2;
  header_spelled = is.3;
  code_spelled = spelled;
}

header_is : (n m : ℕ) (header other : List ℕ) → SpellsHeader n header → SpellsHeader m other → header ≡ other → n ≡ m
header_is n m header other s t e =
    let bytes : codes "WUMPUSP1" ++ to_be_bytes w64 n ≡ codes "WUMPUSP1" ++ to_be_bytes w64 m = sym s.spelled ∙ (e ∙ t.spelled) in
    let last : to_be_bytes w64 n ≡ to_be_bytes w64 m = ap (λ x. drop 8 x) bytes in
    sym (from_be_bytes-to_be_bytes_8 n s.fits) ∙ (ap (λ x. from_be_bytes w64 x) last ∙ from_be_bytes-to_be_bytes_8 m t.fits)

one_code : (bytes code other : List ℕ) → IsCodeOf bytes code → IsCodeOf bytes other → code ≡ other
one_code bytes code other s t =
    let long : length s.0 ≡ length t.0 = ap length s.3.spelled ∙ sym (ap length t.3.spelled) in
    let front = same_front s.0 t.0 (code ++ s.1) (other ++ t.1) long (sym s.2 ∙ t.2) in
    let count = header_is (length code) (length other) s.0 t.0 s.3 t.3 front.0 in
    (same_front code other s.1 t.1 count front.1).0

pub none_read : (bytes code : List ℕ) → IsCodeOf bytes code
    → ((directory : PartDirectory) → SpellsDirectory directory code → directory.size ≡ length bytes → ⊥)
    → (directory : PartDirectory) → IsDirectoryOf directory bytes → ⊥
none_read bytes code is none directory of =
    let its : of.code ≡ code = one_code bytes of.code code (of.header, of.blocks, of.whole, of.header_spelled) is in
    none directory (subst (SpellsDirectory directory) its of.code_spelled) (sym of.size)

pub other_told : (bytes : List ℕ) (part : PartRec) (found : PartDirectory) → IsDirectoryOf found bytes → (IsRecorded part found → ⊥)
    → (directory : PartDirectory) → IsDirectoryOf directory bytes → IsRecorded part directory → ⊥
other_told bytes part found is lacks directory of told = lacks (subst (IsRecorded part) (one_directory directory found bytes of is) told)
