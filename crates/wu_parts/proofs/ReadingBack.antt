-- The directory of a part that was just written, read back from its bytes.
use Rattle.std.proofs.Common.{◌≡◌, ℕ, ◌≤◌, List, ◌++◌, length, length-append, take, drop, codes, ap, sym, subst, ◌∙◌, arith}
use Rattle.std.specs.Int.{w64, to_be_bytes, from_be_bytes}
use Rattle.std.proofs.lemmas.List.{drop_at, take_at}
use Rattle.std.proofs.lemmas.Nat.{from_be_bytes-to_be_bytes_8}
use Rattle.wu_part.specs.Directories.{PartDirectory, SpellsDirectory}
use Rattle.wu_part.specs.Headers.{SpellsHeader}
use Rattle.wu_part.specs.Parts.{IsDirectoryOf}
use Rattle.wu_part.specs.declared.headers.TheConstants.{HEADER_LEN}

one_length : (n m : ℕ) (header : List ℕ) → SpellsHeader n header → SpellsHeader m header → n ≡ m
one_length n m header s t =
    let same : codes "WUMPUSP1" ++ to_be_bytes w64 n ≡ codes "WUMPUSP1" ++ to_be_bytes w64 m = sym s.spelled ∙ t.spelled in
    let last : to_be_bytes w64 n ≡ to_be_bytes w64 m = ap (λ (x : List ℕ). drop 8 x) same in
    sym (from_be_bytes-to_be_bytes_8 n s.fits)
    ∙ ap (λ (x : List ℕ). from_be_bytes w64 x) last
    ∙ from_be_bytes-to_be_bytes_8 m t.fits

module _ (bytes : List ℕ) (directory : PartDirectory) (i : IsDirectoryOf directory bytes) where
  header_long : length i.header ≡ HEADER_LEN
  header_long = ap length i.header_spelled.spelled

  pub long_enough : HEADER_LEN ≤ length bytes
  long_enough = omega (arith, header_long, ap length i.whole, length-append i.header (i.code ++ i.blocks))

  front_is : take HEADER_LEN bytes ≡ i.header
  front_is = ap (take HEADER_LEN) i.whole ∙ take_at i.header (i.code ++ i.blocks) HEADER_LEN header_long

  back_is : drop HEADER_LEN bytes ≡ i.code ++ i.blocks
  back_is = ap (drop HEADER_LEN) i.whole ∙ drop_at i.header (i.code ++ i.blocks) HEADER_LEN header_long

  -- the front is a header
  pub front_spelled : (header : List ℕ) → header ≡ take HEADER_LEN bytes → SpellsHeader (length i.code) header
  front_spelled header e = subst (SpellsHeader (length i.code)) (sym (e ∙ front_is)) i.header_spelled

  module _ (header rest : List ℕ) (n : ℕ) (front : header ≡ take HEADER_LEN bytes) (back : rest ≡ drop HEADER_LEN bytes)
      (s : SpellsHeader n header) where
    length_is : n ≡ length i.code
    length_is = one_length n (length i.code) header s (front_spelled header front)

    pub code_within : n ≤ length rest
    code_within = omega (arith, length_is, ap length back, ap length back_is, length-append i.code i.blocks)

    pub code_is : take n rest ≡ i.code
    code_is = ap (take n) (back ∙ back_is) ∙ take_at i.code i.blocks n (sym length_is)

    -- the bytes after it spell the directory
    pub code_spelled : SpellsDirectory directory (take n rest)
    code_spelled = subst (SpellsDirectory directory) (sym code_is) i.code_spelled

    -- and a directory that they spell is the blob's
    pub directory_is : (read : PartDirectory) → SpellsDirectory read (take n rest) → read.size ≡ length bytes → IsDirectoryOf read bytes
    directory_is read t size = record {
      size = sym size;
      header = i.header;
      code = i.code;
      blocks = i.blocks;
      whole = i.whole;
      header_spelled = i.header_spelled;
      code_spelled = subst (SpellsDirectory read) code_is t;
    }
