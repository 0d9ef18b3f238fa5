-- A line without an LF is spelled as its fields are written.
use Rattle.std.proofs.Common.{◌≡◌, ◌≢◌, ℕ, Bool, true, false, List, [], ◌∷◌, Option, Some, None, refl, ap, sym, ◌∙◌, cond, eqb, map, ◌⊎◌}
use Rattle.std.proofs.Common.{inl, inr}
use Rattle.std.specs.List.{list_any, slice_split, onto_first, join_with_byte}
use Rattle.std.specs.Option.{option_map}
use Rattle.std.proofs.lemmas.List.Splits.{join_with_byte-slice_split}
use Rattle.std.proofs.lemmas.Bool.{eqb-false}
use Rattle.wu_fields.specs.Fields.{escaped, letter_of, byte_of, unescaped, all_some, fields_of, line_of}
use Rattle.wu_fields.proofs.FieldLemmas.{unescaped-itself}
use Rattle.std.proofs.lemmas.Bool.{or_parts, cases_eq, ne_eqb}

abbrev tabless : List ℕ → Bool
tabless bytes = list_any (λ b. eqb b 9) bytes

abbrev feedless : List ℕ → Bool
feedless bytes = list_any (λ b. eqb b 10) bytes

front : {A : Type 0} (first : A) (rest : Option (List A)) (values : List A) → option_map (λ more. first ∷ more) rest ≡ Some values → (more : List A) × (rest ≡ Some more) × (values ≡ first ∷ more)
front first None values e = cc
front first (Some more) values e = (more, refl, cc)

letter_read : (letter byte : ℕ) (rest field : List ℕ) → byte_of letter ≡ Some byte → letter_of byte ≡ Some letter
    → unescaped (92 ∷ letter ∷ rest) ≡ Some field → ((more : List ℕ) → unescaped rest ≡ Some more → rest ≡ escaped more)
    → 92 ∷ letter ∷ rest ≡ escaped field
letter_read letter byte rest field meant written e on =
    let parts = front byte (unescaped rest) field (rw meant at e) in
    rw (parts.2, written) (ap (λ more. 92 ∷ letter ∷ more) (on parts.0 parts.1))

letter_by_kind : (letter : ℕ) (rest field : List ℕ) → (letter ≡ 92) ⊎ (letter ≢ 92) → (letter ≡ 116) ⊎ (letter ≢ 116)
    → (letter ≡ 110) ⊎ (letter ≢ 110) → unescaped (92 ∷ letter ∷ rest) ≡ Some field
    → ((more : List ℕ) → unescaped rest ≡ Some more → rest ≡ escaped more) → 92 ∷ letter ∷ rest ≡ escaped field
unfolding letter_of byte_of
letter_by_kind letter rest field (inl k) t n e on = letter_read letter 92 rest field (rw k refl) (rw k refl) e on
letter_by_kind letter rest field (inr slash) (inl k) n e on = letter_read letter 9 rest field (rw k refl) (rw k refl) e on
letter_by_kind letter rest field (inr slash) (inr t) (inl k) e on = letter_read letter 10 rest field (rw k refl) (rw k refl) e on
letter_by_kind letter rest field (inr slash) (inr t) (inr n) e on =
    let none : byte_of letter ≡ None =
    rw (ne_eqb 92 letter (λ k. slash (sym k)), ne_eqb 116 letter (λ k. t (sym k)), ne_eqb 110 letter (λ k. n (sym k))) refl in
    cc (rw none at e)

byte_read : (byte : ℕ) (rest field : List ℕ) → byte ≢ 92 → eqb byte 9 ≡ false → eqb byte 10 ≡ false
    → unescaped (byte ∷ rest) ≡ Some field → ((more : List ℕ) → unescaped rest ≡ Some more → rest ≡ escaped more)
    → byte ∷ rest ≡ escaped field
unfolding letter_of
byte_read byte rest field slash tab feed e on =
    let parts = front byte (unescaped rest) field (sym (unescaped-itself byte rest (ne_eqb byte 92 slash)) ∙ e) in
    rw (parts.2, ne_eqb 92 byte (λ k. slash (sym k)), flipped byte 9 tab, flipped byte 10 feed)
    (ap (λ more. byte ∷ more) (on parts.0 parts.1))
  where
    flipped : (m n : ℕ) → eqb m n ≡ false → eqb n m ≡ false
    flipped m n other = ne_eqb n m (λ e. eqb-false m n other (sym e))

last_by_kind : (byte : ℕ) (field : List ℕ) → (byte ≡ 92) ⊎ (byte ≢ 92) → eqb byte 9 ≡ false → eqb byte 10 ≡ false → unescaped (byte ∷ []) ≡ Some field → byte ∷ [] ≡ escaped field
last_by_kind byte field (inl k) tab feed e = cc (rw k at e)
last_by_kind byte field (inr slash) tab feed e = byte_read byte [] field slash tab feed e nothing
  where
    nothing : (more : List ℕ) → unescaped [] ≡ Some more → [] ≡ escaped more
    nothing [] e = refl
    nothing (byte ∷ more) e = cc

first_by_kind : (byte next : ℕ) (rest field : List ℕ) → (byte ≡ 92) ⊎ (byte ≢ 92) → eqb byte 9 ≡ false → eqb byte 10 ≡ false
    → unescaped (byte ∷ next ∷ rest) ≡ Some field → ((more : List ℕ) → unescaped rest ≡ Some more → rest ≡ escaped more)
    → ((more : List ℕ) → unescaped (next ∷ rest) ≡ Some more → next ∷ rest ≡ escaped more) → byte ∷ next ∷ rest ≡ escaped field
first_by_kind byte next rest field (inl k) tab feed e after on = ap (λ b. b ∷ next ∷ rest) k
    ∙ letter_by_kind next rest field (cases_eq next 92) (cases_eq next 116) (cases_eq next 110)
    (ap (λ b. unescaped (b ∷ next ∷ rest)) (sym k) ∙ e) after
first_by_kind byte next rest field (inr slash) tab feed e after on = byte_read byte (next ∷ rest) field slash tab feed e on

-- bytes without a TAB and an LF are what is written for the field that they are read as
spelled : (written field : List ℕ) → tabless written ≡ false → feedless written ≡ false → unescaped written ≡ Some field → written ≡ escaped field
spelled [] [] tab feed e = refl
spelled [] (byte ∷ field) tab feed e = cc
spelled (byte ∷ []) field tab feed e =
    last_by_kind byte field (cases_eq byte 92) (or_parts (eqb byte 9) _ tab).0 (or_parts (eqb byte 10) _ feed).0 e
spelled (byte ∷ next ∷ rest) field tab feed e =
    let tabs = (or_parts (eqb byte 9) (tabless (next ∷ rest)) tab).1 in
    let feeds = (or_parts (eqb byte 10) (feedless (next ∷ rest)) feed).1 in
    first_by_kind byte next rest field (cases_eq byte 92) (or_parts (eqb byte 9) _ tab).0 (or_parts (eqb byte 10) _ feed).0 e
    (λ more. spelled rest more (or_parts (eqb next 9) _ tabs).1 (or_parts (eqb next 10) _ feeds).1)
    (λ more. spelled (next ∷ rest) more tabs feeds)

-- no piece has a TAB or an LF
abbrev AllClean : List (List ℕ) → Type 0
AllClean [] = Unit {0}
AllClean (piece ∷ pieces) = (tabless piece ≡ false) × (feedless piece ≡ false) × AllClean pieces

clean_more : (cut : Bool) (byte : ℕ) (pieces : List (List ℕ)) → eqb byte 9 ≡ cut → eqb byte 10 ≡ false → AllClean pieces → AllClean (cond cut ([] ∷ pieces) (onto_first byte pieces))
clean_more true byte pieces tab feed clean = (refl, refl, clean)
clean_more false byte [] tab feed clean = (rw tab refl, rw feed refl, tt)
clean_more false byte (piece ∷ pieces) tab feed clean = (rw (tab, clean.0) refl, rw (feed, clean.1) refl, clean.2)

clean_split : (line : List ℕ) → feedless line ≡ false → AllClean (slice_split (λ b. eqb b 9) line)
clean_split [] feed = (refl, refl, tt)
clean_split (byte ∷ line) feed =
    clean_more (eqb byte 9) byte (slice_split (λ b. eqb b 9) line) refl (or_parts (eqb byte 10) _ feed).0
    (clean_split line (or_parts (eqb byte 10) _ feed).1)

all_spelled_on : (piece : List ℕ) (pieces fields : List (List ℕ)) (first : Option (List ℕ)) → unescaped piece ≡ first
    → AllClean (piece ∷ pieces) → all_some (first ∷ map unescaped pieces) ≡ Some fields
    → ((more : List (List ℕ)) → all_some (map unescaped pieces) ≡ Some more → pieces ≡ map escaped more)
    → piece ∷ pieces ≡ map escaped fields
all_spelled_on piece pieces fields None is clean e on = cc
all_spelled_on piece pieces fields (Some field) is clean e on =
    let parts = front field (all_some (map unescaped pieces)) fields e in
    ap (λ p. p ∷ pieces) (spelled piece field clean.0 clean.1 is) ∙ ap (λ ps. escaped field ∷ ps) (on parts.0 parts.1) ∙ ap (map escaped) (sym parts.2)

all_spelled : (pieces fields : List (List ℕ)) → AllClean pieces → all_some (map unescaped pieces) ≡ Some fields → pieces ≡ map escaped fields
all_spelled [] [] clean e = refl
all_spelled [] (field ∷ fields) clean e = cc
all_spelled (piece ∷ pieces) fields clean e = all_spelled_on piece pieces fields (unescaped piece) refl clean e (λ more. all_spelled pieces more clean.2)

-- a line without an LF is the one that is written for its fields
pub line_of-fields_of : (line : List ℕ) (fields : List (List ℕ)) → list_any (λ b. eqb b 10) line ≡ false → fields_of line ≡ Some fields → line ≡ line_of fields
unfolding fields_of
line_of-fields_of line fields feed e = sym (join_with_byte-slice_split 9 line) ∙ ap (join_with_byte 9) (all_spelled (slice_split (λ b. eqb b 9) line) fields (clean_split line feed) e)
