-- Lemmas on written fields.
use Rattle.std.proofs.Common.{◌≡◌, ◌≢◌, ℕ, zero, suc, ◌+◌, ◌<◌, Bool, true, false, List, [], ◌∷◌, ◌++◌, length, get_or, take}
use Rattle.std.proofs.Common.{drop, Option, Some, None, refl, ap, sym, ◌∙◌, append_assoc, append-nil, eqb, map, is_none, ◌⊎◌, inl}
use Rattle.std.proofs.Common.{inr, arith}
use Rattle.std.specs.Prelude.{not}
use Rattle.std.proofs.lemmas.Bool.{and_parts, and_from, or_parts, cases_eq, ne_eqb, not_from_true, not_from_false, false_from_ne_true}
use Rattle.std.proofs.lemmas.List.Elements.{All-from_get_or}
use Rattle.std.proofs.lemmas.List.Folds.{list_any-append, list_any_none, list_all_at}
use Rattle.memchr.specs.Find.{IsFirstByte, Nowhere, Passes, is_byte}
use Rattle.bstr.specs.Bytes.{is_in}
use Rattle.std.specs.List.{slice_split}
use Rattle.std.specs.List.{list_all, list_any}
use Rattle.std.proofs.lemmas.List.{at_drop_more, take_more, map-append}
use Rattle.std.specs.Option.{option_map}
use Rattle.wu_fields.specs.Fields.{escaped, escaped_byte, with_letter, letter_of, byte_of, unescaped, all_some, fields_of, line_of}

-- what is read so far, and then the rest
unfoldable pub onto : List ℕ → Option (List ℕ) → Option (List ℕ)
onto read rest = option_map (λ more. read ++ more) rest

onto_push : (read : List ℕ) (byte : ℕ) (rest : Option (List ℕ)) → onto read (option_map (λ more. byte ∷ more) rest) ≡ onto (read ++ byte ∷ []) rest
unfolding onto
onto_push read byte None = refl
onto_push read byte (Some more) = ap Some (sym (append_assoc read (byte ∷ []) more))

-- nothing more
pub onto_nil : (read : List ℕ) → onto read (Some []) ≡ Some read
unfolding onto
onto_nil read = ap Some (append-nil read)

-- no field
pub onto_absent : (read : List ℕ) → onto read None ≡ None
unfolding onto
onto_absent read = refl

-- nothing before
pub onto_none : (rest : Option (List ℕ)) → onto [] rest ≡ rest
unfolding onto
onto_none None = refl
onto_none (Some more) = refl

-- the bytes, after the backslash that was read before them, if there was one
abbrev pub held : Bool → List ℕ → List ℕ
held false rest = rest
held true rest = 92 ∷ rest

-- a byte that is no backslash is itself
pub unescaped-itself : (byte : ℕ) (rest : List ℕ) → eqb byte 92 ≡ false → unescaped (byte ∷ rest) ≡ option_map (λ field. byte ∷ field) (unescaped rest)
unescaped-itself byte [] other = rw other refl
unescaped-itself byte (next ∷ rest) other = rw other refl

-- one step on: what is read and what is left make the same whole
pub onto-step : (whole : Option (List ℕ)) (read longer read' : List ℕ) (escaping before escaping' after : Bool) (left rest : List ℕ)
    → whole ≡ onto read (unescaped (held escaping left))
    → onto read (unescaped (held before left)) ≡ onto longer (unescaped (held after rest)) → escaping ≡ before → read' ≡ longer
    → escaping' ≡ after → whole ≡ onto read' (unescaped (held escaping' rest))
onto-step whole read longer read' escaping before escaping' after left rest e step b r a = rw (b) at e ∙ rw (r, a) step

-- nothing is left to be read, or the rest is no field
pub onto-end : (whole end : Option (List ℕ)) (read : List ℕ) (escaping before : Bool) (left : List ℕ)
    → whole ≡ onto read (unescaped (held escaping left)) → escaping ≡ before → onto read (unescaped (held before left)) ≡ end
    → whole ≡ end
onto-end whole end read escaping before left e b is = rw (b) at e ∙ is

-- a letter after a backslash
pub unescaped-letter : (read written : List ℕ) (i byte : ℕ) → i < length written → byte_of (get_or written i 0) ≡ Some byte
    → onto read (unescaped (92 ∷ drop i written)) ≡ onto (read ++ byte ∷ []) (unescaped (drop (i + 1) written))
unescaped-letter read written i byte inside meant = at_drop_more (λ w. onto read (unescaped (92 ∷ w))) written i 0 inside ∙ rw meant (onto_push read byte _)

-- a byte that is no letter, after a backslash
pub unescaped-fault : (read written : List ℕ) (i : ℕ) → i < length written → byte_of (get_or written i 0) ≡ None → onto read (unescaped (92 ∷ drop i written)) ≡ None
unfolding onto
unescaped-fault read written i inside none = at_drop_more (λ w. onto read (unescaped (92 ∷ w))) written i 0 inside ∙ rw none refl

-- a backslash
pub unescaped-backslash : (read written : List ℕ) (i : ℕ) → i < length written → get_or written i 0 ≡ 92 → onto read (unescaped (drop i written)) ≡ onto read (unescaped (92 ∷ drop (i + 1) written))
unescaped-backslash read written i inside is = at_drop_more (λ w. onto read (unescaped w)) written i 0 inside ∙ ap (λ byte. onto read (unescaped (byte ∷ drop (i + 1) written))) is

-- another byte
pub unescaped-plain : (read written : List ℕ) (i : ℕ) → i < length written → get_or written i 0 ≢ 92
    → onto read (unescaped (drop i written)) ≡ onto (read ++ get_or written i 0 ∷ []) (unescaped (drop (i + 1) written))
unescaped-plain read written i inside other =
    at_drop_more (λ w. onto read (unescaped w)) written i 0 inside
    ∙ ap (onto read) (unescaped-itself (get_or written i 0) (drop (i + 1) written) (ne_eqb _ _ other))
    ∙ onto_push read (get_or written i 0) (unescaped (drop (i + 1) written))

-- no backslash at all
pub unescaped_alone : (written : List ℕ) → list_any (λ byte. eqb byte 92) written ≡ false → unescaped written ≡ Some written
unescaped_alone [] none = refl
unescaped_alone (byte ∷ rest) none =
    unescaped-itself byte rest (or_parts (eqb byte 92) _ none).0
    ∙ ap (option_map (λ field. byte ∷ field)) (unescaped_alone rest (or_parts (eqb byte 92) _ none).1)

-- if one more value comes after these, it comes after these and one before them
pushed_on : {A : Type 0} (first value : A) (before after : Option (List A)) (values : List A)
    → option_map (λ more. first ∷ more) before ≡ Some values
    → ((more : List A) → before ≡ Some more → after ≡ Some (more ++ value ∷ []))
    → option_map (λ more. first ∷ more) after ≡ Some (values ++ value ∷ [])
pushed_on first value None after values e h = cc
pushed_on first value (Some more) after values e h = rw (h more refl) (let tail : first ∷ more ≡ values = cc in ap (λ l. Some (l ++ value ∷ [])) tail)

-- one more value
pub all_some_push : {A : Type 0} (options : List (Option A)) (values : List A) (value : A) → all_some options ≡ Some values → all_some (options ++ Some value ∷ []) ≡ Some (values ++ value ∷ [])
all_some_push [] [] value e = refl
all_some_push [] (v ∷ vs) value e = cc
all_some_push (None ∷ options) values value e = cc
all_some_push (Some first ∷ options) values value e = pushed_on first value (all_some options) (all_some (options ++ Some value ∷ [])) values e (λ more h. all_some_push options more value h)

all_some_tail : {A : Type 0} (option : Option A) (options : List (Option A)) → all_some options ≡ None → all_some (option ∷ options) ≡ None
all_some_tail None options none = refl
all_some_tail (Some value) options none = rw none refl

-- one of them has no value
pub all_some_fault : {A B : Type 0} (f : A → Option B) (xs : List A) (i : ℕ) (d : A) → i < length xs → f (get_or xs i d) ≡ None
    → all_some (map f xs) ≡ None
all_some_fault f [] i d inside none = absurd (omega arith)
all_some_fault f (x ∷ xs) zero d inside none = rw none refl
all_some_fault f (x ∷ xs) (suc i) d inside none = all_some_tail (f x) (map f xs) (all_some_fault f xs i d (omega arith) none)

-- the values so far, and the next
pub all_some_more : {A B : Type 0} (f : A → Option B) (xs : List A) (i : ℕ) (d : A) (values : List B) (value : B)
    → i < length xs → f (get_or xs i d) ≡ Some value → all_some (map f (take i xs)) ≡ Some values
    → all_some (map f (take (i + 1) xs)) ≡ Some (values ++ value ∷ [])
all_some_more f xs i d values value inside is so_far =
    ap (λ taken. all_some (map f taken)) (take_more xs i d inside)
    ∙ ap all_some (map-append f (take i xs) (get_or xs i d ∷ []))
    ∙ ap (λ o. all_some (map f (take i xs) ++ o ∷ [])) is
    ∙ all_some_push (map f (take i xs)) values value so_far

step-by_kind : (byte : ℕ) (rest field : List ℕ) → unescaped rest ≡ Some field → (byte ≡ 92) ⊎ (byte ≢ 92)
    → (byte ≡ 9) ⊎ (byte ≢ 9) → (byte ≡ 10) ⊎ (byte ≢ 10) → unescaped (escaped_byte byte ++ rest) ≡ Some (byte ∷ field)
unfolding letter_of byte_of
step-by_kind byte rest field h (inl e) tab feed = rw e (rw h refl)
step-by_kind byte rest field h (inr slash) (inl e) feed = rw e (rw h refl)
step-by_kind byte rest field h (inr slash) (inr tab) (inl e) = rw e (rw h refl)
step-by_kind byte rest field h (inr slash) (inr tab) (inr feed) =
    rw (ne_eqb 92 byte (λ e. slash (sym e)), ne_eqb 9 byte (λ e. tab (sym e)), ne_eqb 10 byte (λ e. feed (sym e)))
    (unescaped-itself byte rest (ne_eqb byte 92 slash) ∙ rw h refl)

-- what is written for a field is read as the field
pub unescaped-escaped : (field : List ℕ) → unescaped (escaped field) ≡ Some field
unescaped-escaped [] = refl
unescaped-escaped (byte ∷ field) =
    step-by_kind byte (escaped field) field (unescaped-escaped field)
    (cases_eq byte 92) (cases_eq byte 9) (cases_eq byte 10)

tabless_by_kind : (byte : ℕ) → (byte ≡ 92) ⊎ (byte ≢ 92) → (byte ≡ 9) ⊎ (byte ≢ 9) → (byte ≡ 10) ⊎ (byte ≢ 10) → list_any (λ b. eqb b 9) (escaped_byte byte) ≡ false
unfolding letter_of
tabless_by_kind byte (inl e) tab feed = rw e refl
tabless_by_kind byte (inr slash) (inl e) feed = rw e refl
tabless_by_kind byte (inr slash) (inr tab) (inl e) = rw e refl
tabless_by_kind byte (inr slash) (inr tab) (inr feed) =
    rw (
      ne_eqb 92 byte (λ e. slash (sym e)),
      ne_eqb 9 byte (λ e. tab (sym e)),
      ne_eqb 10 byte (λ e. feed (sym e)),
      ne_eqb byte 9 tab,
    ) refl

-- no TAB is written for a field
tabless : (field : List ℕ) → list_any (λ b. eqb b 9) (escaped field) ≡ false
tabless [] = refl
tabless (byte ∷ field) =
    list_any-append (λ b. eqb b 9) (escaped_byte byte) (escaped field)
    ∙ rw (tabless_by_kind byte (cases_eq byte 92) (cases_eq byte 9) (cases_eq byte 10), tabless field) refl

-- a list without the separator, before the separator and before the end
split_before : (piece rest : List ℕ) → list_any (λ b. eqb b 9) piece ≡ false → slice_split (λ b. eqb b 9) (piece ++ 9 ∷ rest) ≡ piece ∷ slice_split (λ b. eqb b 9) rest
split_before [] rest none = refl
split_before (byte ∷ piece) rest none =
    let parts = or_parts (eqb byte 9) _ none in
    rw (parts.0, split_before piece rest parts.1) refl

split_alone : (piece : List ℕ) → list_any (λ b. eqb b 9) piece ≡ false → slice_split (λ b. eqb b 9) piece ≡ piece ∷ []
split_alone [] none = refl
split_alone (byte ∷ piece) none =
    let parts = or_parts (eqb byte 9) _ none in
    rw (parts.0, split_alone piece parts.1) refl

split-line_of : (field : List ℕ) (fields : List (List ℕ)) → slice_split (λ b. eqb b 9) (line_of (field ∷ fields)) ≡ map escaped (field ∷ fields)
split-line_of field [] = split_alone (escaped field) (tabless field)
split-line_of field (next ∷ fields) = split_before (escaped field) (line_of (next ∷ fields)) (tabless field) ∙ ap (λ pieces. escaped field ∷ pieces) (split-line_of next fields)

all_read_back : (fields : List (List ℕ)) → all_some (map unescaped (map escaped fields)) ≡ Some fields
all_read_back [] = refl
all_read_back (field ∷ fields) = rw (unescaped-escaped field, all_read_back fields) refl

-- the line that is written for fields is read as these fields
pub fields_of-line_of : (fields : List (List ℕ)) → 0 < length fields → fields_of (line_of fields) ≡ Some fields
unfolding fields_of
fields_of-line_of [] some = absurd (omega arith)
fields_of-line_of (field ∷ fields) some = ap (λ pieces. all_some (map unescaped pieces)) (split-line_of field fields) ∙ all_read_back (field ∷ fields)

plain_byte : (byte : ℕ) (rest : List ℕ) → (letter : Option ℕ) → is_none letter ≡ true → with_letter letter byte ++ rest ≡ byte ∷ rest
plain_byte byte rest None plain = refl
plain_byte byte rest (Some letter) plain = cc

-- a field without a byte that is escaped is written as it is
pub escaped_plain : (field : List ℕ) → list_all (λ byte. is_none (letter_of byte)) field ≡ true → escaped field ≡ field
escaped_plain [] plain = refl
escaped_plain (byte ∷ field) plain = plain_byte byte (escaped field) (letter_of byte) (and_parts (is_none (letter_of byte)) _ plain).0
    ∙ ap (λ rest. byte ∷ rest) (escaped_plain field (and_parts (is_none (letter_of byte)) _ plain).1)

-- ---- what a search for bytes found

-- no backslash
pub unescaped_nowhere : (written : List ℕ) → Nowhere (Passes (is_byte 92) written) 0 (length written) → unescaped written ≡ Some written
unescaped_nowhere written nowhere =
    unescaped_alone written
    (list_any_none (λ byte. eqb byte 92) written
    (All-from_get_or (λ byte. eqb byte 92 ≡ false) written 0 (λ k within. false_from_ne_true _ (nowhere k (omega arith) within))))

plain_by_kind : (byte : ℕ) → (byte ≡ 92) ⊎ (byte ≢ 92) → (byte ≡ 9) ⊎ (byte ≢ 9) → (byte ≡ 10) ⊎ (byte ≢ 10)
    → is_none (letter_of byte) ≡ not (is_in (92 ∷ 9 ∷ 10 ∷ []) byte)
unfolding letter_of is_in
plain_by_kind byte (inl e) tab feed = rw e refl
plain_by_kind byte (inr slash) (inl e) feed = rw e refl
plain_by_kind byte (inr slash) (inr tab) (inl e) = rw e refl
plain_by_kind byte (inr slash) (inr tab) (inr feed) =
    rw (
      ne_eqb 92 byte (λ e. slash (sym e)),
      ne_eqb 9 byte (λ e. tab (sym e)),
      ne_eqb 10 byte (λ e. feed (sym e)),
      ne_eqb byte 92 slash,
      ne_eqb byte 9 tab,
      ne_eqb byte 10 feed,
    )
    refl

-- a byte is written as itself where it is none of the three
plain_byte_is : (byte : ℕ) → is_none (letter_of byte) ≡ not (is_in (92 ∷ 9 ∷ 10 ∷ []) byte)
plain_byte_is byte = plain_by_kind byte (cases_eq byte 92) (cases_eq byte 9) (cases_eq byte 10)

all_plain : (field : List ℕ) → ((k : ℕ) → k < length field → is_in (92 ∷ 9 ∷ 10 ∷ []) (get_or field k 0) ≡ false)
    → list_all (λ byte. is_none (letter_of byte)) field ≡ true
all_plain [] none = refl
all_plain (byte ∷ rest) none =
    and_from _ _
    (plain_byte_is byte ∙ not_from_false _ (none 0 (omega arith)))
    (all_plain rest (λ k within. none (suc k) (omega arith)))

-- a search for the three tells whether the field has none of them
pub found_none_is : (field : List ℕ) (found : Option ℕ) → IsFirstByte (is_in (92 ∷ 9 ∷ 10 ∷ [])) field found
    → is_none found ≡ list_all (λ byte. is_none (letter_of byte)) field
found_none_is field None nowhere = sym (all_plain field (λ k within. false_from_ne_true _ (nowhere k (omega arith) within)))
found_none_is field (Some k) first =
    sym
    (list_all_at (λ byte. is_none (letter_of byte)) field k 0 first.0.high
    (plain_byte_is (get_or field k 0) ∙ not_from_true _ first.1))
