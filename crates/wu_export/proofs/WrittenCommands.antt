-- What is written for a command.
use Rattle.std.proofs.Common.{◌≡◌, ℕ, ◌+◌, ◌%◌, ◌^◌, ◌<◌, ◌≤◌, false, eqb, List, [], ◌∷◌, ◌++◌, length, get_or, take, drop, refl, ap, sym}
use Rattle.std.proofs.Common.{◌∙◌, append_assoc, arith}
use Rattle.std.specs.Prelude.{Option, None, codes, decimal, ◌==◌, map}
use Rattle.std.proofs.Math.Nat.{mod-lt}
use Rattle.std.proofs.lemmas.Bool.{ne_eqb}
use Rattle.std.proofs.lemmas.Fmt.{decimal_by_steps}
use Rattle.std.proofs.lemmas.Grind.{flat_map-append}
use Rattle.std.proofs.lemmas.List.{append-nil, at_drop_more, map-append, take_more}
use Rattle.wu_fields.specs.Fields.{escaped, escaped_byte, with_letter, letter_of}
use Rattle.wu_export.specs.declared.Shown.{Shown}
use Rattle.wu_export.specs.Exports.{Directory, File, Link, Entry, text_line, text_entries, command_of, commands_of, file_entry, link_entry}
use Rattle.wu_export.specs.Exports.{path_entries, file_entries, files_from}
use Rattle.wu_export.specs.Finding.{placed}

-- ---- numbers

no_letter : (byte : ℕ) → 48 ≤ byte → byte < 58 → letter_of byte ≡ None
unfolding letter_of
no_letter byte low high =
    let backslash : eqb 92 byte ≡ false = ne_eqb 92 byte (λ e. absurd (omega (arith, e))) in
    let tab : eqb 9 byte ≡ false = ne_eqb 9 byte (λ e. absurd (omega (arith, e))) in
    let feed : eqb 10 byte ≡ false = ne_eqb 10 byte (λ e. absurd (omega (arith, e))) in
    rw (backslash, tab, feed) refl

escaped-digit : (digit : ℕ) → digit < 10 → escaped ((48 + digit) ∷ []) ≡ (48 + digit) ∷ []
escaped-digit digit small =
    ap (λ (o : Option ℕ). with_letter o (48 + digit) ++ []) (no_letter (48 + digit) (omega arith) (omega arith))

-- no digit is escaped
escaped-decimal : (n : ℕ) → n < 2 ^ 64 → escaped (decimal n) ≡ decimal n
escaped-decimal n small =
    let P : ℕ → List ℕ → Type 0 = λ _ ds. escaped ds ≡ ds in
    decimal_by_steps P
    (λ m below. escaped-digit m below)
    (λ m ds high e.
    let last : escaped ((48 + m % 10) ∷ []) ≡ (48 + m % 10) ∷ [] = escaped-digit (m % 10) (mod-lt m (omega arith)) in
    flat_map-append escaped_byte ds ((48 + m % 10) ∷ [])
    ∙ ap (λ (l : List ℕ). l ++ escaped ((48 + m % 10) ∷ [])) e
    ∙ ap (λ (l : List ℕ). ds ++ l) last)
    n small

-- ---- lines

-- more bytes after four fields
onto : (w i p n t : List ℕ) → (w ++ 9 ∷ (i ++ 9 ∷ (p ++ 9 ∷ n))) ++ t ≡ w ++ 9 ∷ (i ++ 9 ∷ (p ++ 9 ∷ (n ++ t)))
onto w i p n t =
    append_assoc w (9 ∷ (i ++ 9 ∷ (p ++ 9 ∷ n))) t
    ∙ ap (λ (l : List ℕ). w ++ 9 ∷ l) (append_assoc i (9 ∷ (p ++ 9 ∷ n)) t)
    ∙ ap (λ (l : List ℕ). w ++ 9 ∷ (i ++ 9 ∷ l)) (append_assoc p (9 ∷ n) t)

-- further fields after four
fields : (w i p n rest : List ℕ)
    → (w ++ 9 ∷ (i ++ 9 ∷ (p ++ 9 ∷ n))) ++ (9 ∷ rest ++ 10 ∷ []) ≡ (w ++ 9 ∷ (i ++ 9 ∷ (p ++ 9 ∷ (n ++ 9 ∷ rest)))) ++ 10 ∷ []
fields w i p n rest =
    onto w i p n (9 ∷ rest ++ 10 ∷ [])
    ∙ ap (λ (l : List ℕ). w ++ 9 ∷ (i ++ 9 ∷ (p ++ 9 ∷ l))) (sym (append_assoc n (9 ∷ rest) (10 ∷ [])))
    ∙ sym (onto w i p (n ++ 9 ∷ rest) (10 ∷ []))

-- the numbers are written as they are
plain : (F : List ℕ → List ℕ → List ℕ) (number parent : ℕ) → number < 2 ^ 64 → parent < 2 ^ 64
    → F (decimal number) (decimal parent) ≡ F (escaped (decimal number)) (escaped (decimal parent))
plain F number parent a b =
    ap (λ (i : List ℕ). F i (decimal parent)) (sym (escaped-decimal number a))
    ∙ ap (λ (p : List ℕ). F (escaped (decimal number)) p) (sym (escaped-decimal parent b))

pub directory-command : (number parent : ℕ) (name : List ℕ) → number < 2 ^ 64 → parent < 2 ^ 64
    → placed (codes "mkdir") number parent name ++ codes "\t0\t0\t755\n" ≡ command_of (Directory number parent name)
unfolding letter_of
directory-command number parent name a b =
    fields (codes "mkdir") (decimal number) (decimal parent) (escaped name) (codes "0\t0\t755")
    ∙ plain (λ i p. (codes "mkdir" ++ 9 ∷ (i ++ 9 ∷ (p ++ 9 ∷ (escaped name ++ 9 ∷ codes "0\t0\t755")))) ++ 10 ∷ []) number parent a b

pub file-command : (number parent : ℕ) (name : List ℕ) → number < 2 ^ 64 → parent < 2 ^ 64
    → placed (codes "create") number parent name ++ codes "\t0\t0\t644\n" ≡ command_of (File number parent name)
unfolding letter_of
file-command number parent name a b =
    fields (codes "create") (decimal number) (decimal parent) (escaped name) (codes "0\t0\t644")
    ∙ plain (λ i p. (codes "create" ++ 9 ∷ (i ++ 9 ∷ (p ++ 9 ∷ (escaped name ++ 9 ∷ codes "0\t0\t644")))) ++ 10 ∷ []) number parent a b

pub link-command : (number parent : ℕ) (name : List ℕ) → number < 2 ^ 64 → parent < 2 ^ 64
    → placed (codes "link") number parent name ++ 10 ∷ [] ≡ command_of (Link number parent name)
unfolding letter_of
link-command number parent name a b =
    plain (λ i p. (codes "link" ++ 9 ∷ (i ++ 9 ∷ (p ++ 9 ∷ escaped name))) ++ 10 ∷ []) number parent a b

pub text-line : (number size : ℕ) → number < 2 ^ 64 → size < 2 ^ 64
    → (codes "text" ++ 9 ∷ (decimal number ++ 9 ∷ decimal size)) ++ 10 ∷ [] ≡ text_line number size
unfolding letter_of
text-line number size a b = plain (λ i p. (codes "text" ++ 9 ∷ (i ++ 9 ∷ p)) ++ 10 ∷ []) number size a b

-- what is written in two steps
pub in_two : (old now new a b c : List ℕ) → now ≡ old ++ a → new ≡ now ++ b → a ++ b ≡ c → new ≡ old ++ c
in_two old now new a b c e f g =
    f ∙ ap (λ (l : List ℕ). l ++ b) e ∙ append_assoc old a b ∙ ap (λ (l : List ℕ). old ++ l) g

-- ---- texts

pub some-text : (number : ℕ) (text : List ℕ) → (length text == 0) ≡ false
    → text_line number (length text) ++ text ++ 10 ∷ [] ≡ commands_of (text_entries number text)
some-text number [] h = absurd cc
some-text number (byte ∷ text) h = sym (append-nil (text_line number (length (byte ∷ text)) ++ (byte ∷ text) ++ 10 ∷ []))

-- ---- files

pub commands-append : (xs ys : List Entry) → commands_of (xs ++ ys) ≡ commands_of xs ++ commands_of ys
commands-append xs ys = flat_map-append command_of xs ys

-- one file further
pub files_more : (directories : List (List ℕ)) (first i number : ℕ) (view : List Shown) (shown : Shown) (whole now new : List ℕ)
    → i < length view → shown ≡ get_or view i shown → number ≡ first + i
    → now ++ commands_of (files_from directories (first + i) (drop i view)) ≡ whole
    → new ≡ now ++ commands_of (file_entries directories number shown)
    → new ++ commands_of (files_from directories (first + (i + 1)) (drop (i + 1) view)) ≡ whole
files_more directories first i number view shown whole now new within is same e f =
    let rest : List ℕ = commands_of (files_from directories (first + (i + 1)) (drop (i + 1) view)) in
    let these : List ℕ = commands_of (file_entries directories number shown) in
    let next : first + (i + 1) ≡ number + 1 = omega arith in
    let split : commands_of (files_from directories (first + i) (drop i view)) ≡ these ++ rest =
    ap (λ (n : ℕ). commands_of (files_from directories n (drop i view))) (sym same)
    ∙ at_drop_more (λ (v : List Shown). commands_of (files_from directories number v)) view i shown within
    ∙ ap (λ (s : Shown). commands_of (files_from directories number (s ∷ drop (i + 1) view))) (sym is)
    ∙ commands-append (file_entries directories number shown) (files_from directories (number + 1) (drop (i + 1) view))
    ∙ ap (λ (n : ℕ). these ++ commands_of (files_from directories n (drop (i + 1) view))) (sym next) in
    ap (λ (l : List ℕ). l ++ rest) f ∙ append_assoc now these rest ∙ ap (λ (l : List ℕ). now ++ l) (sym split) ∙ e

-- one path further
pub more_commands : (f : List ℕ → Entry) (xs : List (List ℕ)) (x path : List ℕ) (i : ℕ) (old now new : List ℕ) → i < length xs → path ≡ x
    → x ≡ get_or xs i x → now ≡ old ++ commands_of (map f (take i xs)) → new ≡ now ++ command_of (f path)
    → new ≡ old ++ commands_of (map f (take (i + 1) xs))
more_commands f xs x path i old now new within is at e g =
    let done : List ℕ = commands_of (map f (take i xs)) in
    let more : take (i + 1) xs ≡ take i xs ++ path ∷ [] =
    take_more xs i x within ∙ ap (λ (y : List ℕ). take i xs ++ y ∷ []) (sym (is ∙ at)) in
    let all : commands_of (map f (take (i + 1) xs)) ≡ done ++ command_of (f path) =
    ap (λ (l : List (List ℕ)). commands_of (map f l)) more
    ∙ ap commands_of (map-append f (take i xs) (path ∷ []))
    ∙ commands-append (map f (take i xs)) (f path ∷ [])
    ∙ ap (λ (l : List ℕ). done ++ l) (append-nil (command_of (f path))) in
    in_two old now new done (command_of (f path)) (commands_of (map f (take (i + 1) xs))) e g (sym all)

-- the least path and the others
pub all_paths : (directories : List (List ℕ)) (number : ℕ) (paths others : List (List ℕ)) (least item : List ℕ) → 1 ≤ length paths
    → least ≡ item → item ≡ get_or paths 0 item → others ≡ drop 1 paths
    → command_of (file_entry directories number least) ++ commands_of (map (link_entry directories number) others)
    ≡ commands_of (path_entries directories number paths)
all_paths directories number [] others least item some is at rest = absurd (omega arith)
all_paths directories number (path ∷ paths) others least item some is at rest =
    let first : least ≡ path = is ∙ at in
    let behind : others ≡ paths = rest in
    ap (λ (x : List ℕ). command_of (file_entry directories number x) ++ commands_of (map (link_entry directories number) others)) first
    ∙ ap (λ (l : List (List ℕ)). command_of (file_entry directories number path) ++ commands_of (map (link_entry directories number) l)) behind
