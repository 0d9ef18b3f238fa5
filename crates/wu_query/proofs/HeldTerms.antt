-- The terms that an index lists, in the directories of its parts and in memory, and those of which its state has postings.
use Rattle.std.proofs.Common.{◌≡◌, ℕ, ◌<◌, true, false, cond, nat_eq, List, [], ◌∷◌, ◌++◌, length, map, filter, Option, None, Some}
use Rattle.std.proofs.Common.{refl, ap, ap₂, sym, subst, inl, inr, ⊎_elim, unwrap_or, arith}
use Rattle.std.specs.Prelude.{IsSome}
use Rattle.std.specs.List.{AllZip, flat_map}
use Rattle.std.specs.Map.{keys_of, lookup}
use Rattle.std.specs.Cmp.Lexicographic.{pointwise, same_text}
use Rattle.std.proofs.lemmas.Cmp.{nat_list_cmp_total}
use Rattle.std.proofs.lemmas.List.{map-append}
use Rattle.std.proofs.lemmas.Map.Lookups.{exact_bytes}
use Rattle.std.proofs.lemmas.Map.Views.{Contains-keys_from_lookup}
use Rattle.wu_base.specs.declared.addresses.PartRec.{PartRec}
use Rattle.wu_base.specs.declared.addresses.Range.{Range}
use Rattle.wu_base.proofs.Members.{Has, Has-append_cases, Has-append_left, Has-append_right, Has-filter, Has-from_Contains, filter_has}
use Rattle.wu_base.proofs.SortedLists.{has-sorted_once, sorted_once_has}
use Rattle.wu_outside.specs.Content.{Content}
use Rattle.wu_outside.specs.declared.ranges.ReadRange.{ReadRange}
use Rattle.wu_layout.specs.Invariants.{SomeOf}
use Rattle.wu_layout.specs.Layouts.{Part, list_of, lists_of, stored_in, terms_of}
use Rattle.wu_layout.specs.Postings.{Posting, addresses_of}
use Rattle.wu_layout.proofs.HomeLemmas.{postings_split}
use Rattle.wu_layout.proofs.ListLemmas.{all_terms, term_long}
use Rattle.wu_part.specs.declared.entries.TermEntry.{TermEntry}
use Rattle.wu_part.specs.Directories.{PartDirectory}
use Rattle.wu_part.specs.Parts.{HoldsList, SpellsPart}
use Rattle.wu_lists.specs.Blocks.{blocks_in, entry_of, meets}
use Rattle.wu_parts.specs.Candidates.{terms_held, terms_listed}
use Rattle.wu_parts.specs.Contents.{Contents}
use Rattle.wu_parts.specs.Holdings.{HoldParts}
use Rattle.wu_parts.specs.Memory.{Memory, held}
use Rattle.wu_terms.specs.Terms.{is_candidate, words_with}
use Rattle.wu_query.specs.Permitted.{IsNeededBlockOf, IsOneOf, terms_indexed}
use Rattle.wu_query.specs.Searched.{TellsPostings}
use Rattle.wu_query.specs.States.{State}

-- ---- one of several

module _ {X : Type 0} (P : X → Type 0) where
  some_has : (xs : List X) → SomeOf P xs → (x : X) × (Has x xs × P x)
  some_has [] some = absurd some
  some_has (x ∷ xs) some =
      ⊎_elim
      (λ (here : P x). (x, (inl refl, here)))
      (λ (later : SomeOf P xs). let r = some_has xs later in (r.0, (inr r.1.0, r.1.1)))
      some

  has_some : (x : X) (xs : List X) → Has x xs → P x → SomeOf P xs
  has_some x [] has is = absurd has
  has_some x (y ∷ ys) has is =
      ⊎_elim (λ (e : y ≡ x). inl (subst P (sym e) is)) (λ (later : Has x ys). inr (has_some x ys later is)) has

-- ---- the words with a prefix

module _ (prefix : List ℕ) where
  pub word_of_terms : (terms : List (List ℕ)) (word : List ℕ) → Has word (words_with prefix terms)
      → Has word terms × (is_candidate prefix word ≡ true)
  word_of_terms terms word has =
      filter_has (is_candidate prefix) word terms
      (sorted_once_has nat_list_cmp_total exact_bytes word (filter (is_candidate prefix) terms) has)

  pub term_with_prefix : (terms : List (List ℕ)) (word : List ℕ) → Has word terms → is_candidate prefix word ≡ true
      → Has word (words_with prefix terms)
  term_with_prefix terms word has is =
      has-sorted_once nat_list_cmp_total exact_bytes word (filter (is_candidate prefix) terms)
      (Has-filter (is_candidate prefix) word terms has is)

-- ---- a part's directory

terms_of_lists : (low : ℕ) (bytes : List ℕ) (ps : List Posting) (entries : List TermEntry) (terms : List (List ℕ))
    → AllZip (HoldsList low bytes) entries (map (list_of ps) terms) → map (λ entry. entry.term) entries ≡ terms
terms_of_lists low bytes ps [] [] z = refl
terms_of_lists low bytes ps [] (term ∷ terms) z = absurd z
terms_of_lists low bytes ps (entry ∷ entries) [] z = absurd z
terms_of_lists low bytes ps (entry ∷ entries) (term ∷ terms) z =
    ap₂ (λ (t : List ℕ) (ts : List (List ℕ)). t ∷ ts) z.0.term (terms_of_lists low bytes ps entries terms z.1)

-- it lists the terms of the part's postings
listed : (directory : PartDirectory) (ps : List Posting) (bytes : List ℕ) → SpellsPart directory (lists_of ps) bytes
    → terms_listed directory ≡ terms_of ps
listed directory ps bytes spelled = terms_of_lists directory.low bytes ps directory.terms (terms_of ps) spelled.lists_held

-- ---- the terms of postings are listed

terms_joined : (term : List ℕ) (ps qs : List Posting) → Has term (all_terms (ps ++ qs)) → Has term (all_terms ps ++ all_terms qs)
terms_joined term ps qs has = subst (Has term) (map-append (λ (p : Posting). p.term) ps qs) has

joined_terms : (term : List ℕ) (ps qs : List Posting) → Has term (all_terms ps ++ all_terms qs) → Has term (all_terms (ps ++ qs))
joined_terms term ps qs has = subst (Has term) (sym (map-append (λ (p : Posting). p.term) ps qs)) has

in_directories : (content : Content) (term : List ℕ) (records : List PartRec) (directories : List PartDirectory) (parts : List Part)
    → HoldParts content records directories parts → Has term (all_terms (stored_in parts)) → Has term (flat_map terms_listed directories)
in_directories content term [] [] [] holds has = absurd has
in_directories content term [] [] (part ∷ parts) holds has = absurd holds
in_directories content term [] (directory ∷ directories) parts holds has = absurd holds
in_directories content term (recorded ∷ records) [] parts holds has = absurd holds
in_directories content term (recorded ∷ records) (directory ∷ directories) [] holds has = absurd holds
in_directories content term (recorded ∷ records) (directory ∷ directories) (part ∷ parts) holds has =
    ⊎_elim
    (λ (here : Has term (all_terms part.postings)).
    Has-append_left term (terms_listed directory) (flat_map terms_listed directories)
    (subst (Has term) (sym (listed directory part.postings holds.0.bytes holds.0.spelled))
    (has-sorted_once nat_list_cmp_total exact_bytes term (all_terms part.postings) here)))
    (λ (later : Has term (all_terms (stored_in parts))).
    Has-append_right term (terms_listed directory) (flat_map terms_listed directories)
    (in_directories content term records directories parts holds.1 later))
    (Has-append_cases term (all_terms part.postings) (all_terms (stored_in parts))
    (terms_joined term part.postings (stored_in parts) has))

in_memory : (term : List ℕ) (memory : Memory) (ps : List Posting) → held memory term ≡ addresses_of term ps → Has term (all_terms ps)
    → Has term (keys_of memory.lists)
in_memory term memory ps told has =
    let some : 0 < length (held memory term) = omega (arith, term_long term ps has, ap length told) in
    elim (lookup (pointwise nat_eq term) memory.lists) as
    (λ o. lookup (pointwise nat_eq term) memory.lists ≡ o → 0 < length (unwrap_or o []) → Has term (keys_of memory.lists)) [
      | None ↦ λ e l. absurd (omega arith)
      | Some addresses ↦ λ e l.
          Has-from_Contains term (keys_of memory.lists)
          (Contains-keys_from_lookup (λ x y t. same_text x y (sym t)) term memory.lists (subst IsSome (sym e) refl))
    ] refl some

-- the index of the state lists each term of which the state has a posting
pub indexed_held : (contents : Contents) (holds : Option Content) (s : State) → TellsPostings contents holds s → (term : List ℕ)
    → Has term (terms_indexed s) → Has term (terms_held contents)
indexed_held contents None s tells term has = let told = tells.told in absurd (cc)
indexed_held contents (Some content) s tells term has =
    let split = subst (λ (ps : List Posting). Has term (all_terms ps)) (postings_split s.layout.parts s.layout.memory) has in
    ⊎_elim
    (λ (stored : Has term (all_terms (stored_in s.layout.parts))).
    Has-append_left term (flat_map terms_listed contents.directories) (keys_of contents.memory.lists)
    (in_directories content term contents.parts contents.directories s.layout.parts tells.parts stored))
    (λ (kept : Has term (all_terms s.layout.memory)).
    Has-append_right term (flat_map terms_listed contents.directories) (keys_of contents.memory.lists)
    (in_memory term contents.memory s.layout.memory (tells.memory term) kept))
    (Has-append_cases term (all_terms (stored_in s.layout.parts)) (all_terms s.layout.memory)
    (terms_joined term (stored_in s.layout.parts) s.layout.memory split))

-- ---- a term with blocks in a part has postings

module _ (ranges : List Range) (range : ReadRange) (term : List ℕ) where
  entry_listed : (blob low : ℕ) (entries : List TermEntry)
      → IsOneOf (filter (meets ranges) (blocks_in blob low (entry_of entries term))) range → Has term (map (λ entry. entry.term) entries)
  entry_listed blob low [] one = absurd one
  entry_listed blob low (entry ∷ entries) one =
      elim (pointwise nat_eq entry.term term) as
      (λ b. pointwise nat_eq entry.term term ≡ b
      → IsOneOf (filter (meets ranges) (blocks_in blob low (cond b (Some entry) (entry_of entries term)))) range
      → Has term (map (λ (e : TermEntry). e.term) (entry ∷ entries))) [
        | true ↦ λ t o. inl (same_text entry.term term (sym t))
        | false ↦ λ f o. inr (entry_listed blob low entries o)
      ] refl one

  stored_there : (parts : List Part) → SomeOf (IsNeededBlockOf ranges term range) parts → Has term (all_terms (stored_in parts))
  stored_there [] some = absurd some
  stored_there (part ∷ parts) some =
      joined_terms term part.postings (stored_in parts)
      (⊎_elim
      (λ (here : IsNeededBlockOf ranges term range part).
      Has-append_left term (all_terms part.postings) (all_terms (stored_in parts))
      (sorted_once_has nat_list_cmp_total exact_bytes term (all_terms part.postings)
      (subst (Has term) (listed here.0 part.postings here.1.bytes here.1.spelled)
      (entry_listed part.blob here.0.low here.0.terms here.2))))
      (λ (later : SomeOf (IsNeededBlockOf ranges term range) parts).
      Has-append_right term (all_terms part.postings) (all_terms (stored_in parts)) (stored_there parts later))
      some)

pub needed_indexed : (s : State) (ranges : List Range) (range : ReadRange) (term : List ℕ)
    → SomeOf (IsNeededBlockOf ranges term range) s.layout.parts → Has term (terms_indexed s)
needed_indexed s ranges range term some =
    subst (λ (ps : List Posting). Has term (all_terms ps)) (sym (postings_split s.layout.parts s.layout.memory))
    (joined_terms term (stored_in s.layout.parts) s.layout.memory
    (Has-append_left term (all_terms (stored_in s.layout.parts)) (all_terms s.layout.memory)
    (stored_there ranges range term s.layout.parts some)))

-- a block that is needed of the words with a prefix is one of such a word of which the state has a posting
pub needed_of_words : (s : State) (ranges : List Range) (range : ReadRange) (prefix : List ℕ) (terms : List (List ℕ))
    → SomeOf (λ term. SomeOf (IsNeededBlockOf ranges term range) s.layout.parts) (words_with prefix terms)
    → SomeOf (λ term. SomeOf (IsNeededBlockOf ranges term range) s.layout.parts) (words_with prefix (terms_indexed s))
needed_of_words s ranges range prefix terms some =
    let Needed : List ℕ → Type 0 = λ term. SomeOf (IsNeededBlockOf ranges term range) s.layout.parts in
    let r = some_has Needed (words_with prefix terms) some in
    has_some Needed r.0 (words_with prefix (terms_indexed s))
    (term_with_prefix prefix (terms_indexed s) r.0 (needed_indexed s ranges range r.0 r.1.1)
    (word_of_terms prefix terms r.0 r.1.0).1)
    r.1.1
