-- Where postings stand: in parts from left to right, and then in memory.
use Rattle.std.proofs.Common.{◌≡◌, ℕ, ◌≤◌, List, [], ◌∷◌, ◌++◌, length, drop, map, ap, sym, ◌∙◌, subst, inl, inr, ⊎_elim, arith}
use Rattle.std.proofs.Common.{append_assoc, append-nil, take-append-drop}
use Rattle.std.proofs.lemmas.List.{map-append}
use Rattle.std.proofs.lemmas.List.Concat.{flat_map-append}
use Rattle.wu_layout.specs.Postings.{Posting, Ascend}
use Rattle.wu_layout.specs.Layouts.{Part, Job, stored_in, homes_of, postings_of, parts_before, parts_taken, parts_after}
use Rattle.wu_layout.specs.Invariants.{SomeOf, AddressesAscend}
use Rattle.wu_layout.proofs.PostingLemmas.{Ascend-length, Ascend-split, Ascend-bounds}

-- all postings are those of the parts, and then those in memory
pub postings_split : (parts : List Part) (memory : List Posting) → postings_of parts memory ≡ stored_in parts ++ memory
postings_split [] memory = append-nil memory
postings_split (part ∷ parts) memory =
    ap (λ (ps : List Posting). part.postings ++ ps) (postings_split parts memory)
    ∙ sym (append_assoc part.postings (stored_in parts) memory)

pub postings-append : (parts : List Part) (memory more : List Posting)
    → postings_of parts (memory ++ more) ≡ postings_of parts memory ++ more
postings-append parts memory more =
    postings_split parts (memory ++ more)
    ∙ sym (append_assoc (stored_in parts) memory more)
    ∙ ap (λ (ps : List Posting). ps ++ more) (sym (postings_split parts memory))

pub stored-append : (parts more : List Part) → stored_in (parts ++ more) ≡ stored_in parts ++ stored_in more
stored-append parts more = flat_map-append (λ part. part.postings) parts more

-- the parts are those before a job's, its own, and those after
pub parts_split : (job : Job) (parts : List Part) → parts ≡ parts_before job parts ++ (parts_taken job parts ++ parts_after job parts)
parts_split job parts =
    sym (take-append-drop job.place parts)
    ∙ ap (λ (ps : List Part). parts_before job parts ++ ps) (sym (take-append-drop job.count (drop job.place parts)))

pub stored_split : (job : Job) (parts : List Part)
    → stored_in parts
    ≡ stored_in (parts_before job parts) ++ (stored_in (parts_taken job parts) ++ stored_in (parts_after job parts))
stored_split job parts =
    ap stored_in (parts_split job parts)
    ∙ stored-append (parts_before job parts) (parts_taken job parts ++ parts_after job parts)
    ∙ ap (λ (ps : List Posting). stored_in (parts_before job parts) ++ ps) (stored-append (parts_taken job parts) (parts_after job parts))

-- ---- homes

abbrev pub postings_in : List Part → List (List Posting)
postings_in parts = map (λ part. part.postings) parts

pub homes_split : (before after : List Part) (memory : List Posting)
    → homes_of (before ++ after) memory ≡ postings_in before ++ homes_of after memory
homes_split before after memory =
    ap (λ (hs : List (List Posting)). hs ++ memory ∷ []) (map-append (λ (p : Part). p.postings) before after)
    ∙ append_assoc (postings_in before) (postings_in after) (memory ∷ [])

-- ---- one home of several

pub SomeOf-map : {X : Type 0} (P Q : X → Type 0) (xs : List X) → ((x : X) → P x → Q x) → SomeOf P xs → SomeOf Q xs
SomeOf-map P Q [] f h = h
SomeOf-map P Q (x ∷ xs) f h = ⊎_elim (λ a. inl (f x a)) (λ b. inr (SomeOf-map P Q xs f b)) h

module _ (P : List Posting → Type 0) where
  -- memory exchanged for another that has the property where it had it
  pub home_in_new_memory : (parts : List Part) (memory memory_after : List Posting) → (P memory → P memory_after)
      → SomeOf P (homes_of parts memory) → SomeOf P (homes_of parts memory_after)
  home_in_new_memory [] memory memory_after f h = ⊎_elim (λ a. inl (f a)) (λ b. absurd b) h
  home_in_new_memory (part ∷ parts) memory memory_after f h =
      ⊎_elim (λ a. inl a) (λ b. inr (home_in_new_memory parts memory memory_after f b)) h

  pub home_in_memory : (parts : List Part) (memory : List Posting) → P memory → SomeOf P (homes_of parts memory)
  home_in_memory [] memory a = inl a
  home_in_memory (part ∷ parts) memory a = inr (home_in_memory parts memory a)

-- ---- the addresses of memory, and of a job's parts

module _ (next : ℕ) (parts : List Part) (memory : List Posting) (d : AddressesAscend next parts memory) where
  abbrev pub Bounded : List Posting → Type 0
  Bounded ps = (low : ℕ) × (high : ℕ) × (high ≤ next) × Ascend low high ps

  split : (middle : ℕ) × (Ascend 0 middle (stored_in parts) × Ascend middle next memory)
  split = Ascend-split 0 next (stored_in parts) memory (subst (λ ps. Ascend 0 next ps) (postings_split parts memory) d.ascend)

  pub memory_bounded : Bounded memory
  memory_bounded = (split.0, next, omega arith, split.1.1)

  pub taken_bounded : (job : Job) → Bounded (stored_in (parts_taken job parts))
  taken_bounded job =
      let before : List Posting = stored_in (parts_before job parts) in
      let taken : List Posting = stored_in (parts_taken job parts) in
      let after : List Posting = stored_in (parts_after job parts) in
      let back = Ascend-split 0 split.0 before (taken ++ after) (subst (λ ps. Ascend 0 split.0 ps) (stored_split job parts) split.1.0) in
      let own = Ascend-split back.0 split.0 taken after back.1.1 in
      let top : split.0 ≤ next = Ascend-bounds split.0 next memory split.1.1 in
      let end : own.0 ≤ split.0 = Ascend-bounds own.0 split.0 after own.1.1 in
      (back.0, own.0, omega arith, own.1.0)

  -- there are at most as many postings as addresses were given
  pub stored_within : length (postings_of parts memory) ≤ next
  stored_within = omega (arith, Ascend-length 0 next (postings_of parts memory) d.ascend)
