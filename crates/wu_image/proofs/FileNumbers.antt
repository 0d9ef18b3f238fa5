-- The numbers of a tree's regular files, as they are looked up among its nodes.
use Rattle.std.proofs.Common.{◌≡◌, ℕ, Bool, true, false, cond, List, [], ◌∷◌, map, filter, Some, is_some, Less}
use Rattle.std.proofs.Common.{refl, ap, sym, ◌∙◌, subst, inl, inr, ⊎_elim}
use Rattle.std.specs.Ordering.{nat_cmp, is_eq}
use Rattle.std.specs.List.{AllByRecursion}
use Rattle.std.specs.List.Sorted.{IsStrictlySortedBy}
use Rattle.std.specs.Map.{keys_of, lookup}
use Rattle.std.specs.BTreeMap.{is_at}
use Rattle.std.proofs.lemmas.Bool.{false≢true}
use Rattle.wu_base.proofs.MapEntries.{all_found, number_itself}
use Rattle.wu_base.proofs.Members.{Has, all_has, filter_has, map_has}
use Rattle.wu_tree.specs.declared.events.Node.{Node}
use Rattle.wu_tree.specs.FileSystems.{is_file_node, is_kind_file}
use Rattle.wu_tree.proofs.ParentPaths.{same_number}
use Rattle.wu_image.specs.Checkpoints.{file_numbers}

-- ---- a key is among the keys exactly where it is found

pub key_found : {X : Type 0} (q : ℕ) (entries : List (ℕ × X)) → Has q (keys_of entries)
    → is_some (lookup (is_at (nat_cmp q)) entries) ≡ true
key_found q [] h = absurd h
key_found q (e ∷ es) h =
    elim (is_at (nat_cmp q) e.0) as
    (λ b. is_at (nat_cmp q) e.0 ≡ b → is_some (cond b (Some e.1) (lookup (is_at (nat_cmp q)) es)) ≡ true) [
      | true ↦ λ p. refl
      | false ↦ λ p.
          ⊎_elim
          (λ (same : e.0 ≡ q).
          let itself : is_eq (nat_cmp q e.0) ≡ true = subst (λ (k : ℕ). is_eq (nat_cmp q k) ≡ true) (sym same) (number_itself q) in
          absurd (false≢true (sym p ∙ itself)))
          (λ (later : Has q (keys_of es)). key_found q es later)
          h
    ] refl

pub found_key : {X : Type 0} (q : ℕ) (entries : List (ℕ × X)) → is_some (lookup (is_at (nat_cmp q)) entries) ≡ true
    → Has q (keys_of entries)
found_key q [] h = absurd (false≢true h)
found_key q (e ∷ es) h =
    elim (is_at (nat_cmp q) e.0) as
    (λ b. is_at (nat_cmp q) e.0 ≡ b → is_some (cond b (Some e.1) (lookup (is_at (nat_cmp q)) es)) ≡ true → Has q (keys_of (e ∷ es))) [
      | true ↦ λ p t. inl (sym (same_number q e.0 p))
      | false ↦ λ p t. inr (found_key q es t)
    ] refl h

-- ---- the numbers of the files

abbrev is_file_entry : ℕ × Node → Bool
is_file_entry node = is_kind_file node.1.kind

pub kept_above : (number : ℕ) (nodes : List (ℕ × Node)) → AllByRecursion (λ q. nat_cmp number q ≡ Less) (keys_of nodes)
    → AllByRecursion (λ q. nat_cmp number q ≡ Less) (file_numbers nodes)
kept_above number [] a = tt
kept_above number (node ∷ nodes) a =
    elim (is_file_entry node) as
    (λ b. AllByRecursion (λ q. nat_cmp number q ≡ Less)
    (map (λ n. n.0) (cond b (node ∷ filter is_file_entry nodes) (filter is_file_entry nodes)))) [
      | true ↦ (a.0, kept_above number nodes a.1)
      | false ↦ kept_above number nodes a.1
    ]

pub file_numbers_ascend : (nodes : List (ℕ × Node)) → IsStrictlySortedBy nat_cmp (keys_of nodes)
    → IsStrictlySortedBy nat_cmp (file_numbers nodes)
unfolding IsStrictlySortedBy
file_numbers_ascend [] s = tt
file_numbers_ascend (node ∷ nodes) s =
    elim (is_file_entry node) as
    (λ b. IsStrictlySortedBy nat_cmp (map (λ n. n.0) (cond b (node ∷ filter is_file_entry nodes) (filter is_file_entry nodes)))) [
      | true ↦ (kept_above node.0 nodes s.0, file_numbers_ascend nodes s.1)
      | false ↦ file_numbers_ascend nodes s.1
    ]

-- a file's number is among them, and no other
pub number_there : (q : ℕ) (nodes : List (ℕ × Node)) → is_file_node (lookup (is_at (nat_cmp q)) nodes) ≡ true → Has q (file_numbers nodes)
number_there q [] h = absurd (false≢true h)
number_there q (node ∷ nodes) h =
    elim (is_at (nat_cmp q) node.0) as
    (λ b. is_at (nat_cmp q) node.0 ≡ b → is_file_node (cond b (Some node.1) (lookup (is_at (nat_cmp q)) nodes)) ≡ true
    → Has q (file_numbers (node ∷ nodes))) [
      | true ↦ λ p t.
          let first : file_numbers (node ∷ nodes) ≡ node.0 ∷ file_numbers nodes =
          ap (λ (b : Bool). map (λ (n : ℕ × Node). n.0) (cond b (node ∷ filter is_file_entry nodes) (filter is_file_entry nodes))) t in
          subst (Has q) (sym first) (inl (sym (same_number q node.0 p)))
      | false ↦ λ p t.
          let later : Has q (file_numbers nodes) = number_there q nodes t in
          elim (is_file_entry node) as
          (λ b. Has q (map (λ (n : ℕ × Node). n.0) (cond b (node ∷ filter is_file_entry nodes) (filter is_file_entry nodes)))) [
            | true ↦ inr later
            | false ↦ later
          ]
    ] refl h

pub there_number : (q : ℕ) (nodes : List (ℕ × Node)) → IsStrictlySortedBy nat_cmp (keys_of nodes) → Has q (file_numbers nodes)
    → is_file_node (lookup (is_at (nat_cmp q)) nodes) ≡ true
there_number q nodes s h =
    let node = map_has (λ (n : ℕ × Node). n.0) q (filter is_file_entry nodes) h in
    let kept = filter_has is_file_entry node.0 nodes node.1.0 in
    let found : lookup (is_at (nat_cmp node.0.0)) nodes ≡ Some node.0.1 =
    all_has (λ (n : ℕ × Node). lookup (is_at (nat_cmp n.0)) nodes ≡ Some n.1) node.0 nodes (all_found nodes s) kept.0 in
    subst (λ (k : ℕ). is_file_node (lookup (is_at (nat_cmp k)) nodes) ≡ true) node.1.1 (ap is_file_node found ∙ kept.1)
