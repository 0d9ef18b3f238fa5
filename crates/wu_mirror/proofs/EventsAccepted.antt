-- What it takes that a tree accepts an event of a batch.
use Rattle.std.proofs.Common.{◌≡◌, ℕ, ◌+◌, ◌%◌, ◌<◌, ◌≤◌, ◌^◌, List, [], ◌∷◌, ◌++◌, length, refl, ap, sym, ◌∙◌, subst, Bool, true, false, cond, not, arith}
use Rattle.std.specs.Prelude.{◌&&◌, ◌||◌, ◌==◌, Option, None, Some, is_some, decimal, nat_lt, nat_le, nat_eq}
use Rattle.std.specs.Cmp.Lexicographic.{pointwise}
use Rattle.std.specs.List.{AllByRecursion}
use Rattle.std.proofs.lemmas.Fmt.{decimal_by_steps, length-decimal-le}
use Rattle.std.proofs.lemmas.Bool.{ne_eqb, le-leb, lt-leb, lt-ltb}
use Rattle.wu_tree.specs.declared.events.Event.TheVariants.{Mkdir, Create, Link, Unlink, Rmdir, Rename}
use Rattle.wu_tree.specs.declared.events.Node.{Node}
use Rattle.wu_access.specs.declared.Perm.{Perm}
use Rattle.wu_tree.specs.FileSystems.{FileSystem, are_name_bytes, child_of, depth, has_entries, is_directory, is_directory_node, is_dots, is_file, is_file_node}
use Rattle.wu_tree.specs.FileSystems.{is_kind_file, is_name, is_there, is_used, is_within, node_of}
use Rattle.wu_tree.specs.Rules.{IsTree}
use Rattle.wu_tree.specs.Steps.{Rule, absent_rules, create_rules, first_of, is_link_to, is_too_deep, link_rules, mkdir_rules, move_rules, named, refusal_of}
use Rattle.wu_tree.specs.Steps.{rename_rules, rmdir_rules, unlink_rules}
use Rattle.wu_tree.proofs.EventRules.{NoneApplies}
use Rattle.wu_tree.proofs.NewLinks.{file_no_directory, file_there}
use Rattle.wu_mirror.proofs.ViewGrowth.{directory_there}
use Rattle.wu_mirror.proofs.Depths.{facts}

-- ---- rules
pub none_refuses : (rules : List Rule) → NoneApplies rules → first_of rules ≡ None
none_refuses [] a = refl
none_refuses (rule ∷ rules) a = ap (λ (b : Bool). cond b (Some rule.1) (first_of rules)) a.0 ∙ none_refuses rules a.1

pub no_file : (o : Option Node) → is_directory_node o ≡ true → is_file_node o ≡ false
no_file None h = absurd cc
no_file (Some node) h = by_kind (is_kind_file node.kind) h
  where
    by_kind : (b : Bool) → not b ≡ true → b ≡ false
    by_kind true h = absurd cc
    by_kind false h = refl

not_both : (a b : Bool) → (a ≡ true → b ≡ false) → (a && b) ≡ false
not_both true b f = f refl
not_both false b f = refl

neither_of : (a b : Bool) → a ≡ false → b ≡ false → (a || b) ≡ false
neither_of a b f g = ap (λ (x : Bool). x || b) f ∙ g

-- ---- a number as a name
abbrev IsDigit : ℕ → Type 0
IsDigit b = (48 ≤ b) × (b ≤ 57)

all_after : (xs ys : List ℕ) → AllByRecursion IsDigit xs → AllByRecursion IsDigit ys → AllByRecursion IsDigit (xs ++ ys)
all_after [] ys a b = b
all_after (x ∷ xs) ys a b = (a.0, all_after xs ys a.1 b)

digits : (n : ℕ) → n < 2 ^ 64 → AllByRecursion IsDigit (decimal n)
digits n small = decimal_by_steps (λ n ds. AllByRecursion IsDigit ds)
    (λ n l. ((omega arith, omega arith), tt))
    (λ n ds l a. all_after ds ((48 + n % 10) ∷ []) a ((omega arith, omega arith), tt)) n small

some_digit : (n : ℕ) → n < 2 ^ 64 → 0 < length (decimal n)
some_digit n small = decimal_by_steps (λ n ds. 0 < length ds) (λ n l. omega arith) (λ n ds l a. longer ds ((48 + n % 10) ∷ []) a) n small
  where
    longer : (xs ys : List ℕ) → 0 < length xs → 0 < length (xs ++ ys)
    longer [] ys h = absurd (omega arith)
    longer (x ∷ xs) ys h = omega arith

bytes_of_digits : (bs : List ℕ) → AllByRecursion IsDigit bs → are_name_bytes bs ≡ true
bytes_of_digits [] a = refl
bytes_of_digits (b ∷ bs) a =
    let slash : (b == 47) ≡ false = ne_eqb b 47 (λ e. omega (arith, a.0.0)) in
    let nul : (b == 0) ≡ false = ne_eqb b 0 (λ e. omega (arith, a.0.0)) in
    ap (λ (x : Bool). (not x && not (b == 0)) && are_name_bytes bs) slash
    ∙ ap (λ (x : Bool). (true && not x) && are_name_bytes bs) nul ∙ bytes_of_digits bs a.1

no_dots : (bs : List ℕ) → AllByRecursion IsDigit bs → 0 < length bs → is_dots bs ≡ false
no_dots [] a l = absurd (omega arith)
no_dots (b ∷ bs) a l =
    let dot : nat_eq b 46 ≡ false = ne_eqb b 46 (λ e. omega (arith, a.0.0)) in
    ap (λ (x : Bool). (x && pointwise nat_eq bs []) || (nat_eq b 46 && pointwise nat_eq bs (46 ∷ []))) dot
    ∙ ap (λ (x : Bool). false || (x && pointwise nat_eq bs (46 ∷ []))) dot

pub number_is_name : (n : ℕ) → n < 2 ^ 32 → is_name (decimal n) ≡ true
number_is_name n small =
    let low : n < 2 ^ 64 = omega arith in
    let some : nat_lt 0 (length (decimal n)) ≡ true = lt-ltb 0 (length (decimal n)) (some_digit n low) in
    let few : nat_le (length (decimal n)) 255 ≡ true = le-leb (length (decimal n)) 255
    (let l : length (decimal n) ≤ 10 = length-decimal-le 10 n (omega arith) (omega arith) low in omega arith) in
    let bytes = bytes_of_digits (decimal n) (digits n low) in
    let dots = no_dots (decimal n) (digits n low) (some_digit n low) in
    ap (λ (x : Bool). (x && nat_le (length (decimal n)) 255) && are_name_bytes (decimal n) && not (is_dots (decimal n))) some
    ∙ ap (λ (x : Bool). (true && x) && are_name_bytes (decimal n) && not (is_dots (decimal n))) few
    ∙ ap (λ (x : Bool). (true && true) && x && not (is_dots (decimal n))) bytes
    ∙ ap (λ (x : Bool). (true && true) && true && not x) dots

-- ---- events
module _ (m : FileSystem) (t : IsTree m) where
  directory_is_there : (d : ℕ) → is_directory m d ≡ true → is_there m d ≡ true
  directory_is_there d h = directory_there (node_of m d) h

  directory_no_file : (d : ℕ) → is_directory m d ≡ true → is_file m d ≡ false
  directory_no_file d h = no_file (node_of m d) h

  used : (d : ℕ) (n : List ℕ) (x : ℕ) → child_of m d n ≡ Some x → not (is_used m d n) ≡ false
  used d n x f = ap (λ (o : Option ℕ). not (is_some o)) f

  pub unlink_taken : (d : ℕ) (n : List ℕ) (x : ℕ) → child_of m d n ≡ Some x → is_directory m x ≡ false → refusal_of m (Unlink d n) ≡ None
  unlink_taken d n x f k =
      let l = facts m t d n x f in
      none_refuses (unlink_rules m d n) (
        ap not l.name,
        (
          ap not (directory_is_there d l.parent),
          (
            directory_no_file d l.parent,
            (
              used d n x f,
              (
                subst (λ (o : Option ℕ). is_directory m (named o) ≡ false) (sym f) k,
                tt,
              ),
            ),
          ),
        ),
      )

  pub rmdir_taken : (d : ℕ) (n : List ℕ) (x : ℕ) → child_of m d n ≡ Some x → is_directory m x ≡ true → has_entries m.links x ≡ false
      → refusal_of m (Rmdir d n) ≡ None
  rmdir_taken d n x f k e =
      let l = facts m t d n x f in
      none_refuses (rmdir_rules m d n) (
        ap not l.name,
        (
          ap not (directory_is_there d l.parent),
          (
            directory_no_file d l.parent,
            (
              used d n x f,
              (
                subst (λ (o : Option ℕ). is_file m (named o) ≡ false) (sym f) (directory_no_file x k),
                (subst (λ (o : Option ℕ). has_entries m.links (named o) ≡ false) (sym f) e, tt),
              ),
            ),
          ),
        ),
      )

  -- to a free name
  pub rename_taken : (d : ℕ) (n : List ℕ) (to : ℕ) (new : List ℕ) (x : ℕ) → child_of m d n ≡ Some x → is_directory m to ≡ true
      → is_name new ≡ true → child_of m to new ≡ None
      → (is_directory m x ≡ true → is_within m.links x to ≡ false) → (is_directory m x ≡ true → is_too_deep m x to ≡ false)
      → refusal_of m (Rename d n to new) ≡ None
  rename_taken d n to new x f k name free loop deep =
      let l = facts m t d n x f in
      let moves : NoneApplies (cond (is_link_to x None) [] (move_rules m x to None)) =
      (not_both (is_directory m x) (is_within m.links x to) loop, (refl, (refl, (not_both (is_directory m x) (is_too_deep m x to) deep, tt)))) in
      none_refuses (rename_rules m d n to new) (
        neither_of (not (is_name n)) (not (is_name new)) (ap not l.name) (ap not name),
        (
          neither_of (not (is_there m d)) (not (is_there m to)) (ap not (directory_is_there d l.parent)) (ap not (directory_is_there to k)),
          (
            neither_of (is_file m d) (is_file m to) (directory_no_file d l.parent) (directory_no_file to k),
            (
              used d n x f,
              subst (λ (o : Option ℕ). NoneApplies (cond (is_link_to (named o) (child_of m to new)) [] (move_rules m (named o) to (child_of m to new))))
                  (sym f)
                  (subst (λ (o : Option ℕ). NoneApplies (cond (is_link_to x o) [] (move_rules m x to o))) (sym free) moves),
            ),
          ),
        ),
      )

  pub link_taken : (x d : ℕ) (n : List ℕ) → is_name n ≡ true → is_file m x ≡ true → is_directory m d ≡ true → child_of m d n ≡ None
      → refusal_of m (Link x d n) ≡ None
  link_taken x d n name file k free =
      none_refuses (link_rules m x d n) (
        ap not name,
        (
          neither_of (not (is_there m x)) (not (is_there m d)) (ap not (file_there (node_of m x) file)) (ap not (directory_is_there d k)),
          (
            neither_of (is_directory m x) (is_file m d) (file_no_directory (node_of m x) file) (directory_no_file d k),
            (ap is_some free, tt),
          ),
        ),
      )

  pub mkdir_taken : (x d : ℕ) (n : List ℕ) (perm : Perm) → is_name n ≡ true → is_there m x ≡ false → is_directory m d ≡ true → child_of m d n ≡ None
      → depth m.links d < 255
      → refusal_of m (Mkdir x d n perm) ≡ None
  mkdir_taken x d n perm name new k free low =
      none_refuses (mkdir_rules m x d n) (
        ap not name,
        (
          ap not (directory_is_there d k),
          (
            directory_no_file d k,
            (
              neither_of (is_there m x) (is_used m d n) new (ap is_some free),
              (lt-leb 255 (depth m.links d) low, tt),
            ),
          ),
        ),
      )

  pub create_taken : (x d : ℕ) (n : List ℕ) (perm : Perm) → is_name n ≡ true → is_there m x ≡ false → is_directory m d ≡ true → child_of m d n ≡ None
      → refusal_of m (Create x d n perm) ≡ None
  create_taken x d n perm name new k free =
      none_refuses (create_rules m x d n) (
        ap not name,
        (ap not (directory_is_there d k), (directory_no_file d k, (neither_of (is_there m x) (is_used m d n) new (ap is_some free), tt))),
      )

  pub there_taken : (x : ℕ) → is_there m x ≡ true → first_of (absent_rules m x) ≡ None
  there_taken x h = none_refuses (absent_rules m x) (ap not h, tt)
