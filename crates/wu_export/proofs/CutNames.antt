-- A path is the path of its directory, a slash and its last name.
use Rattle.std.proofs.Common.{◌≡◌, ◌≢◌, ℕ, zero, suc, ◌+◌, ◌<◌, ◌≤◌, Bool, true, false, cond, not, ◌&&◌, List, [], ◌∷◌, ◌++◌, length}
use Rattle.std.proofs.Common.{get_or, take, drop, refl, ap, sym, ◌∙◌, subst, append_assoc, length-append, arith, ◌||◌}
use Rattle.std.specs.Prelude.{◌==◌}
use Rattle.std.specs.List.{AllByRecursion, list_any}
use Rattle.std.proofs.Math.Seq.{get_or-append_seam, take-append_seam}
use Rattle.std.proofs.lemmas.Bool.{and_parts, or_right, eq-eqb, eqb-true}
use Rattle.std.proofs.lemmas.List.{append-nil}
use Rattle.wu_base.proofs.Members.{Has}
use Rattle.wu_view.specs.Views.{joined}
use Rattle.wu_tree.specs.FileSystems.{is_name, is_name_length, are_name_bytes, is_dots}
use Rattle.wu_export.specs.Exports.{is_slash, parent_path, last_name, directories_on}
use Rattle.wu_export.proofs.FoundDirectories.{slashes_has, has_slashes}

-- ---- slashes

-- how many slashes a path has: how many directories lie above one of that path
abbrev pub level : List ℕ → ℕ
level [] = 0
level (byte ∷ path) = cond (is_slash byte) 1 0 + level path

level-append : (p q : List ℕ) → level (p ++ q) ≡ level p + level q
level-append [] q = omega arith
level-append (byte ∷ p) q = omega (arith, level-append p q)

pub no_slash : (name : List ℕ) → are_name_bytes name ≡ true → list_any is_slash name ≡ false
no_slash [] h = refl
no_slash (byte ∷ name) h =
    let a = and_parts (not (byte == 47) && not (byte == 0)) (are_name_bytes name) h in
    let b = and_parts (not (byte == 47)) (not (byte == 0)) a.0 in
    rw (unequal (byte == 47) b.0) (no_slash name a.1)
  where
    unequal : (b : Bool) → not b ≡ true → b ≡ false
    unequal true e = sym e
    unequal false e = refl

level-no_slash : (name : List ℕ) → list_any is_slash name ≡ false → level name ≡ 0
level-no_slash [] h = refl
level-no_slash (byte ∷ name) h =
    elim (byte == 47) as (λ b. (b || list_any is_slash name) ≡ false → cond {A = ℕ} b 1 0 + level name ≡ 0) [
      | true ↦ λ g. absurd cc
      | false ↦ λ g. omega (arith, level-no_slash name g)
    ] h

any_slash : (p n : List ℕ) → list_any is_slash (p ++ 47 ∷ n) ≡ true
any_slash [] n = refl
any_slash (byte ∷ p) n = or_right (is_slash byte) (list_any is_slash (p ++ 47 ∷ n)) (any_slash p n)

pub level_below : (p name : List ℕ) → list_any is_slash name ≡ false → level (p ++ 47 ∷ name) ≡ suc (level p)
level_below p name h = omega (arith, level-append p (47 ∷ name), level-no_slash name h)

-- ---- the last name

parent_cut : (p name : List ℕ) → list_any is_slash name ≡ false → parent_path (p ++ 47 ∷ name) ≡ p
parent_cut [] name h = rw h refl
parent_cut (byte ∷ p) name h = rw (any_slash p name) (ap (λ (l : List ℕ). byte ∷ l) (parent_cut p name h))

last_cut : (p name : List ℕ) → list_any is_slash name ≡ false → last_name (p ++ 47 ∷ name) ≡ name
last_cut [] name h = rw h refl
last_cut (byte ∷ p) name h = rw (any_slash p name) (last_cut p name h)

-- ---- directories on a path

pub on_has : (q rest : List ℕ) → Has q (directories_on (q ++ 47 ∷ rest))
on_has q rest =
    let size : length q < 0 + length (q ++ 47 ∷ rest) = omega (arith, length-append q (47 ∷ rest)) in
    let is : is_slash (get_or (q ++ 47 ∷ rest) (length q) 0) ≡ true = ap is_slash (get_or-append_seam q 47 rest 0) in
    subst (λ (l : List ℕ). Has l (directories_on (q ++ 47 ∷ rest))) (take-append_seam q (47 ∷ rest))
    (has_slashes 0 (length (q ++ 47 ∷ rest)) (length q) (q ++ 47 ∷ rest) (omega arith) size is)

at_place : (path : List ℕ) (place : ℕ) → place < length path → is_slash (get_or path place 0) ≡ true
    → path ≡ take place path ++ 47 ∷ drop (suc place) path
at_place [] place l is = absurd (omega arith)
at_place (byte ∷ path) zero l is = let e : byte ≡ 47 = eqb-true byte 47 is in cc
at_place (byte ∷ path) (suc place) l is = ap (λ (l : List ℕ). byte ∷ l) (at_place path place (omega arith) is)

pub has_on : (path q : List ℕ) → Has q (directories_on path) → (rest : List ℕ) × (path ≡ q ++ 47 ∷ rest)
has_on path q h =
    let r = slashes_has 0 (length path) path q h in
    let e : path ≡ take r.0 path ++ 47 ∷ drop (suc r.0) path = at_place path r.0 (omega (arith, r.1.1)) r.1.2 in
    (drop (suc r.0) path, e ∙ ap (λ (l : List ℕ). l ++ 47 ∷ drop (suc r.0) path) r.1.3)

-- ---- names that are joined

joined-push : (names : List (List ℕ)) (name : List ℕ) → joined (names ++ name ∷ []) ≡ joined names ++ 47 ∷ name
joined-push [] name = ap (λ (l : List ℕ). 47 ∷ l) (append-nil name)
joined-push (n ∷ names) name = ap (λ (l : List ℕ). 47 ∷ (n ++ l)) (joined-push names name)
    ∙ ap (λ (l : List ℕ). 47 ∷ l) (sym (append_assoc n (joined names) (47 ∷ name)))

abbrev pub AreLegal : List (List ℕ) → Type 0
AreLegal names = AllByRecursion (λ name. is_name name ≡ true) names

pub name_no_slash : (name : List ℕ) → is_name name ≡ true → list_any is_slash name ≡ false
name_no_slash name h =
    let a = and_parts (is_name_length name && are_name_bytes name) (not (is_dots name)) h in
    let b = and_parts (is_name_length name) (are_name_bytes name) a.0 in
    no_slash name b.1

name_within : (name tail q rest : List ℕ) → list_any is_slash name ≡ false → name ++ tail ≡ q ++ 47 ∷ rest
    → (left : List ℕ) × (q ≡ name ++ left) × (tail ≡ left ++ 47 ∷ rest)
name_within [] tail q rest h e = (q, refl, e)
name_within (byte ∷ name) tail [] rest h e =
    let same : byte ≡ 47 = cc in
    let is : is_slash byte ≡ true = eq-eqb byte 47 same in
    absurd (let f : (true || list_any is_slash name) ≡ false = subst (λ (b : Bool). (b || list_any is_slash name) ≡ false) is h in cc)
name_within (byte ∷ name) tail (x ∷ q) rest h e =
    let same : byte ≡ x = cc in
    let more : name ++ tail ≡ q ++ 47 ∷ rest = cc in
    let r = name_within name tail q rest (or_false (is_slash byte) (list_any is_slash name) h) more in
    let is : q ≡ name ++ r.0 = r.1 in
    (r.0, cc, r.2)
  where
    or_false : (a b : Bool) → (a || b) ≡ false → b ≡ false
    or_false true b g = absurd cc
    or_false false b g = g

-- what stands before a slash is made of the first names
front_names : (names : List (List ℕ)) (q rest : List ℕ) → AreLegal names → joined names ≡ q ++ 47 ∷ rest
    → (front : List (List ℕ)) × AreLegal front × (suc (length front) ≤ length names) × (joined front ≡ q)
front_names [] [] rest a e = absurd cc
front_names [] (x ∷ q) rest a e = absurd cc
front_names (name ∷ names) [] rest a e = ([], tt, omega arith, refl)
front_names (name ∷ names) (x ∷ q) rest a e =
    let same : 47 ≡ x = cc in
    let more : name ++ joined names ≡ q ++ 47 ∷ rest = cc in
    let r = name_within name (joined names) q rest (name_no_slash name a.0) more in
    let f = front_names names r.0 rest a.1 r.2 in
    let first : 47 ∷ (name ++ joined f.0) ≡ x ∷ q =
    ap (λ (l : List ℕ). 47 ∷ (name ++ l)) f.3 ∙ ap (λ (l : List ℕ). 47 ∷ l) (sym r.1) ∙ ap (λ (b : ℕ). b ∷ q) same in
    (name ∷ f.0, (a.0, f.1), omega (arith, f.2), first)

pub level-joined : (names : List (List ℕ)) → AreLegal names → level (joined names) ≡ length names
level-joined [] a = refl
level-joined (name ∷ names) a =
    omega (arith, level-append name (joined names), level-no_slash name (name_no_slash name a.0), level-joined names a.1)

-- ---- cuts

-- a path that is that of a directory, a slash and a name
pub record IsCut (path : List ℕ) : Type 0 where
  pub named : is_name (last_name path) ≡ true
  pub spelled : parent_path path ++ 47 ∷ last_name path ≡ path
  pub deeper : level path ≡ suc (level (parent_path path))

cut_is : (path p name : List ℕ) → is_name name ≡ true → p ++ 47 ∷ name ≡ path → IsCut path
cut_is path p name h e =
    let none = name_no_slash name h in
    subst IsCut e (record {
      named = ap is_name (last_cut p name none) ∙ h;
      spelled = ap (λ (l : List ℕ). l ++ 47 ∷ last_name (p ++ 47 ∷ name)) (parent_cut p name none)
          ∙ ap (λ (l : List ℕ). p ++ 47 ∷ l) (last_cut p name none);
      deeper = level_below p name none ∙ ap (λ (l : List ℕ). suc (level l)) (sym (parent_cut p name none));
    })

last_of : (name : List ℕ) (names : List (List ℕ)) → AreLegal (name ∷ names)
    → (front : List (List ℕ)) × (last : List ℕ) × (is_name last ≡ true) × (name ∷ names ≡ front ++ last ∷ [])
last_of name [] a = ([], name, a.0, refl)
last_of name (next ∷ names) a =
    let r = last_of next names a.1 in
    (name ∷ r.0, r.1, r.2, ap (λ (l : List (List ℕ)). name ∷ l) r.3)

pub joined_cut : (names : List (List ℕ)) (path : List ℕ) → AreLegal names → joined names ≡ path → path ≢ [] → IsCut path
joined_cut [] path a e some = absurd (some (sym e))
joined_cut (name ∷ names) path a e some =
    let r = last_of name names a in
    cut_is path (joined r.0) r.1 r.2 (sym (joined-push r.0 r.1) ∙ sym (ap joined r.3) ∙ e)

-- a directory on a path of names
pub directory_facts : (names : List (List ℕ)) (path q : List ℕ) → AreLegal names → joined names ≡ path → Has q (directories_on path)
    → (level q < length names) × (q ≢ [] → IsCut q)
directory_facts names path q a e h =
    let r = has_on path q h in
    let f = front_names names q r.0 a (e ∙ r.1) in
    let size : level q ≡ length f.0 = ap level (sym f.3) ∙ level-joined f.0 f.1 in
    (omega (arith, f.2), λ some. joined_cut f.0 q f.1 f.3 some)

-- the directory of a path that is cut is on each path that goes on from it
pub parent_on : (path q : List ℕ) → IsCut q → Has q (directories_on path) → Has (parent_path q) (directories_on path)
parent_on path q c h =
    let r = has_on path q h in
    let same : parent_path q ++ 47 ∷ (last_name q ++ 47 ∷ r.0) ≡ path =
    sym (append_assoc (parent_path q) (47 ∷ last_name q) (47 ∷ r.0)) ∙ ap (λ (l : List ℕ). l ++ 47 ∷ r.0) c.spelled ∙ sym r.1 in
    subst (λ (l : List ℕ). Has (parent_path q) (directories_on l)) same (on_has (parent_path q) (last_name q ++ 47 ∷ r.0))

pub parent_on_path : (path : List ℕ) → IsCut path → Has (parent_path path) (directories_on path)
parent_on_path path c =
    subst (λ (l : List ℕ). Has (parent_path path) (directories_on l)) c.spelled (on_has (parent_path path) (last_name path))
