-- Links put together by file as they come: a further link of a file goes behind the others of that file.
use Rattle.std.proofs.Common.{◌≡◌, ℕ, zero, suc, ◌+◌, ◌<◌, ◌≤◌, List, [], ◌∷◌, ◌++◌, length, get_or, set, refl, ap, sym, ◌∙◌, subst}
use Rattle.std.proofs.Common.{Bool, true, false, not, cond, Option, None, Some, arith}
use Rattle.std.specs.Prelude.{◌==◌, map, filter, Result, Ok, Err, OnOk}
use Rattle.std.specs.List.{position_from}
use Rattle.std.proofs.lemmas.List.{append-nil, map-append}
use Rattle.std.proofs.lemmas.List.Elements.{filter-append}
use borrow.Author.Tests.{eqb-true, eq-eqb, ne_eqb}
use Rattle.wu_view.specs.declared.Seen.{Seen}
use Rattle.wu_view.specs.declared.links.Link.{Link}
use Rattle.wu_view.specs.declared.links.FileLink.{FileLink}
use Rattle.wu_view.specs.declared.views.File.{File}
use Rattle.wu_view.specs.Groups.{firsts, grouped, paths_of, with_found}
use Rattle.wu_view.specs.KeptViews.{kept_file, place_of, with_further}
use Rattle.wu_view.specs.LinkLists.{file_at, link_path}
use Rattle.wu_view.specs.Walks.{Found}

abbrev seen : List (List ℕ) → ℕ → Seen
seen paths ino = record { paths = paths; ino = ino }

-- ---- one path more
abbrev others : ℕ → List Seen → List Seen
others q files = filter (λ s. not (s.ino == q)) files

-- a path of a file that is left out
others_skip : (x : Found) (files : List Seen) → others x.0 (with_found files x) ≡ others x.0 files
others_skip x [] = rw (eq-eqb x.0 x.0 refl) refl
others_skip x (s ∷ files) =
    elim (s.ino == x.0) as
    (λ b. (s.ino == x.0) ≡ b
    → others x.0 (cond b (seen (s.paths ++ x.1 ∷ []) s.ino ∷ files) (s ∷ with_found files x))
    ≡ cond (not b) (s ∷ others x.0 files) (others x.0 files)) [
      | true ↦ λ p. rw p refl
      | false ↦ λ p. rw p (ap (λ (l : List Seen). s ∷ l) (others_skip x files))
    ] refl

-- and of another file
others_keep : (q : ℕ) (x : Found) → (x.0 == q) ≡ false → (files : List Seen)
    → others q (with_found files x) ≡ with_found (others q files) x
others_keep q x n [] = rw n refl
others_keep q x n (s ∷ files) =
    elim (s.ino == q) as
    (λ b. (s.ino == q) ≡ b
    → others q (cond (s.ino == x.0) (seen (s.paths ++ x.1 ∷ []) s.ino ∷ files) (s ∷ with_found files x))
    ≡ with_found (cond (not b) (s ∷ others q files) (others q files)) x) [
      | true ↦ λ p.
          let d : (s.ino == x.0) ≡ false = apart s.ino q x.0 p n in
          rw (d, p) (others_keep q x n files)
      | false ↦ λ p. elim (s.ino == x.0) as
          (λ c. others q (cond c (seen (s.paths ++ x.1 ∷ []) s.ino ∷ files) (s ∷ with_found files x))
          ≡ cond c (seen (s.paths ++ x.1 ∷ []) s.ino ∷ others q files) (s ∷ with_found (others q files) x)) [
            | true ↦ rw p refl
            | false ↦ rw p (ap (λ (l : List Seen). s ∷ l) (others_keep q x n files))
          ]
    ] refl
  where
    apart : (a b c : ℕ) → (a == b) ≡ true → (c == b) ≡ false → (a == c) ≡ false
    apart a b c e n = ne_eqb a c (λ i. let f : (c == b) ≡ true = eq-eqb c b (sym i ∙ eqb-true a b e) in cc)

-- the first file with its paths, and the other files
paths_behind : (q : ℕ) (f : Found) → (f.0 == q) ≡ false → (found : List Found) → paths_of q (f ∷ found) ≡ paths_of q found
paths_behind q f n found = rw n refl

paths_there : (f : Found) (found : List Found) → paths_of f.0 (f ∷ found) ≡ f.1 ∷ paths_of f.0 found
paths_there f found = rw (eq-eqb f.0 f.0 refl) refl

abbrev as_seen : List Found → Found → Seen
as_seen found f = seen (paths_of f.0 found) f.0

behind : (f : Found) (found files : List Found)
    → map (as_seen (f ∷ found)) (filter (λ g. not (g.0 == f.0)) files) ≡ others f.0 (map (as_seen found) files)
behind f found [] = refl
behind f found (g ∷ files) =
    elim (g.0 == f.0) as
    (λ b. (g.0 == f.0) ≡ b
    → map (as_seen (f ∷ found)) (cond (not b) (g ∷ filter (λ g. not (g.0 == f.0)) files) (filter (λ g. not (g.0 == f.0)) files))
    ≡ cond (not b) (as_seen found g ∷ others f.0 (map (as_seen found) files)) (others f.0 (map (as_seen found) files))) [
      | true ↦ λ p. behind f found files
      | false ↦ λ p.
          let n : (f.0 == g.0) ≡ false = ne_eqb f.0 g.0 (λ e. let h : (g.0 == f.0) ≡ true = eq-eqb g.0 f.0 (sym e) in cc) in
          ap (λ (l : List (List ℕ)). seen l g.0 ∷ map (as_seen (f ∷ found)) (filter (λ g. not (g.0 == f.0)) files))
          (paths_behind g.0 f n found)
          ∙ ap (λ (l : List Seen). as_seen found g ∷ l) (behind f found files)
    ] refl

grouped_cons : (f : Found) (found : List Found) → grouped (f ∷ found) ≡ seen (f.1 ∷ paths_of f.0 found) f.0 ∷ others f.0 (grouped found)
grouped_cons f found =
    ap (λ (l : List (List ℕ)). seen l f.0 ∷ map (as_seen (f ∷ found)) (filter (λ g. not (g.0 == f.0)) (firsts found)))
    (paths_there f found)
    ∙ ap (λ (l : List Seen). seen (f.1 ∷ paths_of f.0 found) f.0 ∷ l) (behind f found (firsts found))

paths_snoc : (q : ℕ) (found : List Found) (x : Found)
    → paths_of q (found ++ x ∷ []) ≡ paths_of q found ++ cond (x.0 == q) (x.1 ∷ []) []
paths_snoc q found x =
    ap (map (λ (f : Found). f.1)) (filter-append (λ (f : Found). f.0 == q) found (x ∷ []))
    ∙ map-append (λ (f : Found). f.1) (filter (λ f. f.0 == q) found) (filter (λ f. f.0 == q) (x ∷ []))
    ∙ ap (λ (l : List (List ℕ)). paths_of q found ++ l) (alone (x.0 == q))
  where
    alone : (b : Bool) → map (λ (f : Found). f.1) (cond b (x ∷ []) []) ≡ cond b (x.1 ∷ []) []
    alone true = refl
    alone false = refl

one_more : (f x : Found) (paths : List (List ℕ)) (files : List Seen)
    → seen (f.1 ∷ (paths ++ cond (x.0 == f.0) (x.1 ∷ []) [])) f.0 ∷ others f.0 (with_found files x)
    ≡ with_found (seen (f.1 ∷ paths) f.0 ∷ others f.0 files) x
one_more f x paths files =
    elim (f.0 == x.0) as
    (λ b. (f.0 == x.0) ≡ b
    → seen (f.1 ∷ (paths ++ cond (x.0 == f.0) (x.1 ∷ []) [])) f.0 ∷ others f.0 (with_found files x)
    ≡ cond b (seen (f.1 ∷ (paths ++ x.1 ∷ [])) f.0 ∷ others f.0 files) (seen (f.1 ∷ paths) f.0 ∷ with_found (others f.0 files) x)) [
      | true ↦ λ p.
          let e : x.0 ≡ f.0 = sym (eqb-true f.0 x.0 p) in
          ap (λ (b : Bool). seen (f.1 ∷ (paths ++ cond b (x.1 ∷ []) [])) f.0 ∷ others f.0 (with_found files x)) (eq-eqb x.0 f.0 e)
          ∙ ap (λ (l : List Seen). seen (f.1 ∷ (paths ++ x.1 ∷ [])) f.0 ∷ l)
          (subst (λ q. others q (with_found files x) ≡ others q files) e (others_skip x files))
      | false ↦ λ p.
          let n : (x.0 == f.0) ≡ false = ne_eqb x.0 f.0 (λ e. let h : (f.0 == x.0) ≡ true = eq-eqb f.0 x.0 (sym e) in cc) in
          ap (λ (b : Bool). seen (f.1 ∷ (paths ++ cond b (x.1 ∷ []) [])) f.0 ∷ others f.0 (with_found files x)) n
          ∙ ap (λ (l : List (List ℕ)). seen (f.1 ∷ l) f.0 ∷ others f.0 (with_found files x)) (append-nil paths)
          ∙ ap (λ (l : List Seen). seen (f.1 ∷ paths) f.0 ∷ l) (others_keep f.0 x n files)
    ] refl

pub grouped_snoc : (found : List Found) (x : Found) → grouped (found ++ x ∷ []) ≡ with_found (grouped found) x
grouped_snoc [] x = rw (eq-eqb x.0 x.0 refl) refl
grouped_snoc (f ∷ found) x =
    grouped_cons f (found ++ x ∷ [])
    ∙ ap (λ (l : List (List ℕ)). seen (f.1 ∷ l) f.0 ∷ others f.0 (grouped (found ++ x ∷ []))) (paths_snoc f.0 found x)
    ∙ ap (λ (l : List Seen). seen (f.1 ∷ (paths_of f.0 found ++ cond (x.0 == f.0) (x.1 ∷ []) [])) f.0 ∷ others f.0 l)
    (grouped_snoc found x)
    ∙ one_more f x (paths_of f.0 found) (grouped found)
    ∙ ap (λ (l : List Seen). with_found l x) (sym (grouped_cons f found))

-- ---- the files as they are kept
abbrev behind_link : File → Link → File
behind_link file link = record { ino = file.ino; first = file.first; further = file.further ++ link ∷ [] }

abbrev pub file_of : ℕ → Link → File
file_of ino link = record { ino = ino; first = link; further = [] }

pub set_further : (files : List File) (k : ℕ) (file : File) (link : Link) → k < length files → file ≡ get_or files k file
    → set files k (behind_link file link) ≡ with_further files k link
set_further [] k file link l e = absurd (omega arith)
set_further (f ∷ files) zero file link l e = ap (λ (x : File). behind_link x link ∷ files) e
set_further (f ∷ files) (suc k) file link l e = ap (λ (x : List File). f ∷ x) (set_further files k file link (omega arith) e)

pub none_further : (files : List File) (k : ℕ) (link : Link) → length files ≤ k → files ≡ with_further files k link
none_further [] k link l = refl
none_further (f ∷ files) zero link l = absurd (omega arith)
none_further (f ∷ files) (suc k) link l = ap (λ (x : List File). f ∷ x) (none_further files k link (omega arith))

-- ---- the places of the files
same_from : (q i : ℕ) (files : List File) (k : ℕ) (link : Link)
    → position_from (λ file. file.ino == q) i (with_further files k link) ≡ position_from (λ file. file.ino == q) i files
same_from q i [] k link = refl
same_from q i (f ∷ files) zero link = refl
same_from q i (f ∷ files) (suc k) link = ap (λ (o : Option ℕ). cond (f.ino == q) (Some i) o) (same_from q (i + 1) files k link)

pub same_places : (q : ℕ) (files : List File) (k : ℕ) (link : Link) → place_of q (with_further files k link) ≡ place_of q files
same_places q files k link = same_from q 0 files k link

new_place : (i : ℕ) (files : List File) (new : File) → position_from (λ file. file.ino == new.ino) i files ≡ None
    → position_from (λ file. file.ino == new.ino) i (files ++ new ∷ []) ≡ Some (i + length files)
new_place i [] new h = rw (eq-eqb new.ino new.ino refl) (let e : i ≡ i + 0 = omega arith in ap (λ (n : ℕ). Some n) e)
new_place i (f ∷ files) new h =
    elim (f.ino == new.ino) as
    (λ b. cond b (Some i) (position_from (λ file. file.ino == new.ino) (i + 1) files) ≡ None
    → cond b (Some i) (position_from (λ file. file.ino == new.ino) (i + 1) (files ++ new ∷ [])) ≡ Some (i + suc (length files))) [
      | true ↦ λ g. absurd cc
      | false ↦ λ g.
          let e : (i + 1) + length files ≡ i + suc (length files) = omega arith in
          new_place (i + 1) files new g ∙ ap (λ (n : ℕ). Some n) e
    ] h

other_place : (q i : ℕ) (files : List File) (new : File) → (new.ino == q) ≡ false
    → position_from (λ file. file.ino == q) i (files ++ new ∷ []) ≡ position_from (λ file. file.ino == q) i files
other_place q i [] new n = rw n refl
other_place q i (f ∷ files) new n = ap (λ (o : Option ℕ). cond (f.ino == q) (Some i) o) (other_place q (i + 1) files new n)

pub places_more : (q : ℕ) (files : List File) (new : File) → place_of new.ino files ≡ None
    → place_of q (files ++ new ∷ []) ≡ cond (q == new.ino) (Some (length files)) (place_of q files)
places_more q files new h =
    elim (q == new.ino) as
    (λ b. (q == new.ino) ≡ b → place_of q (files ++ new ∷ []) ≡ cond b (Some (length files)) (place_of q files)) [
      | true ↦ λ p.
          let e : new.ino ≡ q = sym (eqb-true q new.ino p) in
          let z : 0 + length files ≡ length files = omega arith in
          subst (λ r. place_of r (files ++ new ∷ []) ≡ Some (length files)) e
          (new_place 0 files new h ∙ ap (λ (n : ℕ). Some n) z)
      | false ↦ λ p. other_place q 0 files new
          (ne_eqb new.ino q (λ e. let g : (q == new.ino) ≡ true = eq-eqb q new.ino (sym e) in cc))
    ] refl

-- ---- a link, where its file is there, and where it isn't
there_from : (paths : List (List ℕ)) (i : ℕ) (files : List File) (found : FileLink) (k : ℕ)
    → position_from (λ file. file.ino == found.ino) i files ≡ Some k
    → (j : ℕ) × ((i + j ≡ k)
    × (map (kept_file paths) (with_further files j found.link) ≡ with_found (map (kept_file paths) files) (file_at paths found)))
there_from paths i [] found k h = absurd cc
there_from paths i (f ∷ files) found k h =
    elim (f.ino == found.ino) as
    (λ b. cond b (Some i) (position_from (λ file. file.ino == found.ino) (i + 1) files) ≡ Some k
    → (j : ℕ) × ((i + j ≡ k)
    × (map (kept_file paths) (with_further (f ∷ files) j found.link)
    ≡ cond b (seen (map (link_path paths) (f.first ∷ f.further) ++ link_path paths found.link ∷ []) f.ino ∷ map (kept_file paths) files)
    (kept_file paths f ∷ with_found (map (kept_file paths) files) (file_at paths found))))) [
      | true ↦ λ g.
          let e : i ≡ k = cc in (
            zero,
            (
              omega arith,
              ap (λ (l : List (List ℕ)). seen (link_path paths f.first ∷ l) f.ino ∷ map (kept_file paths) files)
                  (map-append (link_path paths) f.further (found.link ∷ [])),
            ),
          )
      | false ↦ λ g.
          let r = there_from paths (i + 1) files found k g in
          let e : (i + 1) + r.0 ≡ k = r.1.0 in
          (suc r.0, (omega arith, ap (λ (l : List Seen). kept_file paths f ∷ l) r.1.1))
    ] h

pub there : (paths : List (List ℕ)) (files : List File) (found : FileLink) (k : ℕ) → place_of found.ino files ≡ Some k
    → map (kept_file paths) (with_further files k found.link) ≡ with_found (map (kept_file paths) files) (file_at paths found)
there paths files found k h =
    let r = there_from paths 0 files found k h in
    let n : 0 + r.0 ≡ k = r.1.0 in
    let e : r.0 ≡ k = omega arith in
    subst
    (λ j. map (kept_file paths) (with_further files j found.link) ≡ with_found (map (kept_file paths) files) (file_at paths found)) e r.1.1

not_there_from : (paths : List (List ℕ)) (i : ℕ) (files : List File) (found : FileLink)
    → position_from (λ file. file.ino == found.ino) i files ≡ None
    → map (kept_file paths) (files ++ file_of found.ino found.link ∷ [])
    ≡ with_found (map (kept_file paths) files) (file_at paths found)
not_there_from paths i [] found h = refl
not_there_from paths i (f ∷ files) found h =
    elim (f.ino == found.ino) as
    (λ b. cond b (Some i) (position_from (λ file. file.ino == found.ino) (i + 1) files) ≡ None
    → kept_file paths f ∷ map (kept_file paths) (files ++ file_of found.ino found.link ∷ [])
    ≡ cond b (seen (map (link_path paths) (f.first ∷ f.further) ++ link_path paths found.link ∷ []) f.ino ∷ map (kept_file paths) files)
    (kept_file paths f ∷ with_found (map (kept_file paths) files) (file_at paths found))) [
      | true ↦ λ g. absurd cc
      | false ↦ λ g. ap (λ (l : List Seen). kept_file paths f ∷ l) (not_there_from paths (i + 1) files found g)
    ] h

pub not_there : (paths : List (List ℕ)) (files : List File) (found : FileLink) → place_of found.ino files ≡ None
    → map (kept_file paths) (files ++ file_of found.ino found.link ∷ [])
    ≡ with_found (map (kept_file paths) files) (file_at paths found)
not_there paths files found h = not_there_from paths 0 files found h

-- ---- turns
pub carried : {T E A B : Type 0} (r : Result T E) → OnOk r A → (A → B) → OnOk r B
carried (Ok value) holds so = so holds
carried (Err error) holds so = tt

pub one_link : (paths : List (List ℕ)) (links : List FileLink) (found : FileLink)
    → with_found (grouped (map (file_at paths) links)) (file_at paths found) ≡ grouped (map (file_at paths) (links ++ found ∷ []))
one_link paths links found =
    sym (grouped_snoc (map (file_at paths) links) (file_at paths found))
    ∙ ap (λ (l : List Found). grouped l) (sym (map-append (file_at paths) links (found ∷ [])))
