-- The files of a view by their places in it: their tokens, sums over them, and their units.
use Rattle.std.proofs.Common.{◌≡◌, ℕ, zero, suc, ◌+◌, ◌-◌, Bool, cond, List, [], ◌∷◌, ◌++◌, length, map, refl, sym, ap, ap₂, ◌∙◌, arith}
use Rattle.std.proofs.Common.{add-one, Some}
use Rattle.std.proofs.Math.Dec.{eqb-suc-zero}
use Rattle.std.proofs.lemmas.List.Sums.{sum_by-cons}
use Rattle.std.specs.Prelude.{slice_get}
use Rattle.std.specs.List.{sum_by, range_with_len}
use Rattle.wu_gcl.specs.Extents.{token_hits}
use Rattle.wu_gcl.specs.Regions.{Region}
use Rattle.wu_rank.specs.declared.results.Unit.{Unit as RankedUnit}
use Rattle.wu_token.specs.Tokens.{tokens_of}
use Rattle.wu_view.specs.declared.Seen.{Seen}
use Rattle.wu_query.specs.States.{Texts, text_in}
use Rattle.wu_query.specs.View.{Shown, shown_of}
use Rattle.wu_query.specs.Hits.{hits_in}
use Rattle.wu_query.specs.Rankings.{unit_at, units_from, units_of, tokens_at}
use Rattle.wu_query.proofs.UnitsOfFrames.{units_in_files}

-- the places of the files, in the order of the view
abbrev pub all_places : List Shown → List ℕ
all_places files = range_with_len 0 (length files)

pub tokens_after : (file : Shown) (files : List Shown) (place : ℕ) → tokens_at (file ∷ files) (suc place) ≡ tokens_at files place
tokens_after file files place =
    let less : suc place - 1 ≡ place = omega arith in
    ap (λ (b : Bool). cond b (tokens_of file.text) (tokens_at files (suc place - 1))) (eqb-suc-zero place) ∙ ap (tokens_at files) less

-- the tokens at a place are those of the file there
pub tokens_of_file : (texts : Texts) (view : List Seen) (place : ℕ) (file : Seen) → slice_get view place ≡ Some file
    → tokens_at (map (shown_of texts) view) place ≡ tokens_of (text_in texts file.ino)
tokens_of_file texts [] place file there = absurd (cc)
tokens_of_file texts (first ∷ view) zero file there =
    let same : first ≡ file = cc in ap (λ (s : Seen). tokens_of (text_in texts s.ino)) same
tokens_of_file texts (first ∷ view) (suc place) file there =
    tokens_after (shown_of texts first) (map (shown_of texts) view) place ∙ tokens_of_file texts view place file there

-- a sum over the tokens of files is that over the places that they have in a view
pub sums_by_place : (f : List (List ℕ) → ℕ) (view : List Shown) (first : ℕ) (files : List Shown)
    → ((i : ℕ) → tokens_at view (first + i) ≡ tokens_at files i)
    → sum_by (λ place. f (tokens_at view place)) (range_with_len first (length files)) ≡ sum_by (λ file. f (tokens_of file.text)) files
sums_by_place f view first [] same = refl
sums_by_place f view first (file ∷ files) same =
    let zeroth : first ≡ first + 0 = omega arith in
    sum_by-cons (λ place. f (tokens_at view place)) first (range_with_len (first + 1) (length files))
    ∙ ap₂ (λ (m n : ℕ). m + n) (ap f (ap (tokens_at view) zeroth ∙ same 0))
    (sums_by_place f view (first + 1) files
    (λ i. let e : (first + 1) + i ≡ first + suc i = omega arith in ap (tokens_at view) e ∙ same (suc i) ∙ tokens_after file files i))
    ∙ sym (sum_by-cons (λ (f' : Shown). f (tokens_of f'.text)) file files)

-- ---- units

units_from-places : (region : Region) (view : List Shown) (first : ℕ) (files : List Shown)
    → ((i : ℕ) → tokens_at view (first + i) ≡ tokens_at files i)
    → units_from first region files ≡ units_in_files region (tokens_at view) (range_with_len first (length files))
unfolding hits_in
units_from-places region view first [] same = refl
units_from-places region view first (file ∷ files) same =
    let zeroth : first ≡ first + 0 = omega arith in
    ap₂ (λ (us vs : List RankedUnit). us ++ vs)
    (ap (λ (ts : List (List ℕ)). map (unit_at first) (token_hits region ts)) (sym (ap (tokens_at view) zeroth ∙ same 0)))
    (ap (λ (n : ℕ). units_from n region files) (sym (add-one first))
    ∙ units_from-places region view (first + 1) files
    (λ i. let e : (first + 1) + i ≡ first + suc i = omega arith in ap (tokens_at view) e ∙ same (suc i) ∙ tokens_after file files i))

-- the units of a view, place by place
pub units_of-places : (region : Region) (view : List Shown)
    → units_of region view ≡ units_in_files region (tokens_at view) (all_places view)
unfolding units_of
units_of-places region view = units_from-places region view 0 view (λ i. let e : 0 + i ≡ i = omega arith in ap (tokens_at view) e)
