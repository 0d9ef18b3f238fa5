-- Answers over the files of a view.
use Rattle.std.proofs.Common.{◌≡◌, ℕ, ◌+◌, ◌<◌, ◌≤◌, List, length, map, take, take_all, get_or, [], ◌∷◌, ◌++◌, Ok, Err, Result, IfOk, refl}
use Rattle.std.proofs.Common.{ap, sym, ◌∙◌}
use Rattle.std.proofs.lemmas.List.{take_more}
use Rattle.std.specs.List.{flat_map}
use Rattle.wu_ask.specs.declared.Answered.{Answered}
use Rattle.wu_ask.specs.declared.Answered.TheVariants.{Paths}
use Rattle.wu_ask.specs.declared.RankLine.{RankLine}
use Rattle.wu_ask.specs.Questions.{ListingPaths}
use Rattle.wu_rank.specs.declared.results.Ranked.{Ranked}
use Rattle.wu_view.specs.declared.Seen.{Seen}
use Rattle.wu_view.specs.Views.{view_of as files_of}
use Rattle.wu_query.specs.Answer.{answer}
use Rattle.wu_query.specs.States.{State, Texts}
use Rattle.wu_query.specs.View.{shown_of, view_of}

flat_map-shown : (texts : Texts) (view : List Seen)
    → flat_map (λ seen. seen.paths) view ≡ flat_map (λ file. file.paths) (map (shown_of texts) view)
flat_map-shown texts [] = refl
flat_map-shown texts (seen ∷ view) = ap (λ more. seen.paths ++ more) (flat_map-shown texts view)

-- the answer to a question for paths, from the files of the view
pub paths_listed : (s : State) (uid : ℕ) (view : List Seen) (answered : Answered) → view ≡ files_of s.tree uid
    → answered ≡ Paths (flat_map (λ seen. seen.paths) view) → answered ≡ answer (view_of s uid) ListingPaths
unfolding answer view_of
paths_listed s uid view answered seen is =
    is ∙ ap (λ (v : List Seen). Paths (flat_map (λ seen. seen.paths) v)) seen
    ∙ ap (λ (ps : List (List ℕ)). Paths ps) (flat_map-shown s.texts (files_of s.tree uid))

map-more : {X Y : Type 0} (f : X → Y) (xs : List X) (x : X) → map f (xs ++ x ∷ []) ≡ map f xs ++ f x ∷ []
map-more f [] x = refl
map-more f (y ∷ xs) x = ap (λ ys. f y ∷ ys) (map-more f xs x)

-- one more element has its image
pub mapped_more : {X Y : Type 0} (f : X → Y) (xs : List X) (ys now : List Y) (i : ℕ) (x : X) (y : Y) → i < length xs → x ≡ get_or xs i x
    → ys ≡ map f (take i xs) → now ≡ ys ++ y ∷ [] → y ≡ f x → now ≡ map f (take (i + 1) xs)
mapped_more f xs ys now i x y within is before pushed image =
    pushed ∙ ap (λ ls. ls ++ y ∷ []) before ∙ ap (λ l. map f (take i xs) ++ l ∷ []) (image ∙ ap f is)
    ∙ sym (map-more f (take i xs) (get_or xs i x)) ∙ ap (map f) (sym (take_more xs i x within))

-- one more unit has its line
pub lines_more : (line_for : Ranked → RankLine) (lines now : List RankLine) (top : List Ranked) (i : ℕ) (d : Ranked) (line : RankLine)
    → i < length top → lines ≡ map line_for (take i top) → now ≡ lines ++ line ∷ [] → line ≡ line_for (get_or top i d)
    → now ≡ map line_for (take (i + 1) top)
lines_more line_for lines now top i d line within before pushed is =
    pushed ∙ ap (λ ls. ls ++ line ∷ []) before ∙ ap (λ l. map line_for (take i top) ++ l ∷ []) is
    ∙ sym (map-more line_for (take i top) (get_or top i d)) ∙ ap (map line_for) (sym (take_more top i d within))

pub lines_all : (line_for : Ranked → RankLine) (lines : List RankLine) (top : List Ranked) (i : ℕ) → length top ≤ i
    → lines ≡ map line_for (take i top) → lines ≡ map line_for top
lines_all line_for lines top i all is = is ∙ ap (map line_for) (take_all i top all)

-- what follows for each value holds of the value of a result
pub if_ok : {T E : Type 0} (r : Result T E) {P Q : T → Type 0} → IfOk r P → ((value : T) → P value → Q value) → IfOk r Q
if_ok (Ok value) h step = step value h
if_ok (Err error) h step = h
