-- What every answer is like: its order, and what it depends on.
use Rattle.std.proofs.Common.{◌≡◌, ℕ, zero, suc, ◌+◌, ◌-◌, ◌^◌, ◌<◌, ◌≤◌, Bool, true, false, not, ◌&&◌, ◌⊎◌, List, [], ◌∷◌, ◌++◌, length}
use Rattle.std.proofs.Common.{map, refl, sym, ap, ◌∙◌, subst, inl, inr, arith, eqb, eqb-true, get_or, drop, drop-cons, add-one}
use Rattle.std.proofs.Common.{append_assoc}
use Rattle.std.specs.Cmp.{both_ways}
use Rattle.std.specs.Prelude.{filter, Contains, All, nat_lt}
use Rattle.std.specs.List.{range_with_len, AllByRecursion}
use Rattle.std.proofs.lemmas.List.Elements.{All-from_recursion, Contains-append_left, Contains-append_right}
use Rattle.wu_base.specs.declared.addresses.Extent.{Extent}
use Rattle.wu_base.specs.declared.addresses.Range.{Range}
use Rattle.wu_base.specs.declared.addresses.TermList.{TermList}
use Rattle.wu_gcl.specs.declared.expressions.Op.{Op}
use Rattle.wu_gcl.specs.declared.expressions.Op.TheVariants.{Containing, ContainedIn, NotContaining, NotContainedIn, OneOf, BothOf}
use Rattle.wu_gcl.specs.declared.expressions.Op.TheVariants.{FollowedBy}
use Rattle.wu_gcl.specs.declared.expressions.Tag.TheVariants.{FileStart, FileEnd, LineStart, LineEnd}
use Rattle.wu_gcl.specs.Regions.{Region, Phrase, Mark, WholeFile, WholeLine, Window, Both}
use Rattle.wu_gcl.specs.Reading.{tag_text}
use Rattle.wu_gcl.specs.Terms.{terms_in}
use Rattle.wu_gcl.specs.Extents.{holds, same_extent, some_extent, extents_of, containing, contained_in, not_containing, not_contained_in}
use Rattle.wu_gcl.specs.Extents.{innermost, in_either, holds_both, holds_in_order, combined, words_stand, is_term_at, is_in, hits}
use Rattle.wu_gcl.specs.Extents.{is_token_at, token_hits}
use Rattle.wu_solve.specs.Listing.{IsBefore, IsAscending, Has, IsExtentIn, Lists}
use Rattle.wu_solve.specs.Addresses.{has_address, stands_by}
use Rattle.wu_solve.specs.Operands.{run_from}
use Rattle.wu_solve.specs.Merging.{holding, held}
use Rattle.wu_solve.specs.Solving.{moved, frame_hits, frames_hits}
use Rattle.wu_base.specs.Ranges.{AreApart}
use Rattle.wu_solve.proofs.Sets.{all_has, all_from, has_either}
use Rattle.wu_solve.proofs.Order.{listed, some_found, some_from, extents_in}
use Rattle.wu_solve.proofs.Operators.{filter_lists}
use Rattle.wu_solve.proofs.Phrases.{windows_listed, no_windows}
use Rattle.wu_solve.proofs.Unions.{union, union_inner}
use Rattle.wu_solve.proofs.Covers.{covers, covers_inner}
use Rattle.wu_solve.proofs.Spans.{spans, spans_inner}
use Rattle.wu_solve.proofs.Combining.{containing_combined, not_containing_combined, contained_in_combined, not_contained_in_combined}
use Rattle.wu_solve.proofs.Combining.{one_of_combined, both_of_combined, followed_by_combined, word_listed, mark_listed, file_listed}
use Rattle.wu_solve.proofs.Combining.{line_listed, both_listed}

-- each set of an expression has a list

abbrev Listing : ℕ → (Extent → Bool) → Type 0
Listing n set = (xs : List Extent) × Lists n set xs

combined_listing : (op : Op) (n : ℕ) (left right : Extent → Bool) → Listing n left → Listing n right → Listing n (combined op n left right)
combined_listing Containing n left right l r = (holding true l.0 r.0, containing_combined n left right l.0 r.0 l.1 r.1)
combined_listing ContainedIn n left right l r = (held true l.0 r.0, contained_in_combined n left right l.0 r.0 l.1 r.1)
combined_listing NotContaining n left right l r = (holding false l.0 r.0, not_containing_combined n left right l.0 r.0 l.1 r.1)
combined_listing NotContainedIn n left right l r = (held false l.0 r.0, not_contained_in_combined n left right l.0 r.0 l.1 r.1)
combined_listing OneOf n left right l r =
    (union l.0 r.0, one_of_combined n left right l.0 r.0 l.1 r.1 (union l.0 r.0) (union_inner l.0 r.0 l.1.ascending r.1.ascending))
combined_listing BothOf n left right l r =
    (covers l.0 r.0, both_of_combined n left right l.0 r.0 l.1 r.1 (covers l.0 r.0) (covers_inner l.0 r.0 l.1.ascending r.1.ascending))
combined_listing FollowedBy n left right l r =
    (spans l.0 r.0, followed_by_combined n left right l.0 r.0 l.1 r.1 (spans l.0 r.0) (spans_inner l.0 r.0 l.1.ascending r.1.ascending))

window_listing : (size n : ℕ) (stands : List ℕ → ℕ → Bool) → Listing n (is_in (Window size) stands n)
window_listing size n stands =
    let cases : ((size ≡ 0) ⊎ (n < size)) ⊎ ((0 < size) × (size ≤ n)) = by_size size in
    elim cases [
      | inl none ↦ ([], no_windows size n stands none)
      | inr some ↦ (map (run_from (size - 1)) (range_with_len 0 (n - size + 1)), windows_listed size n stands some.0 some.1)
    ]
  where
    by_size : (size : ℕ) → ((size ≡ 0) ⊎ (n < size)) ⊎ ((0 < size) × (size ≤ n))
    by_size zero = inl (inl refl)
    by_size (suc k) =
        let within : (n < suc k) ⊎ (suc k ≤ n) = grind arith in
        elim within [ inl large ↦ inl (inr large) | inr fits ↦ inr (omega arith, fits) ]

phrase_listing : (words : List (List ℕ)) (stands : List ℕ → ℕ → Bool) (n : ℕ) → Listing n (is_in (Phrase words) stands n)
unfolding is_in
phrase_listing words stands n =
    let w = window_listing (length words) n stands in (
      filter (λ x. words_stand stands words x.start) w.0,
      filter_lists n (is_in (Window (length words)) stands n)
          (λ x. words_stand stands words x.start) w.0 w.1,
    )

term_listing : (term : List ℕ) (stands : List ℕ → ℕ → Bool) (n : ℕ) → Listing n (is_term_at stands term)
term_listing term stands n = let w = phrase_listing (term ∷ []) stands n in (w.0, word_listed n stands term w.0 w.1)

listing : (region : Region) (stands : List ℕ → ℕ → Bool) (n : ℕ) → Listing n (is_in region stands n)
listing (Phrase words) stands n = phrase_listing words stands n
listing (Mark tag) stands n = let t = term_listing (tag_text tag) stands n in (t.0, mark_listed n stands t.0 tag t.1)
listing WholeFile stands n = let l = combined_listing FollowedBy n _ _ (term_listing (tag_text FileStart) stands n)
    (term_listing (tag_text FileEnd) stands n) in (l.0, file_listed n stands l.0 l.1)
listing WholeLine stands n = let l = combined_listing FollowedBy n _ _ (term_listing (tag_text LineStart) stands n)
    (term_listing (tag_text LineEnd) stands n) in (l.0, line_listed n stands l.0 l.1)
listing (Window size) stands n = window_listing size n stands
listing (Both op left right) stands n = let l = combined_listing op n _ _ (listing left stands n) (listing right stands n) in
    (l.0, both_listed n stands l.0 op left right l.1)

pub hits_listed : (region : Region) (stands : List ℕ → ℕ → Bool) (n : ℕ) → Lists n (is_in region stands n) (hits region stands n)
unfolding hits
hits_listed region stands n = let l = listing region stands n in subst (λ (xs : List Extent). Lists n (is_in region stands n) xs)
    (listed n (is_in region stands n) l.0 l.1) l.1

pub hits_ascend : (region : Region) (stands : List ℕ → ℕ → Bool) (n : ℕ) → IsAscending (hits region stands n)
hits_ascend region stands n = (hits_listed region stands n).ascending

pub hits_in : (region : Region) (stands : List ℕ → ℕ → Bool) (n : ℕ) (x : Extent) → Has (hits region stands n) x → IsExtentIn n x
hits_in region stands n x has = ((hits_listed region stands n).sound x has).0

-- over frames that lie apart

pub ascending_append : (xs ys : List Extent) → IsAscending xs → IsAscending ys → ((x y : Extent) → Has xs x → Has ys y → IsBefore x y)
    → IsAscending (xs ++ ys)
ascending_append [] ys xup yup apart = yup
ascending_append (x ∷ xs) ys xup yup apart = (
  all_from (IsBefore x) (xs ++ ys)
      (λ z has. elim (has_either xs ys z has) [ inl left ↦ all_has (IsBefore x) xs z xup.0 left | inr right ↦ apart x z (inl refl) right ]),
  ascending_append xs ys xup.1 yup (λ v w hv hw. apart v w (inr hv) hw),
)

pub from_moved : (start : ℕ) (xs : List Extent) (x : Extent) → Has (map (moved start) xs) x → (y : Extent) × Has xs y × (moved start y ≡ x)
from_moved start [] x has = absurd has
from_moved start (y ∷ ys) x (inl here) = (y, inl refl, here)
from_moved start (y ∷ ys) x (inr more) = let m = from_moved start ys x more in (m.0, inr m.1, m.2)

pub moved_ascend : (start : ℕ) (xs : List Extent) → IsAscending xs → IsAscending (map (moved start) xs)
moved_ascend start [] up = tt
moved_ascend start (x ∷ xs) up = (
  all_from (IsBefore (moved start x)) (map (moved start) xs) (λ z has.
      let m = from_moved start xs z has in
      let before = all_has (IsBefore x) xs m.0 up.0 m.1 in
      let starts : x.start < m.0.start = before.starts in
      let ends : x.end < m.0.end = before.ends in
      subst (λ (e : Extent). IsBefore (moved start x) e) m.2 (record { starts = omega arith; ends = omega arith })),
  moved_ascend start xs up.1,
)

pub record LiesIn (frame : Range) (x : Extent) : Type 0 where
  pub low : frame.start ≤ x.start
  pub ordered : x.start ≤ x.end
  pub high : x.end < frame.start + frame.len

pub extent_lies : (region : Region) (lists : List TermList) (frame : Range) (x : Extent) → Has (frame_hits region lists frame) x
    → LiesIn frame x
extent_lies region lists frame x has =
    let m = from_moved frame.start (hits region (stands_by lists frame.start) frame.len) x has in
    let is = hits_in region (stands_by lists frame.start) frame.len m.0 m.1 in
    let ordered : m.0.start ≤ m.0.end = is.ordered in
    let within : m.0.end < frame.len = is.within in
    subst (λ (e : Extent). LiesIn frame e) m.2 (record { low = omega arith; ordered = omega arith; high = omega arith })

pub lies_behind : (region : Region) (lists : List TermList) (frames : List Range) (place : ℕ) (x : Extent)
    → AllByRecursion (λ next. place ≤ next.start) frames → Has (frames_hits region lists frames) x → (place ≤ x.start) × (x.start ≤ x.end)
lies_behind region lists [] place x after has = absurd has
lies_behind region lists (frame ∷ frames) place x after has =
    elim (has_either (frame_hits region lists frame) (frames_hits region lists frames) x has) [
      | inl here ↦ let l = extent_lies region lists frame x here in let first : place ≤ frame.start = after.0 in
          (omega (arith, l.low), l.ordered)
      | inr more ↦ lies_behind region lists frames place x after.1 more
    ]

pub frames_ascend : (region : Region) (lists : List TermList) (frames : List Range) → AreApart frames
    → IsAscending (frames_hits region lists frames)
frames_ascend region lists [] apart = tt
frames_ascend region lists (frame ∷ frames) apart =
    ascending_append (frame_hits region lists frame) (frames_hits region lists frames)
    (moved_ascend frame.start _ (hits_ascend region (stands_by lists frame.start) frame.len))
    (frames_ascend region lists frames apart.1)
    (λ x y hx hy.
    let l = extent_lies region lists frame x hx in
    let b = lies_behind region lists frames (frame.start + frame.len) y apart.0 hy in
    record { starts = omega (arith, l.ordered, l.high, b.0); ends = omega (arith, l.high, b.0, b.1) })

-- what is put for a frame fits
pub moved_fits : (n start : ℕ) (set : Extent → Bool) (xs : List Extent) → start + n ≤ 2 ^ 47 → Lists n set xs
    → All (λ x. (start + x.start < 2 ^ 64) × (start + x.end < 2 ^ 64)) xs
moved_fits n start set xs fits lists = All-from_recursion (λ x. (start + x.start < 2 ^ 64) × (start + x.end < 2 ^ 64)) xs
    (all_from (λ x. (start + x.start < 2 ^ 64) × (start + x.end < 2 ^ 64)) xs (λ x has.
    let s = (lists.sound x has).0 in
    let ordered : x.start ≤ x.end = s.ordered in
    let within : x.end < n = s.within in
    (omega arith, omega arith)))

pub frame_listed : (region : Region) (lists : List TermList) (frame : Range) (xs : List Extent)
    → Lists frame.len (is_in region (stands_by lists frame.start) frame.len) xs → map (moved frame.start) xs ≡ frame_hits region lists frame
unfolding hits
frame_listed region lists frame xs is = ap (map (moved frame.start))
    (listed frame.len (is_in region (stands_by lists frame.start) frame.len) xs is)

-- where terms stand alike, the extents are alike

abbrev AlikeIn : ℕ → (Extent → Bool) → (Extent → Bool) → Type 0
AlikeIn n p q = (x : Extent) → IsExtentIn n x → p x ≡ q x

pub some_alike : (n : ℕ) (p q : Extent → Bool) → AlikeIn n p q → some_extent n p ≡ some_extent n q
some_alike n p q same = both_ways _ _
    (λ is. let f = some_found n p is in some_from n q f.0 f.1 (sym (same f.0 f.1) ∙ f.2))
    (λ is. let f = some_found n q is in some_from n p f.0 f.1 (same f.0 f.1 ∙ f.2))

innermost_alike : (n : ℕ) (p q : Extent → Bool) → AlikeIn n p q → AlikeIn n (innermost n p) (innermost n q)
unfolding innermost
innermost_alike n p q same x is =
    rw (
      same x is,
      some_alike n (λ y. holds x y && not (same_extent x y) && p y) (λ y. holds x y && not (same_extent x y) && q y)
          (λ y in_y. ap (λ (b : Bool). holds x y && not (same_extent x y) && b) (same y in_y)),
    ) refl

combined_alike : (op : Op) (n : ℕ) (p q r s : Extent → Bool) → AlikeIn n p q → AlikeIn n r s
    → AlikeIn n (combined op n p r) (combined op n q s)
unfolding combined containing contained_in not_containing not_contained_in holds_both holds_in_order
combined_alike Containing n p q r s left right x is =
    rw (
      left x is,
      some_alike n (λ y. holds x y && r y) (λ y. holds x y && s y)
          (λ y in_y. ap (λ (b : Bool). holds x y && b) (right y in_y)),
    ) refl
combined_alike ContainedIn n p q r s left right x is =
    rw (
      left x is,
      some_alike n (λ y. holds y x && r y) (λ y. holds y x && s y)
          (λ y in_y. ap (λ (b : Bool). holds y x && b) (right y in_y)),
    ) refl
combined_alike NotContaining n p q r s left right x is =
    rw (
      left x is,
      some_alike n (λ y. holds x y && r y) (λ y. holds x y && s y)
          (λ y in_y. ap (λ (b : Bool). holds x y && b) (right y in_y)),
    ) refl
combined_alike NotContainedIn n p q r s left right x is =
    rw (
      left x is,
      some_alike n (λ y. holds y x && r y) (λ y. holds y x && s y)
          (λ y in_y. ap (λ (b : Bool). holds y x && b) (right y in_y)),
    ) refl
combined_alike OneOf n p q r s left right x is =
    innermost_alike n (in_either p r) (in_either q s) (λ y in_y. rw (left y in_y, right y in_y) refl) x is
combined_alike BothOf n p q r s left right x is =
    innermost_alike n (holds_both n p r) (holds_both n q s) (λ z in_z.
    rw (
      some_alike n (λ y. holds z y && p y) (λ y. holds z y && q y) (λ y in_y. ap (λ (b : Bool). holds z y && b) (left y in_y)),
      some_alike n (λ y. holds z y && r y) (λ y. holds z y && s y) (λ y in_y. ap (λ (b : Bool). holds z y && b) (right y in_y)),
    ) refl) x is
combined_alike FollowedBy n p q r s left right x is =
    innermost_alike n (holds_in_order n p r) (holds_in_order n q s) (λ v in_v.
    some_alike n _ _ (λ y in_y.
    rw (
      left y in_y,
      some_alike n (λ z. holds v z && r z && nat_lt y.end z.start) (λ z. holds v z && s z && nat_lt y.end z.start)
          (λ z in_z. ap (λ (b : Bool). holds v z && b && nat_lt y.end z.start) (right z in_z)),
    ) refl)) x is

abbrev Agree : List (List ℕ) → ℕ → (List ℕ → ℕ → Bool) → (List ℕ → ℕ → Bool) → Type 0
Agree terms n one other = (term : List ℕ) → Contains terms term → (place : ℕ) → place < n → one term place ≡ other term place

first_agrees : (word : List ℕ) (words : List (List ℕ)) → Contains (word ∷ words) word
first_agrees word words = (0, omega arith, refl)

rest_agrees : (word : List ℕ) (words : List (List ℕ)) (term : List ℕ) → Contains words term → Contains (word ∷ words) term
rest_agrees word words term has = (suc has.0, omega (arith, has.1), has.2)

words_alike : (words : List (List ℕ)) (n : ℕ) (one other : List ℕ → ℕ → Bool) (place : ℕ) → Agree words n one other
    → place + length words ≤ n → words_stand one words place ≡ words_stand other words place
words_alike [] n one other place same fits = refl
words_alike (word ∷ words) n one other place same fits =
    let here : one word place ≡ other word place = same word (first_agrees word words) place (omega arith) in
    let rest : words_stand one words (place + 1) ≡ words_stand other words (place + 1) =
    words_alike words n one other (place + 1) (λ term has p low. same term (rest_agrees word words term has) p low) (omega arith) in
    rw (here, rest) refl

and_alike : (b c d : Bool) → (b ≡ true → c ≡ d) → (b && c) ≡ (b && d)
and_alike true c d same = same refl
and_alike false c d same = refl

term_alike : (term : List ℕ) (n : ℕ) (one other : List ℕ → ℕ → Bool) → ((place : ℕ) → place < n → one term place ≡ other term place)
    → AlikeIn n (is_term_at one term) (is_term_at other term)
term_alike term n one other same x is =
    let ordered : x.start ≤ x.end = is.ordered in
    let within : x.end < n = is.within in
    ap (λ (b : Bool). eqb x.start x.end && b) (same x.start (omega arith))

is_in_alike : (region : Region) (n : ℕ) (one other : List ℕ → ℕ → Bool) → Agree (terms_in region) n one other
    → AlikeIn n (is_in region one n) (is_in region other n)
unfolding is_in
is_in_alike (Phrase words) n one other same x is =
    and_alike (eqb (x.start + length words) (x.end + 1)) _ _ (λ ends.
    let end : x.start + length words ≡ x.end + 1 = eqb-true _ _ ends in
    let within : x.end < n = is.within in
    words_alike words n one other x.start same (omega arith))
is_in_alike (Mark tag) n one other same x is =
    term_alike (tag_text tag) n one other (λ place low. same (tag_text tag) (first_agrees (tag_text tag) []) place low) x is
is_in_alike WholeFile n one other same x is =
    combined_alike FollowedBy n _ _ _ _
    (term_alike (tag_text FileStart) n one other
    (λ place low. same (tag_text FileStart) (first_agrees (tag_text FileStart) (tag_text FileEnd ∷ [])) place low))
    (term_alike (tag_text FileEnd) n one other
    (λ place low. same (tag_text FileEnd)
    (rest_agrees (tag_text FileStart) (tag_text FileEnd ∷ []) (tag_text FileEnd) (first_agrees (tag_text FileEnd) [])) place low)) x is
is_in_alike WholeLine n one other same x is =
    combined_alike FollowedBy n _ _ _ _
    (term_alike (tag_text LineStart) n one other
    (λ place low. same (tag_text LineStart) (first_agrees (tag_text LineStart) (tag_text LineEnd ∷ [])) place low))
    (term_alike (tag_text LineEnd) n one other
    (λ place low. same (tag_text LineEnd)
    (rest_agrees (tag_text LineStart) (tag_text LineEnd ∷ []) (tag_text LineEnd) (first_agrees (tag_text LineEnd) [])) place low)) x is
is_in_alike (Window size) n one other same x is = refl
is_in_alike (Both op left right) n one other same x is =
    combined_alike op n _ _ _ _
    (is_in_alike left n one other (λ term has. same term (Contains-append_left (terms_in left) (terms_in right) term has)))
    (is_in_alike right n one other (λ term has. same term (Contains-append_right (terms_in left) (terms_in right) term has))) x is

pub filter_alike : (p q : Extent → Bool) (xs : List Extent) → ((x : Extent) → Has xs x → p x ≡ q x) → filter p xs ≡ filter q xs
filter_alike p q [] same = refl
filter_alike p q (x ∷ xs) same =
    let rest : filter p xs ≡ filter q xs = filter_alike p q xs (λ y has. same y (inr has)) in
    rw (same x (inl refl), rest) refl

pub hits_alike : (region : Region) (n : ℕ) (one other : List ℕ → ℕ → Bool) → Agree (terms_in region) n one other
    → hits region one n ≡ hits region other n
unfolding hits
hits_alike region n one other same = filter_alike (is_in region one n) (is_in region other n) (extents_of n)
    (λ x has. is_in_alike region n one other same x (extents_in n x has))

-- over lists of a text's tokens
pub frame_of_text : (region : Region) (lists : List TermList) (frame : Range) (tokens : List (List ℕ)) → frame.len ≡ length tokens →
    ((term : List ℕ) → Contains (terms_in region) term → (place : ℕ) → place < length tokens
    → has_address lists term (frame.start + place) ≡ is_token_at tokens term place) →
    frame_hits region lists frame ≡ map (moved frame.start) (token_hits region tokens)
frame_of_text region lists frame tokens long same =
    ap (λ (n : ℕ). map (moved frame.start) (hits region (stands_by lists frame.start) n)) long
    ∙ ap (map (moved frame.start)) (hits_alike region (length tokens) (stands_by lists frame.start) (is_token_at tokens) same)

-- the next frame's extents, and those of the frames after it
pub next_frame : (region : Region) (lists : List TermList) (frames : List Range) (i : ℕ) (d : Range) (found put : List Extent)
    → i < length frames → put ≡ frame_hits region lists (get_or frames i d) →
    (found ++ put) ++ frames_hits region lists (drop (i + 1) frames) ≡ found ++ frames_hits region lists (drop i frames)
next_frame region lists frames i d found put within is =
    append_assoc found put (frames_hits region lists (drop (i + 1) frames))
    ∙ ap (λ (xs : List Extent). found ++ (xs ++ frames_hits region lists (drop (i + 1) frames))) is
    ∙ ap (λ (k : ℕ). found ++ (frame_hits region lists (get_or frames i d) ++ frames_hits region lists (drop k frames))) (add-one i)
    ∙ ap (λ (fs : List Range). found ++ frames_hits region lists fs) (sym (drop-cons frames i d within))
