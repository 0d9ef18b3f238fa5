-- Tags, whole files and whole lines, as other expressions.
use Rattle.std.proofs.Common.{◌≡◌, ℕ, Bool, List, [], ◌∷◌, ◌++◌, map, refl, sym, ap, ◌∙◌}
use Rattle.wu_base.specs.declared.addresses.Extent.{Extent}
use Rattle.wu_base.specs.declared.addresses.Range.{Range}
use Rattle.wu_base.specs.declared.addresses.TermList.{TermList}
use Rattle.wu_gcl.specs.declared.expressions.Tag.{Tag}
use Rattle.wu_gcl.specs.declared.expressions.Tag.TheVariants.{FileStart, FileEnd, LineStart, LineEnd}
use Rattle.wu_gcl.specs.declared.expressions.Op.TheVariants.{FollowedBy}
use Rattle.wu_gcl.specs.Reading.{tag_text}
use Rattle.wu_gcl.specs.Regions.{Region, Phrase, Mark, WholeFile, WholeLine, Both}
use Rattle.wu_gcl.specs.Extents.{hits, is_in}
use Rattle.wu_solve.specs.Addresses.{stands_by}
use Rattle.wu_solve.specs.Solving.{moved, frame_hits, frames_hits}
use Rattle.wu_solve.proofs.Combining.{no_phrase, word_listed, mark_listed, file_listed, line_listed}
use Rattle.wu_solve.proofs.Results.{hits_listed}
use Rattle.wu_solve.proofs.Whole.{hits_are}

pub alike_everywhere : (region other : Region) → ((stands : List ℕ → ℕ → Bool) (n : ℕ) → hits region stands n ≡ hits other stands n)
    → (lists : List TermList) (frames : List Range) → frames_hits region lists frames ≡ frames_hits other lists frames
alike_everywhere region other same lists [] = refl
alike_everywhere region other same lists (f ∷ frames) =
    ap (λ (xs : List Extent). map (moved f.start) xs ++ frames_hits region lists frames) (same (stands_by lists f.start) f.len)
    ∙ ap (λ (xs : List Extent). frame_hits other lists f ++ xs) (alike_everywhere region other same lists frames)

pub tag_is_word : (tag : Tag) (stands : List ℕ → ℕ → Bool) (n : ℕ) → hits (Phrase (tag_text tag ∷ [])) stands n ≡ hits (Mark tag) stands n
tag_is_word tag stands n = hits_are (Mark tag) stands n (hits (Phrase (tag_text tag ∷ [])) stands n)
    (mark_listed n stands _ tag (word_listed n stands (tag_text tag) _ (hits_listed (Phrase (tag_text tag ∷ [])) stands n)))

line_is_between : (stands : List ℕ → ℕ → Bool) (n : ℕ)
    → hits (Both FollowedBy (Mark LineStart) (Mark LineEnd)) stands n ≡ hits WholeLine stands n
unfolding is_in
line_is_between stands n = hits_are WholeLine stands n (hits (Both FollowedBy (Mark LineStart) (Mark LineEnd)) stands n)
    (line_listed n stands _ (hits_listed (Both FollowedBy (Mark LineStart) (Mark LineEnd)) stands n))

file_is_between : (stands : List ℕ → ℕ → Bool) (n : ℕ)
    → hits (Both FollowedBy (Mark FileStart) (Mark FileEnd)) stands n ≡ hits WholeFile stands n
unfolding is_in
file_is_between stands n = hits_are WholeFile stands n (hits (Both FollowedBy (Mark FileStart) (Mark FileEnd)) stands n)
    (file_listed n stands _ (hits_listed (Both FollowedBy (Mark FileStart) (Mark FileEnd)) stands n))

-- no words stand nowhere
pub no_words_whole : (lists : List TermList) (frames : List Range) → frames_hits (Phrase []) lists frames ≡ []
no_words_whole lists [] = refl
no_words_whole lists (f ∷ frames) =
    ap (λ (xs : List Extent). map (moved f.start) xs ++ frames_hits (Phrase []) lists frames)
    (sym (hits_are (Phrase []) (stands_by lists f.start) f.len [] (no_phrase f.len (stands_by lists f.start))))
    ∙ no_words_whole lists frames

module _ (lists : List TermList) (frames : List Range) where
  pub tag_whole : (tag : Tag) → frames_hits (Phrase (tag_text tag ∷ [])) lists frames ≡ frames_hits (Mark tag) lists frames
  tag_whole tag = alike_everywhere (Phrase (tag_text tag ∷ [])) (Mark tag) (tag_is_word tag) lists frames

  pub line_whole : frames_hits (Both FollowedBy (Mark LineStart) (Mark LineEnd)) lists frames ≡ frames_hits WholeLine lists frames
  line_whole = alike_everywhere (Both FollowedBy (Mark LineStart) (Mark LineEnd)) WholeLine line_is_between lists frames

  pub file_whole : frames_hits (Both FollowedBy (Mark FileStart) (Mark FileEnd)) lists frames ≡ frames_hits WholeFile lists frames
  file_whole = alike_everywhere (Both FollowedBy (Mark FileStart) (Mark FileEnd)) WholeFile file_is_between lists frames
