-- What an expression without an operator means.
use Rattle.std.specs.Prelude.{◌≡◌, List, [], ◌∷◌}
use Rattle.wu_base.specs.declared.addresses.Range.{Range}
use Rattle.wu_base.specs.declared.addresses.TermList.{TermList}
use Rattle.wu_gcl.specs.declared.expressions.Op.TheVariants.{FollowedBy}
use Rattle.wu_gcl.specs.Regions.{Region, Phrase, Mark, Both}
use Rattle.wu_solve.specs.Solving.{frames_hits}
use Rattle.wu_solve.specs.declared.nearby.Simple.{Simple}
use Rattle.wu_solve.specs.declared.nearby.Simple.TheVariants.{Spans, Term}

-- one that has the same extents as the other, whatever the frames and the lists
abbrev pub HasSame : Region → Region → Type 0
HasSame one other = (lists : List TermList) (frames : List Range) → frames_hits one lists frames ≡ frames_hits other lists frames

-- it means the spans, or the term's places
abbrev pub Means : Simple → Region → Type 0
Means (Spans first last) region = HasSame (Both FollowedBy (Mark first) (Mark last)) region
Means (Term term) region = HasSame (Phrase (term.now ∷ [])) region
