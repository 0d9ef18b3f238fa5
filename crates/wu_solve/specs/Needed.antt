-- The terms without which an expression has no extent.
use Rattle.std.specs.Prelude.{◌≡◌, ◌⊎◌, ℕ, ◌+◌, ◌<◌, ◌≤◌, false, List, Contains}
use Rattle.wu_base.specs.declared.addresses.Range.{Range}
use Rattle.wu_base.specs.declared.addresses.TermList.{TermList}
use Rattle.wu_gcl.specs.declared.expressions.Tag.TheVariants.{FileStart, FileEnd, LineStart, LineEnd}
use Rattle.wu_gcl.specs.declared.expressions.Op.{Op}
use Rattle.wu_gcl.specs.declared.expressions.Op.TheVariants.{Containing, ContainedIn, NotContaining, NotContainedIn, OneOf, BothOf}
use Rattle.wu_gcl.specs.declared.expressions.Op.TheVariants.{FollowedBy}
use Rattle.wu_gcl.specs.Regions.{Region, Phrase, Mark, WholeFile, WholeLine, Window, Both}
use Rattle.wu_gcl.specs.Reading.{tag_text}
use Rattle.wu_solve.specs.Addresses.{has_address}

-- What an operator needs of what its operands need: one of either where each extent has one of each operand in it or around it, one of both
-- where an extent of one operand is enough, and only the left operand's where those of the right one only leave out.
abbrev pub NeedsOf : Op → Type 0 → Type 0 → Type 0
NeedsOf Containing left right = left ⊎ right
NeedsOf ContainedIn left right = left ⊎ right
NeedsOf NotContaining left right = left
NeedsOf NotContainedIn left right = left
NeedsOf OneOf left right = left × right
NeedsOf BothOf left right = left ⊎ right
NeedsOf FollowedBy left right = left ⊎ right

-- the expression needs the term
abbrev pub Needs : Region → List ℕ → Type 0
Needs (Phrase words) term = Contains words term
Needs (Mark tag) term = tag_text tag ≡ term
Needs WholeFile term = (tag_text FileStart ≡ term) ⊎ (tag_text FileEnd ≡ term)
Needs WholeLine term = (tag_text LineStart ≡ term) ⊎ (tag_text LineEnd ≡ term)
Needs (Window size) term = ⊥
Needs (Both op left right) term = NeedsOf op (Needs left term) (Needs right term)

-- no address of the frame is one of the term's
abbrev pub HasNone : List TermList → List ℕ → Range → Type 0
HasNone lists term frame = (address : ℕ) → frame.start ≤ address → address < frame.start + frame.len
    → has_address lists term address ≡ false
