-- What a region expression says, without where it lies in memory.
use Rattle.std.specs.Prelude.{ℕ, ◌<◌, List, length}
use Rattle.wu_gcl.specs.declared.expressions.Tag.{Tag}
use Rattle.wu_gcl.specs.declared.expressions.Op.{Op}
use Rattle.wu_gcl.specs.declared.expressions.Expr.{Expr}
use Rattle.wu_gcl.specs.declared.expressions.Expr.TheVariants as exprs

pub data Region : Type 0 where
  Phrase : (words : List (List ℕ)) → Region
  Mark : (tag : Tag) → Region
  WholeFile : Region
  WholeLine : Region
  Window : (length : ℕ) → Region
  Both : (op : Op) (left right : Region) → Region

abbrev pub region_of : Expr → Region
region_of (exprs.Phrase words) = Phrase words
region_of (exprs.Tag tag) = Mark tag
region_of exprs.File = WholeFile
region_of exprs.Line = WholeLine
region_of (exprs.Window n) = Window n
region_of (exprs.Both' op p left q right) = Both op (region_of left) (region_of right)

-- each phrase has a word, and each window an address
abbrev pub IsProper : Region → Type 0
IsProper (Phrase words) = 0 < length words
IsProper (Mark tag) = Unit {0}
IsProper WholeFile = Unit {0}
IsProper WholeLine = Unit {0}
IsProper (Window n) = 0 < n
IsProper (Both op left right) = IsProper left × IsProper right
