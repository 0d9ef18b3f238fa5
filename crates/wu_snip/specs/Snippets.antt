-- The snippet of an extent of a text: the first line that shares an address with it. Addresses are counted from 0 at `<file>`,
-- and the tags `<line>` and `</line>` of a line are at the first and the last of its addresses.
use Rattle.std.specs.Prelude.{⊤, ℕ, ◌+◌, ◌-◌, ◌<◌, ◌≤◌, Bool, ◌&&◌, nat_le, List, [], ◌∷◌, filter, take, length}
use Rattle.std.specs.List.{AllByRecursion}
use Rattle.wu_base.specs.declared.addresses.Extent.{Extent}
use Rattle.wu_base.specs.declared.limits.TheConstants.{SNIPPET_MAX}
use Rattle.wu_token.specs.Tokens.{lines_of, line_tokens_of, tokens_of}
use Rattle.wu_snip.specs.declared.snips.Snip.{Snip}

-- the extent has an address, and each of its addresses is that of a token of the text
abbrev pub IsWithin : List ℕ → Extent → Type 0
IsWithin text extent = (extent.start ≤ extent.end) × (extent.end < length (tokens_of text))

-- a line, its number, and the addresses of its `<line>` and its `</line>`
pub record Line : Type 0 where
  pub number : ℕ
  pub first : ℕ
  pub last : ℕ
  pub bytes : List ℕ

-- lines one after the other, the first of them with that number and its `<line>` at that address
abbrev pub numbered : ℕ → ℕ → List (List ℕ) → List Line
numbered number first [] = []
numbered number first (line ∷ more) =
    record { number = number; first = first; last = first + length (line_tokens_of line) - 1; bytes = line }
    ∷ numbered (number + 1) (first + length (line_tokens_of line)) more

-- the lines of a text: line 1 comes after `<file>`
unfoldable pub numbered_lines_of : List ℕ → List Line
numbered_lines_of text = numbered 1 1 (lines_of text)

-- the line shares an address with the extent
abbrev pub meets : Extent → Line → Bool
meets extent line = nat_le line.first extent.end && nat_le extent.start line.last

-- the number and the first bytes of the first line, 0 and no bytes where there is no line
abbrev pub first_shown : List Line → Snip
first_shown [] = record { line = 0; bytes = [] }
first_shown (line ∷ more) = record { line = line.number; bytes = take SNIPPET_MAX line.bytes }

-- the snippet of an extent
unfoldable pub snippet_of : List ℕ → Extent → Snip
snippet_of text extent = first_shown (filter (meets extent) (numbered_lines_of text))

-- starts and ends before the other one does
pub record IsBefore (extent other : Extent) : Type 0 where
  pub starts : extent.start < other.start
  pub ends : extent.end < other.end

-- starts and ends both ascend strictly
abbrev pub IsAscending : List Extent → Type 0
IsAscending [] = ⊤
IsAscending (extent ∷ more) = AllByRecursion (IsBefore extent) more × IsAscending more
