-- What is left of a walk over the lines of a text.
use Rattle.std.specs.Prelude.{⊤, ◌≡◌, ℕ, ◌+◌, ◌<◌, ◌≤◌, ◌^◌, nat_le, List, [], ◌∷◌, filter, map, take, length}
use Rattle.std.specs.Prelude.{Option, Some, None, if◌then◌else◌}
use Rattle.std.specs.List.{AllByRecursion, flat_map}
use Rattle.wu_base.specs.declared.addresses.Extent.{Extent}
use Rattle.wu_base.specs.declared.limits.TheConstants.{SNIPPET_MAX}
use Rattle.wu_token.specs.Tokens.{line_tokens_of}
use Rattle.wu_token.specs.Places.{Piece}
use Rattle.wu_snip.specs.declared.snips.Snip.{Snip}
use Rattle.wu_snip.specs.declared.numbered.NumberedLine.{NumberedLine}
use Rattle.wu_snip.specs.Snippets.{Line, numbered, meets}

-- the lines that are left, and the number and the first address of the next of them
pub record Left : Type 0 where
  pub number : ℕ
  pub first : ℕ
  pub lines : List (List ℕ)

-- the bytes of the lines
abbrev pub bytes_of : List Piece → List (List ℕ)
bytes_of lines = map (λ line. line.bytes) lines

-- the lines that are left, with their numbers and addresses
abbrev pub lines_left : Left → List Line
lines_left left = numbered left.number left.first left.lines

-- the numbers and addresses of the lines that are left are below 2^64
pub record Fits (number first : ℕ) (lines : List (List ℕ)) : Type 0 where
  pub numbers : number ≤ first
  pub addresses : first + length (flat_map line_tokens_of lines) < 2 ^ 64

-- the line, without the loan of its bytes
abbrev pub line_of : NumberedLine → Line
line_of line = record { number = line.number; first = line.first; last = line.last; bytes = line.bytes.now }

-- the line, if any, and those that are left after it
abbrev pub held : Option NumberedLine → Left → List Line
held None left = []
held (Some line) left = line_of line ∷ lines_left left

-- each extent from that address on shares an address with the same lines of both
abbrev pub AgreeFrom : ℕ → List Line → List Line → Type 0
AgreeFrom address lines others =
    (extent : Extent) → address ≤ extent.start → filter (meets extent) lines ≡ filter (meets extent) others

-- each of the extents shares an address with the same lines of both
abbrev pub Agree : List Line → List Line → List Extent → Type 0
Agree lines others extents = AllByRecursion (λ extent. filter (meets extent) lines ≡ filter (meets extent) others) extents

-- the line, if any, ends at that address or after, and before the lines that are left
abbrev pub Reaches : ℕ → Option NumberedLine → Left → Type 0
Reaches address None left = ⊤
Reaches address (Some line) left = (address ≤ line.last) × (line.first ≤ left.first)

-- what is shown of a line, if it starts at the end of the extent or before
abbrev pub shown : Option NumberedLine → Extent → Snip
shown None extent = record { line = 0; bytes = [] }
shown (Some line) extent =
    if nat_le line.first extent.end then record { line = line.number; bytes = take SNIPPET_MAX line.bytes.now }
    else record { line = 0; bytes = [] }
