-- What contracts see of the stores in memory.
use Rattle.std.specs.Prelude.{ℕ, List, Option}
use Rattle.std.specs.Ordering.{nat_cmp}
use Rattle.std.specs.BTreeMap.{is_at}
use Rattle.std.specs.Map.{lookup}
use Rattle.wu_outside.specs.Content.{Content}
use Rattle.wu_outside.specs.declared.ranges.ReadRange.{ReadRange}

-- a store that keeps its blobs in the order of their numbers, its root, and the ranges read
pub record PlainBlobs : Type 0 where
  pub entries : List (ℕ × List ℕ)
  pub root : Option (List ℕ)
  pub ranges : List ReadRange

-- what it holds
abbrev pub plain_content : PlainBlobs → Content
plain_content s = record { blobs = λ blob. lookup (is_at (nat_cmp blob)) s.entries; root = s.root }
