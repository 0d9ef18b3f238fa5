-- The extents of an expression in the files of a view.
use Rattle.std.specs.Prelude.{Bool, List, length, nat_lt}
use Rattle.wu_base.specs.declared.addresses.Extent.{Extent}
use Rattle.wu_token.specs.Tokens.{tokens_of}
use Rattle.wu_gcl.specs.Regions.{Region}
use Rattle.wu_gcl.specs.Extents.{token_hits}
use Rattle.wu_query.specs.View.{Shown}

-- the extents of an expression in a file, counted from the file's first token
unfoldable pub hits_in : Region → Shown → List Extent
hits_in region file = token_hits region (tokens_of file.text)

-- whether a file has an extent of the expression
abbrev pub has_hit : Region → Shown → Bool
has_hit region file = nat_lt 0 (length (hits_in region file))
