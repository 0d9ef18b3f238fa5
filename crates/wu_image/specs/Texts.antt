-- When what is kept of a text isn't what was recorded.
use Rattle.std.specs.Prelude.{◌≢◌, ◌⊎◌, ⊤, ℕ, List, length, Option, None, Some}
use Rattle.wu_token.specs.Tokens.{tokens_of}
use Rattle.wu_image.specs.declared.records.FileRec.{FileRec}

-- the text is absent, of another size than recorded, or has another number of tokens
abbrev pub IsBrokenText : FileRec → Option (List ℕ) → Type 0
IsBrokenText file None = ⊤
IsBrokenText file (Some bytes) = (length bytes ≢ file.len) ⊎ (length (tokens_of bytes) ≢ file.range.len)
