-- How the texts of a store of the first version are read at its opening, to be indexed anew: each whole, and then its size is asked, in the
-- order of their addresses.
use Rattle.std.specs.Prelude.{◌≡◌, ℕ, ◌<◌, List, ◌∷◌, ◌++◌, Option, Some, IfSome}
use Rattle.std.specs.List.{AllByRecursion, flat_map}
use Rattle.wu_outside.specs.Content.{Content}
use Rattle.wu_outside.specs.declared.ranges.ReadRange.{ReadRange}
use Rattle.wu_layout.specs.Invariants.{SomeOf}
use Rattle.wu_image.specs.declared.records.FileRec.{FileRec}
use Rattle.wu_image.specs.Images.{IsByAddress}
use Rattle.wu_image.specs.Texts.{IsBrokenText}
use Rattle.wu_query.specs.Reads.{HasWholeText, IsOfText, whole_text}

-- the texts of these files, in this order; the empty text is in no blob, and isn't read
abbrev pub texts_whole : List FileRec → List ReadRange
texts_whole files = flat_map (λ file. whole_text file.blob file.len) files

-- the range is one that is read of the text of one of the files
abbrev pub IsTextOfOne : List FileRec → ReadRange → Type 0
IsTextOfOne files range = SomeOf (λ file. IsOfText file.blob file.len range) files

-- a text that isn't empty is there as it was recorded
abbrev pub IsThere : Option Content → FileRec → Type 0
IsThere holds file = 0 < file.blob → HasWholeText holds file

-- all of the texts were read so, and that was read
pub record OpensTexts (content : Content) (files : List FileRec) (read : List ReadRange) : Type 0 where
  pub order : List FileRec
  pub by_address : IsByAddress files order
  pub whole : AllByRecursion (IsThere (Some content)) order
  pub read_are : read ≡ texts_whole order

-- the blob is that of the first of these texts that is broken
pub record IsFirstOfBroken (holds : Option Content) (files : List FileRec) (blob : ℕ) : Type 0 where
  pub before : List FileRec
  pub file : FileRec
  pub after : List FileRec
  pub split : files ≡ before ++ file ∷ after
  pub whole : AllByRecursion (IsThere holds) before
  pub its : file.blob ≡ blob
  pub some : 0 < blob
  pub broken : IfSome holds (λ content. IsBrokenText file (content.blobs blob))

-- the same of the files in the order of their addresses
pub record IsFirstBrokenText (holds : Option Content) (files : List FileRec) (blob : ℕ) : Type 0 where
  pub order : List FileRec
  pub by_address : IsByAddress files order
  pub first : IsFirstOfBroken holds order blob
