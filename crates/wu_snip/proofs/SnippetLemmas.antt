-- The snippets of several extents, in one walk over the lines.
use Rattle.std.proofs.Common.{◌≡◌, ℕ, List, [], ◌∷◌, ◌++◌, Option, Some, None, filter, map, sym, ◌∙◌, ap, append_assoc, append-nil, arith}
use Rattle.std.specs.List.{AllByRecursion}
use Rattle.wu_base.specs.declared.addresses.Extent.{Extent}
use Rattle.wu_snip.specs.declared.numbered.NumberedLine.{NumberedLine}
use Rattle.wu_snip.specs.declared.snips.Snip.{Snip}
use Rattle.wu_snip.specs.Snippets.{Line, numbered_lines_of, meets, first_shown, snippet_of, IsBefore, IsAscending}
use Rattle.wu_snip.specs.Walks.{Left, lines_left, held, AgreeFrom, Agree, Reaches, shown}
use Rattle.wu_snip.proofs.LineLemmas.{shown-held}

-- what holds where the snippets of the first extents are there, and those of the others are left to be found
pub record Walked (text : List ℕ) (extents others : List Extent) (snips : List Snip) (line : Option NumberedLine) (left : Left)
    : Type 0 where
  pub so_far : snips ++ map (snippet_of text) others ≡ map (snippet_of text) extents
  pub agree : Agree (numbered_lines_of text) (held line left) others
  pub ascending : IsAscending others
  pub reaches : Reaches 0 line left

agree-all : (lines others : List Line) (extents : List Extent) → AgreeFrom 0 lines others → Agree lines others extents
agree-all lines others [] from = tt
agree-all lines others (extent ∷ more) from = (from extent (omega arith), agree-all lines others more from)

agree-later : (lines others next : List Line) (extent : Extent) (extents : List Extent) → AgreeFrom extent.start others next
    → Agree lines others extents → AllByRecursion (IsBefore extent) extents → Agree lines next extents
agree-later lines others next extent [] from agree before = tt
agree-later lines others next extent (later ∷ more) from agree before =
    (agree.0 ∙ from later (omega (arith, before.0.starts)), agree-later lines others next extent more from agree.1 before.1)

reaches-any : (address : ℕ) (line : Option NumberedLine) (left : Left) → Reaches address line left → Reaches 0 line left
reaches-any address None left reaches = tt
reaches-any address (Some line) left reaches = (omega arith, reaches.1)

pub walked-none : (text : List ℕ) (extents : List Extent) (snips : List Snip) (whole : Left) (line : Option NumberedLine) (left : Left)
    → lines_left whole ≡ numbered_lines_of text → AgreeFrom 0 (lines_left whole) (held line left) → Reaches 0 line left
    → IsAscending extents → snips ≡ []
    → Walked text extents extents snips line left
walked-none text extents snips whole line left same from reaches ascending none = record {
  so_far = ap (λ s. s ++ map (snippet_of text) extents) none;
  agree = agree-all (numbered_lines_of text) (held line left) extents
      (λ extent low. ap (filter (meets extent)) (sym same) ∙ from extent low);
  ascending = ascending;
  reaches = reaches;
}

pub walked-next : (text : List ℕ) (extents : List Extent) (extent : Extent) (more : List Extent) (snips snips' : List Snip) (snip : Snip)
    (line line' : Option NumberedLine) (left left' : Left) → Walked text extents (extent ∷ more) snips line left
    → AgreeFrom extent.start (held line left) (held line' left') → Reaches extent.start line' left'
    → snip ≡ shown line' extent → snips' ≡ snips ++ snip ∷ [] → Walked text extents more snips' line' left'
unfolding snippet_of
walked-next text extents extent more snips snips' snip line line' left left' walked from reaches is pushed =
    let same = walked.agree.0 ∙ from extent (omega arith) in
    let found : snip ≡ snippet_of text extent = is ∙ shown-held line' left' extent reaches ∙ ap first_shown (sym same) in
    let others = map (snippet_of text) more in record {
      so_far = ap (λ s. s ++ others) pushed ∙ append_assoc snips (snip ∷ []) others ∙ ap (λ s. snips ++ s ∷ others) found ∙ walked.so_far;
      agree = agree-later (numbered_lines_of text) (held line left) (held line' left') extent more from walked.agree.1 walked.ascending.0;
      ascending = walked.ascending.1;
      reaches = reaches-any extent.start line' left' reaches;
    }

pub walked-all : (text : List ℕ) (extents : List Extent) (snips : List Snip) (line : Option NumberedLine) (left : Left)
    → Walked text extents [] snips line left → snips ≡ map (snippet_of text) extents
walked-all text extents snips line left walked = sym (append-nil snips) ∙ walked.so_far
