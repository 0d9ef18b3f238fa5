-- The lists of terms, fetched one after the other.
use Rattle.std.proofs.Common.{◌≡◌, ℕ, ◌+◌, ◌<◌, List, [], ◌∷◌, ◌++◌, length, map, take, drop, get_or, ap, sym, ◌∙◌, subst}
use Rattle.std.specs.Prelude.{All, IfErr, IsErrAnd, Option, Ok, Result, nat_eq, zip}
use Rattle.std.specs.Cmp.Lexicographic.{pointwise}
use Rattle.std.specs.List.{list_any}
use Rattle.std.specs.List.Sorted.{IsStrictlyIncreasing}
use Rattle.std.proofs.lemmas.List.{take_more, drop_more, take-append-drop, map-append}
use Rattle.std.proofs.lemmas.List.Elements.{All-from_recursion, filter-append, recursion_from_All}
use Rattle.wu_base.specs.declared.addresses.Range.{Range}
use Rattle.wu_base.specs.declared.addresses.TermList.{TermList}
use Rattle.wu_base.specs.declared.troubles.Trouble.{Trouble}
use Rattle.wu_base.specs.declared.troubles.Trouble.TheVariants.{NoMemory}
use Rattle.wu_base.proofs.EachLemmas.{each-append}
use Rattle.wu_outside.specs.Content.{Content}
use Rattle.wu_outside.specs.Reading.{OnlyReads}
use Rattle.wu_outside.specs.declared.ranges.ReadRange.{ReadRange}
use Rattle.wu_outside.specs.declared.traits.Store as stores
use Rattle.wu_lists.specs.declared.blocks.Block.{Block}
use Rattle.wu_lists.specs.Keeping.{Asks, Kept}
use Rattle.wu_parts.specs.Contents.{Contents}
use Rattle.wu_query.specs.Asked.{blocks_for}
use Rattle.wu_query.specs.Searched.{TellsPostings}
use Rattle.wu_query.specs.States.{State}
use Rattle.wu_query.specs.Units.{IsCauseFor, list_at, terms_among}
use Rattle.wu_lists.proofs.Asking.{asks-join}
use Rattle.wu_query.proofs.Asking.{fails_after, fails_then}
use Rattle.wu_query.proofs.PassedCauses.{err_from}
use Rattle.wu_query.proofs.ToldPostings.{for-append, still_told}

-- ---- one more list

abbrev Ascends : TermList → Type 0
Ascends list = IsStrictlyIncreasing list.at

pub ascending_next : (lists now : List TermList) (list : TermList) → All (λ list. IsStrictlyIncreasing list.at) lists
    → now ≡ lists ++ list ∷ [] → IsStrictlyIncreasing list.at → All (λ list. IsStrictlyIncreasing list.at) now
ascending_next lists now list up pushed one =
    subst (All Ascends) (sym pushed)
    (All-from_recursion Ascends (lists ++ list ∷ [])
    (each-append Ascends lists (list ∷ []) (recursion_from_All Ascends lists up) (one, tt)))

-- So far these terms were asked for in turn: of the parts only what is kept of blocks has changed, and the store was only read.
pub record AskedInTurn {D : Type 0} (Store : stores.Ghosts D) (frames : List Range) (terms : List (List ℕ)) (first now : Contents)
    (old new : D) : Type 0 where
  pub blocks : Asks (blocks_for first frames terms) (Store.holds old) first.kept now.kept (Store.reads old) (Store.reads new)
  pub others : now ≡ record first { kept = now.kept }
  pub holds : Store.holds new ≡ Store.holds old
  pub moments : Store.moments new ≡ Store.moments old
  pub calm : Store.faults new ≡ Store.faults old

module _ (terms : List (List ℕ)) (i : ℕ) (term : List ℕ) (within : i < length terms) (is : term ≡ get_or terms i term) where
  taken : take (i + 1) terms ≡ take i terms ++ term ∷ []
  taken = take_more terms i term within ∙ ap (λ (t : List ℕ). take i terms ++ t ∷ []) (sym is)

  pub lists_next : (found : List ℕ → List ℕ) {lists now : List TermList} {list : TermList} → lists ≡ map (list_at found) (take i terms)
      → now ≡ lists ++ list ∷ [] → list ≡ list_at found term → now ≡ map (list_at found) (take (i + 1) terms)
  lists_next found {list = list} before pushed list_is =
      pushed ∙ ap (λ (ls : List TermList). ls ++ list ∷ []) before
      ∙ ap (λ (l : TermList). map (list_at found) (take i terms) ++ l ∷ []) list_is
      ∙ sym (map-append (list_at found) (take i terms) (term ∷ []))
      ∙ ap (map (list_at found)) (sym taken)

  -- the next term's list, if it is one of the words
  pub wanted_next : (words : List (List ℕ)) (found : List ℕ → List ℕ) {lists now : List TermList}
      → lists ≡ map (list_at found) (terms_among words (take i terms))
      → now ≡ lists ++ map (list_at found) (terms_among words (term ∷ []))
      → now ≡ map (list_at found) (terms_among words (take (i + 1) terms))
  wanted_next words found before put =
      put ∙ ap (λ (ls : List TermList). ls ++ map (list_at found) (terms_among words (term ∷ []))) before
      ∙ sym (map-append (list_at found) (terms_among words (take i terms)) (terms_among words (term ∷ [])))
      ∙ ap (map (list_at found))
      (sym (filter-append (λ (t : List ℕ). list_any (pointwise nat_eq t) words) (take i terms) (term ∷ []))
      ∙ ap (terms_among words) (sym taken))

  pub named_next : (lists now : List TermList) (list : TermList) → map (λ list. list.term) lists ≡ take i terms
      → now ≡ lists ++ list ∷ [] → list.term ≡ term → map (λ list. list.term) now ≡ take (i + 1) terms
  named_next lists now list before pushed named =
      ap (map (λ (l : TermList). l.term)) pushed
      ∙ map-append (λ (l : TermList). l.term) lists (list ∷ [])
      ∙ ap (λ (ts : List (List ℕ)). ts ++ list.term ∷ []) before
      ∙ ap (λ (t : List ℕ). take i terms ++ t ∷ []) named
      ∙ sym taken

  -- the terms before it were asked for in turn
  module _ {D : Type 0} (Store : stores.Ghosts D) (frames : List Range) {first between : Contents} {old middle : D}
      (so_far : AskedInTurn Store frames (take i terms) first between old middle) where
    same_zip : zip between.parts between.directories ≡ zip first.parts first.directories
    same_zip = ap (λ (c : Contents). zip c.parts c.directories) so_far.others

    -- what was told then is still told
    pub told_then : (s : State) → TellsPostings first (Store.holds old) s → TellsPostings between (Store.holds middle) s
    told_then s tells =
        rw so_far.holds
        (still_told first frames (take i terms) between.kept between s (Store.holds old) (Store.reads old) (Store.reads middle)
        so_far.others tells so_far.blocks)

    -- and now it was asked for too
    pub asked_then : {T : Type 0} {value : T} {now : Contents} {new : D}
        → Asks (blocks_for between frames (term ∷ [])) (Store.holds middle) between.kept now.kept (Store.reads middle) (Store.reads new)
        → now ≡ record between { kept = now.kept } → OnlyReads {E = Trouble} Store middle new (Ok value)
        → AskedInTurn Store frames (take (i + 1) terms) first now old new
    asked_then {now = now} {new} one others only = record {
      blocks =
          rw (taken, for-append first frames (take i terms) (term ∷ []))
          (asks-join (Store.holds old) first.kept between.kept now.kept (Store.reads old) (Store.reads middle) (Store.reads new)
          (blocks_for first frames (take i terms)) (blocks_for first frames (term ∷ [])) so_far.blocks
          (rw (same_zip, so_far.holds) at one));
      others = others ∙ ap (λ (c : Contents). record c { kept = now.kept }) so_far.others;
      holds = only.holds ∙ so_far.holds;
      moments = only.moments ∙ so_far.moments;
      calm = only.calm ∙ so_far.calm;
    }

    all_terms : blocks_for first frames terms
        ≡ blocks_for first frames (take i terms) ++ (blocks_for first frames (term ∷ []) ++ blocks_for first frames (drop (i + 1) terms))
    all_terms =
        ap (blocks_for first frames)
        (sym (take-append-drop i terms) ∙ ap (λ (ts : List (List ℕ)). take i terms ++ ts)
        (drop_more terms i term within ∙ ap (λ (t : List ℕ). t ∷ drop (i + 1) terms) (sym is)))
        ∙ for-append first frames (take i terms) (term ∷ drop (i + 1) terms)
        ∙ ap (λ (bs : List Block). blocks_for first frames (take i terms) ++ bs)
        (for-append first frames (term ∷ []) (drop (i + 1) terms))

    -- the call for it failed
    pub cause_then : {T : Type 0} (r : Result T Trouble) {new : D} {trouble : Trouble} → IsErrAnd r (λ error. error ≡ trouble)
        → IsCauseFor between frames (term ∷ []) (Store.holds middle) (Store.faults middle) (Store.faults new) (Store.reads middle)
        (Store.reads new) trouble
        → IfErr r (IsCauseFor first frames terms (Store.holds old) (Store.faults old) (Store.faults new) (Store.reads old)
        (Store.reads new))
    cause_then r {new} {trouble} passed cause =
        err_from
        (IsCauseFor first frames terms (Store.holds old) (Store.faults old) (Store.faults new) (Store.reads old) (Store.reads new))
        r trouble passed
        (rw all_terms
        (fails_after (blocks_for first frames (term ∷ [])) (blocks_for first frames (drop (i + 1) terms)) so_far.blocks so_far.calm
        (rw (same_zip, so_far.holds) at cause)))

-- ---- memory ran out on the way

pub fails_on_the_way : {T : Type 0} (r : Result T Trouble) (terms : List (List ℕ)) (n : ℕ) (first : Contents) (frames : List Range)
    {kept : Kept} {holds : Option Content} {start end : Option (List ReadRange)} {before faults : ℕ}
    → IsErrAnd r (λ error. error ≡ NoMemory) → faults ≡ before
    → Asks (blocks_for first frames (take n terms)) holds first.kept kept start end
    → IfErr r (IsCauseFor first frames terms holds before faults start end)
fails_on_the_way r terms n first frames {holds} {start} {end} {before} {faults} is calm asked =
    err_from (IsCauseFor first frames terms holds before faults start end) r NoMemory is
    (rw (ap (blocks_for first frames) (sym (take-append-drop n terms)) ∙ for-append first frames (take n terms) (drop n terms))
    (fails_then (blocks_for first frames (drop n terms)) asked calm))
