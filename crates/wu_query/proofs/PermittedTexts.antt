-- Of texts a query reads those of the files of which a line is shown, in turn, and where it fails on the way the first ones of them.
use Rattle.std.proofs.Common.{◌≡◌, ℕ, ◌+◌, ◌-◌, ◌<◌, Bool, cond, List, [], ◌++◌, length, drop, map, min, get_or, refl, sym, ap, ◌∙◌, subst}
use Rattle.std.proofs.Common.{arith, append-nil, append_assoc}
use Rattle.std.specs.Prelude.{Option, nat_lt, option_map}
use Rattle.wu_outside.specs.declared.ranges.ReadRange.{ReadRange}
use Rattle.wu_ask.specs.Questions.{Finding}
use Rattle.wu_base.specs.declared.addresses.TermList.{TermList}
use Rattle.wu_frames.specs.declared.Frames.{Frames}
use Rattle.wu_gcl.specs.Regions.{Region}
use Rattle.wu_gcl.specs.Terms.{AreTerms}
use Rattle.wu_view.specs.declared.Seen.{Seen}
use Rattle.wu_lists.specs.Keeping.{Asks, Kept}
use Rattle.wu_outside.specs.Content.{Content}
use Rattle.wu_parts.specs.Contents.{Contents}
use Rattle.wu_space.specs.Addresses.{Ranges}
use Rattle.wu_query.specs.Asked.{blocks_for}
use Rattle.wu_query.specs.Causes.{IsBlobOf}
use Rattle.wu_query.specs.Finding.{AreFirstOf, KeepsTexts, hits_at, looked_through, text_at}
use Rattle.wu_query.specs.Near.{HaveSameExtents}
use Rattle.wu_query.specs.Permitted.{AreReadForQuery, ReadsSuch}
use Rattle.wu_query.specs.Records.{Records}
use Rattle.wu_query.specs.States.{State}
use Rattle.wu_query.specs.Searched.{Indexes, TellsPostings}
use Rattle.wu_query.specs.Units.{found_in, list_at}
use Rattle.wu_query.specs.Reads.{texts_shown}
use Rattle.wu_query.proofs.AskedTerms.{terms_named}
use Rattle.wu_query.proofs.FirstLines.{at_place}
use Rattle.wu_query.proofs.FilesWithExtents.{looked_texts}
use Rattle.wu_query.proofs.PermittedBlocks.{asked_blocks, reads_joined}
use Rattle.wu_layout.proofs.KeptLemmas.{SomeOf-left, SomeOf-right}
use Rattle.wu_layout.specs.Invariants.{SomeOf}

-- all of these texts were read
pub all_read : (texts : List ReadRange) (before after : Option (List ReadRange)) → after ≡ option_map (λ earlier. earlier ++ texts) before
    → ReadsSuch (AreFirstOf texts) before after
all_read texts before after is_read = (texts, ([], append-nil texts), is_read)

module _ (hits : Seen → ℕ) (text : Seen → List ReadRange) where
  module _ (k i : ℕ) (view : List Seen) (file : Seen) (within : i < length view) (is : file ≡ get_or view i file)
      {all : List ReadRange} {count before : ℕ} (counted : count ≡ before) (first : Option (List ReadRange))
      {middle : Option (List ReadRange)}
      (earlier : ReadsSuch (λ read. read ++ texts_shown hits text (k - before) (drop i view) ≡ all) first middle) where
    abbrev here : List ReadRange
    here = cond (nat_lt 0 (min (k - count) (hits file))) (text file) []

    abbrev later : List ReadRange
    later = texts_shown hits text ((k - count) - hits file) (drop (i + 1) view)

    to_come : texts_shown hits text (k - before) (drop i view) ≡ here ++ later
    to_come =
        ap (λ (n : ℕ). texts_shown hits text (k - n) (drop i view)) (sym counted)
        ∙ ap (λ (files : List Seen). texts_shown hits text (k - count) files) (at_place view i file within is)

    all_in_turn : earlier.0 ++ (here ++ later) ≡ all
    all_in_turn = ap (λ (texts : List ReadRange). earlier.0 ++ texts) (sym to_come) ∙ earlier.1

    -- where the call for the next file reads some of its texts, the first ones of all were read
    pub file_only : {last : Option (List ReadRange)} → ReadsSuch (AreFirstOf here) middle last → ReadsSuch (AreFirstOf all) first last
    file_only only = (
      earlier.0 ++ only.0,
      (
        only.1.0 ++ later,
        append_assoc earlier.0 only.0 (only.1.0 ++ later)
            ∙ ap (λ (texts : List ReadRange). earlier.0 ++ texts)
            (sym (append_assoc only.0 only.1.0 later) ∙ ap (λ (texts : List ReadRange). texts ++ later) only.1.1)
            ∙ all_in_turn,
      ),
      only.2 ∙ ap (option_map (λ (ranges : List ReadRange). ranges ++ only.0)) earlier.2 ∙ reads_joined first earlier.0 only.0,
    )

    -- a blob of its texts is one of all
    pub file_blob : (blob : ℕ) → IsBlobOf (here ++ []) blob → IsBlobOf all blob
    file_blob blob one =
        let Is : ReadRange → Type 0 = λ range. range.blob ≡ blob in
        subst (SomeOf Is) all_in_turn
        (SomeOf-right Is earlier.0 (here ++ later) (SomeOf-left Is here later (subst (SomeOf Is) (append-nil here) one)))

    -- and where it reads all of them, those of the files behind it are to come
    pub file_read : {after : ℕ} {last : Option (List ReadRange)} → after ≡ before + min (k - count) (hits file)
        → last ≡ option_map (λ ranges. ranges ++ here) middle
        → ReadsSuch (λ read. read ++ texts_shown hits text (k - after) (drop (i + 1) view) ≡ all) first last
    file_read {after} more is_read =
        let fewer : k - after ≡ (k - count) - hits file = omega (arith, more, counted) in (
          earlier.0 ++ here,
          ap (λ (n : ℕ). (earlier.0 ++ here) ++ texts_shown hits text n (drop (i + 1) view)) fewer
              ∙ append_assoc earlier.0 here later
              ∙ all_in_turn,
          is_read ∙ ap (option_map (λ (ranges : List ReadRange). ranges ++ here)) earlier.2 ∙ reads_joined first earlier.0 here,
        )

-- A search that has fetched the lists of its terms, and then read the first ones of the texts that it shows a line of by these lists, has
-- read what it may read.
pub shown_permitted : (frames : Frames) (live : Ranges) (s : State) (uid : ℕ) → Indexes frames live s uid
    → (region : Region) (terms : List (List ℕ)) → AreTerms region terms
    → (files : Records) (lists : List TermList)
    → HaveSameExtents region frames.ranges lists (map (list_at (found_in frames.ranges s)) terms)
    → (contents : Contents) (holds : Option Content) → TellsPostings contents holds s → KeepsTexts files holds s
    → {asked : List (List ℕ)} → asked ≡ terms → {kept : Kept} {first middle last : Option (List ReadRange)}
    → Asks (blocks_for contents frames.ranges asked) holds contents.kept kept first middle
    → (k : ℕ) (few : Bool)
    → ReadsSuch (AreFirstOf (texts_shown (hits_at files region lists) (text_at files) k (looked_through few region lists frames)))
    middle last
    → ReadsSuch (AreReadForQuery s uid (Finding k region)) first last
shown_permitted frames live s uid is region terms are files lists same contents holds tells keeps asked_are {first} {middle} asks k
    few texts =
    let blocks = asked_blocks frames live s uid is contents holds tells (Finding k region)
    (asked_are ∙ terms_named region terms are) first middle asks in (
      blocks.0 ++ texts.0,
      record {
        blocks = blocks.0;
        needed = blocks.1;
        texts = texts.0;
        left = texts.1.0;
        front =
            texts.1.1 ∙ looked_texts frames live s uid is region terms are files lists same k few keeps.records;
        in_turn = refl;
      },
      texts.2 ∙ ap (option_map (λ (ranges : List ReadRange). ranges ++ texts.0)) blocks.2 ∙ reads_joined first blocks.0 texts.0,
    )
