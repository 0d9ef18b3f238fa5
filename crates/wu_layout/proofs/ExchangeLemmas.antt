-- The homes of postings, where some are exchanged for what is kept of them.
use Rattle.std.proofs.Common.{◌≡◌, ℕ, ◌+◌, ◌<◌, List, [], ◌∷◌, ◌++◌, length, IfSome, ap, sym, ◌∙◌, subst, arith, ⊎_elim, inl, length-append}
use Rattle.std.proofs.Common.{append-nil}
use Rattle.std.proofs.lemmas.List.{nil_from_length}
use Rattle.std.proofs.lemmas.List.Concat.{flat_map-append}
use Rattle.wu_layout.specs.Postings.{Posting, cut, Ascend}
use Rattle.wu_layout.specs.Layouts.{Text, FileEntry, entry_of}
use Rattle.wu_layout.specs.Invariants.{HasText, IsIndexed}
use Rattle.wu_layout.proofs.PostingLemmas.{Ascend-exchange, cut-append, length-placed}
use Rattle.wu_layout.proofs.EntryLemmas.{IfSome-map, IfSome-map2}
use Rattle.wu_layout.proofs.KeptLemmas.{IsKeptOf, flat, SomeOf-left, SomeOf-right, SomeOf-cases, cut_exchanged, home_exchanged}

-- in these homes the addresses ascend below the next, and the files' texts are indexed
pub record AreHomes (text_of : ℕ → Text) (files : List (ℕ × FileEntry)) (next : ℕ) (homes : List (List Posting)) : Type 0 where
  pub ascend : Ascend 0 next (flat homes)
  pub each : (ino : ℕ) → IfSome (entry_of files ino) (λ entry. IsIndexed (text_of ino) entry homes (flat homes))

pub flat-append : (homes more : List (List Posting)) → flat (homes ++ more) ≡ flat homes ++ flat more
flat-append homes more = flat_map-append (λ (home : List Posting). home) homes more

-- an empty home tells nothing
flat_without : (front back : List (List Posting)) → flat (front ++ [] ∷ back) ≡ flat (front ++ back)
flat_without front back = flat-append front ([] ∷ back) ∙ sym (flat-append front back)

module _ (text : Text) (entry : FileEntry) where
  abbrev Has : List Posting → Type 0
  Has ps = HasText text entry.range ps

  abbrev In : List (List Posting) → Type 0
  In homes = IsIndexed text entry homes (flat homes)

  -- a text without terms
  has_none : (ps qs zs : List Posting) → Has [] → Has (ps ++ (qs ++ zs)) → Has qs
  has_none ps qs zs none whole =
      let empty : length text.terms ≡ 0 = sym (length-placed entry.range.start text.terms) ∙ ap length (sym none) in
      let all : length (cut entry.range (ps ++ (qs ++ zs))) ≡ 0 = ap length whole ∙ length-placed entry.range.start text.terms ∙ empty in
      let split : length (cut entry.range (ps ++ (qs ++ zs)))
      ≡ length (cut entry.range ps) + (length (cut entry.range qs) + length (cut entry.range zs)) =
      ap length (cut-append entry.range ps (qs ++ zs))
      ∙ length-append (cut entry.range ps) (cut entry.range (qs ++ zs))
      ∙ ap (λ (n : ℕ). length (cut entry.range ps) + n)
      (ap length (cut-append entry.range qs zs) ∙ length-append (cut entry.range qs) (cut entry.range zs)) in
      let cut_none : cut entry.range qs ≡ [] = nil_from_length (cut entry.range qs) (omega arith) in
      cut_none ∙ none

  indexed_without : (front back : List (List Posting)) → 0 < length back → In (front ++ [] ∷ back) → In (front ++ back)
  indexed_without front [] l i = absurd (omega arith)
  indexed_without front (home ∷ back) l i =
      let whole : Has (flat (front ++ home ∷ back)) = sym (ap (cut entry.range) (flat_without front (home ∷ back))) ∙ i.whole in
      record {
        kept = i.kept;
        long = i.long;
        whole = whole;
        home =
            ⊎_elim
            (λ a. SomeOf-left Has front (home ∷ back) a)
            (λ b.
            ⊎_elim
            (λ e. SomeOf-right Has front (home ∷ back)
            (inl (has_none (flat front) home (flat back) e (subst (λ ps. Has ps) (flat-append front (home ∷ back)) whole))))
            (λ c. SomeOf-right Has front (home ∷ back) c)
            b)
            (SomeOf-cases Has front ([] ∷ home ∷ back) i.home);
      }

  indexed_with : (homes : List (List Posting)) → In homes → In (homes ++ [] ∷ [])
  indexed_with homes i = record {
    kept = i.kept;
    long = i.long;
    whole = ap (cut entry.range) (flat-append homes ([] ∷ []) ∙ append-nil (flat homes)) ∙ i.whole;
    home = SomeOf-left Has homes ([] ∷ []) i.home;
  }

  indexed_exchanged : (front middle back : List (List Posting)) (kept : List Posting)
      → cut entry.range kept ≡ cut entry.range (flat middle)
      → In (front ++ (middle ++ back)) → In (front ++ kept ∷ back)
  indexed_exchanged front middle back kept same i = record {
    kept = i.kept;
    long = i.long;
    whole = cut_exchanged text entry.range front middle back kept same ∙ i.whole;
    home = home_exchanged text entry.range front middle back kept same i.whole i.home;
  }

module _ (text_of : ℕ → Text) (files : List (ℕ × FileEntry)) (next : ℕ) where
  abbrev Are : List (List Posting) → Type 0
  Are homes = AreHomes text_of files next homes

  pub homes_without : (front back : List (List Posting)) → 0 < length back → Are (front ++ [] ∷ back) → Are (front ++ back)
  homes_without front back l d = record {
    ascend = subst (λ ps. Ascend 0 next ps) (flat_without front back) d.ascend;
    each = λ ino. IfSome-map _ _ (entry_of files ino) (λ entry i. indexed_without (text_of ino) entry front back l i) (d.each ino);
  }

  pub homes_with : (homes : List (List Posting)) → Are homes → Are (homes ++ [] ∷ [])
  homes_with homes d = record {
    ascend = subst (λ ps. Ascend 0 next ps) (sym (flat-append homes ([] ∷ []) ∙ append-nil (flat homes))) d.ascend;
    each = λ ino. IfSome-map _ _ (entry_of files ino) (λ entry i. indexed_with (text_of ino) entry homes i) (d.each ino);
  }

  pub homes_exchanged : (front middle back : List (List Posting)) (kept : List Posting) → IsKeptOf files (flat middle) kept
      → Are (front ++ (middle ++ back)) → Are (front ++ kept ∷ back)
  homes_exchanged front middle back kept k d = record {
    ascend =
        subst (λ ps. Ascend 0 next ps) (sym (flat-append front (kept ∷ back)))
        (Ascend-exchange 0 next (flat front) (flat middle) (flat back) kept k.ascends
        (subst (λ ps. Ascend 0 next ps)
        (flat-append front (middle ++ back) ∙ ap (λ (ps : List Posting). flat front ++ ps) (flat-append middle back))
        d.ascend));
    each = λ ino.
        IfSome-map2 _ _ _ (entry_of files ino)
        (λ entry s i. indexed_exchanged (text_of ino) entry front middle back kept s i)
        (k.live ino) (d.each ino);
  }
