-- What holds of the directories of one part or two, and the first of their terms.
use Rattle.std.proofs.Common.{◌≡◌, ℕ, List, [], ◌∷◌, refl, ap, sym, subst, append-nil}
use Rattle.std.specs.Prelude.{Option, None, Some, slice_get}
use Rattle.std.proofs.lemmas.Option.{same_Some}
use Rattle.wu_part.specs.Directories.{IsDirectory}
use Rattle.wu_job.specs.declared.sources.Source.{Source}
use Rattle.wu_job.specs.declared.sources.Places.{Places}
use Rattle.wu_job.specs.Jobs.{terms_in}
use Rattle.wu_part.specs.declared.entries.TermEntry.{TermEntry}
use Rattle.wu_job.specs.declared.sources.Front.{Front}
use Rattle.wu_job.specs.Fronts.{IsFront}
use Rattle.wu_job.specs.Keeping.{AreFound, ArePassedAt, terms_at}
use Rattle.wu_job.specs.Reading.{IsFound}
use Rattle.wu_job.proofs.Terms.{found_at}
use Rattle.wu_job.specs.Sources.{AreAllPassed, AreWhole, merged, parts_of, terms_from, terms_of}
use Rattle.wu_job.proofs.Walking.{directory_terms, no_terms, stands_left, stands_right}

pub whole_one : (left : Source) (right : Option Source) (n : ℕ) → right ≡ None → IsDirectory left.directory n → AreWhole left right
whole_one left right n e is =
    subst (AreWhole left) (sym e)
    (record {
      terms = directory_terms left.directory n is;
      others = no_terms;
      entries = (record { entries = is.entries; below = is.below }, tt);
    })

pub whole_both : (left : Source) (right : Option Source) (other : Source) (n m : ℕ) → right ≡ Some other → IsDirectory left.directory n
    → IsDirectory other.directory m → AreWhole left right
whole_both left right other n m e is its =
    subst (AreWhole left) (sym e)
    (record {
      terms = directory_terms left.directory n is;
      others = directory_terms other.directory m its;
      entries =
          (record { entries = is.entries; below = is.below }, (record { entries = its.entries; below = its.below }, tt));
    })

none_some : (a : List ℕ) → None ≡ Some a → ⊥
none_some a e = cc

-- a list from its first item on
pub first_and_later : (t : List ℕ) (terms : List (List ℕ)) → slice_get terms 0 ≡ Some t → (later : List (List ℕ)) × (terms ≡ t ∷ later)
first_and_later t [] e = absurd (none_some t e)
first_and_later t (x ∷ terms) e = (terms, ap (λ (y : List ℕ). y ∷ terms) (same_Some x t e))

same_source : (a b : Source) → Some a ≡ Some b → a ≡ b
same_source a b e = cc

none_source : (a : Source) → None ≡ Some a → ⊥
none_source a e = cc

pub none_left : (terms : List (List ℕ)) → slice_get terms 0 ≡ None → terms ≡ []
none_left [] e = refl
none_left (x ∷ terms) e = absurd (none_some x (sym e))

-- the terms from the start on are all of the parts
pub all_terms : (left : Source) (right : Option Source)
    → terms_from left right (record { left = 0; right = 0 }) ≡ terms_in (parts_of left right)
all_terms left None = refl
all_terms left (Some right) =
    ap (λ (ts : List (List ℕ)). merged (terms_of left) ts) (sym (append-nil (terms_of right)))

-- ---- the entries of the first term

pub front_found : (left : Source) (right : Option Source) (places : Places) (front : Front) (t : List ℕ) (later : List (List ℕ))
    → AreWhole left right → IsFront left right places front → terms_from left right places ≡ t ∷ later → AreAllPassed left right places
    → AreFound (parts_of left right) t front.left front.right
front_found left None places front t later w f is p =
    found_at left.directory.terms places.left t front.left
    (stands_left t later [] places.left places.right left.directory.terms w.terms.ascending is p.0) f.first
front_found left (Some right) places front t later w f is p = (
  found_at left.directory.terms places.left t front.left
      (stands_left t later (terms_of right) places.left places.right left.directory.terms w.terms.ascending is p.0) f.first,
  found_at right.directory.terms places.right t front.right
      (stands_right t later (terms_of left) places.left places.right right.directory.terms w.others.ascending is p.1) f.second,
)

pub found_left : (left : Source) (right : Option Source) (t : List ℕ) (first second : Option TermEntry)
    → AreFound (parts_of left right) t first second → IsFound left.directory.terms t first
found_left left None t first second f = f
found_left left (Some right) t first second f = f.0

pub found_with : (left : Source) (right : Option Source) (other : Source) (t : List ℕ) (first second : Option TermEntry)
    → right ≡ Some other → AreFound (parts_of left right) t first second → IsFound other.directory.terms t second
found_with left None other t first second e f = absurd (none_source other e)
found_with left (Some right) other t first second e f =
    subst (λ (s : Source). IsFound s.directory.terms t second) (same_source right other e) f.1

-- ---- the terms from some places on, by the parts or by their sources

pub terms_at_sources : (left : Source) (right : Option Source) (places : Places)
    → terms_at (parts_of left right) places ≡ terms_from left right places
terms_at_sources left None places = refl
terms_at_sources left (Some right) places = refl

pub passed_at_sources : (left : Source) (right : Option Source) (places : Places) → AreAllPassed left right places
    → ArePassedAt (parts_of left right) places
passed_at_sources left None places p = p
passed_at_sources left (Some right) places p = p

pub passed_of_sources : (left : Source) (right : Option Source) (places : Places) → ArePassedAt (parts_of left right) places
    → AreAllPassed left right places
passed_of_sources left None places p = p
passed_of_sources left (Some right) places p = p
