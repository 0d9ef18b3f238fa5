-- Where engine and store stand for a state, the store has each text and each part as it was recorded.
use Rattle.std.proofs.Common.{◌≡◌, ℕ, ◌<◌, List, [], ◌∷◌, length, Option, Some, None, Result, Ok, Err, IsErrAnd, sym, ap, ◌∙◌, subst}
use Rattle.std.proofs.Common.{⊎_elim, IfSome}
use Rattle.std.specs.Prelude.{zip}
use Rattle.std.specs.Ordering.{nat_cmp}
use Rattle.std.specs.List.{AllByRecursion}
use Rattle.std.specs.Map.{lookup}
use Rattle.std.specs.BTreeMap.{is_at}
use Rattle.wu_base.proofs.MapEntries.{all_found}
use Rattle.wu_base.specs.declared.troubles.Trouble.{Trouble}
use Rattle.wu_base.specs.declared.addresses.PartRec.{PartRec}
use Rattle.wu_outside.specs.Content.{Content}
use Rattle.wu_token.specs.Tokens.{tokens_of}
use Rattle.wu_layout.specs.Layouts.{FileEntry, Part, entry_of, homes_of, lists_of, postings_of}
use Rattle.wu_layout.specs.Invariants.{IsIndexed, SomeOf}
use Rattle.wu_layout.proofs.EntryLemmas.{IfSome-found, IfSome-map}
use Rattle.wu_image.specs.Texts.{IsBrokenText}
use Rattle.wu_part.specs.Directories.{PartDirectory}
use Rattle.wu_part.specs.Parts.{IsNoPart}
use Rattle.wu_parts.specs.Causes.{IsBrokenPart}
use Rattle.wu_parts.specs.Holdings.{HoldsPart, HoldParts}
use Rattle.wu_query.specs.Causes.{IsDamagedAt, IsDamagedIn}
use Rattle.wu_query.specs.Records.{record_of, records_of}
use Rattle.wu_query.specs.States.{State, Texts, indexed, text_in}
use Rattle.wu_engine.specs.declared.engines.Engine.{Engine}
use Rattle.wu_engine.specs.Stands.{Stands}

-- the file's text is in its blob, unless it is empty, and its range has an address for each token
abbrev IsKept : Content → Texts → ℕ × FileEntry → Type 0
IsKept content texts file =
    (0 < file.1.blob → content.blobs file.1.blob ≡ Some (text_in texts file.0))
    × (file.1.range.len ≡ length (tokens_of (text_in texts file.0)))

unbroken : (texts : Texts) (file : ℕ × FileEntry) (bytes : Option (List ℕ)) → bytes ≡ Some (text_in texts file.0)
    → file.1.range.len ≡ length (tokens_of (text_in texts file.0)) → IsBrokenText (record_of texts file) bytes → ⊥
unbroken texts file None there long broken = absurd cc
unbroken texts file (Some bytes) there long broken =
    let same : bytes ≡ text_in texts file.0 = some_same there in
    ⊎_elim (λ other. other (ap length same)) (λ other. other (ap (λ bs. length (tokens_of bs)) same ∙ sym long)) broken
  where
    some_same : {xs ys : List ℕ} → Some xs ≡ Some ys → xs ≡ ys
    some_same e = cc

all_kept : (content : Content) (texts : Texts) (files : List (ℕ × FileEntry)) (blob : ℕ) → AllByRecursion (IsKept content texts) files
    → IsDamagedAt (records_of texts files) (Some content) blob → ⊥
all_kept content texts [] blob kept damaged = damaged
all_kept content texts (file ∷ files) blob kept damaged =
    ⊎_elim
    (λ broken. unbroken texts file (content.blobs blob)
    (subst (λ b. content.blobs b ≡ Some (text_in texts file.0)) broken.0 (kept.0.0 (subst (λ b. 0 < b) (sym broken.0) broken.1)))
    kept.0.1 broken.2)
    (all_kept content texts files blob kept.1)
    damaged

each_kept : (content : Content) (s : State) (files : List (ℕ × FileEntry))
    → ((ino : ℕ) → IfSome (entry_of s.layout.files ino) (λ entry. 0 < entry.blob → content.blobs entry.blob ≡ Some (text_in s.texts ino)))
    → ((ino : ℕ) → IfSome (entry_of s.layout.files ino) (λ entry. entry.range.len ≡ length (tokens_of (text_in s.texts ino))))
    → AllByRecursion (λ file. lookup (is_at (nat_cmp file.0)) s.layout.files ≡ Some file.1) files
    → AllByRecursion (IsKept content s.texts) files
each_kept content s [] held long found = tt
each_kept content s (file ∷ files) held long found = (
  (
    IfSome-found (λ (entry : FileEntry). 0 < entry.blob → content.blobs entry.blob ≡ Some (text_in s.texts file.0))
        (entry_of s.layout.files file.0) file.1 found.0 (held file.0),
    IfSome-found (λ (entry : FileEntry). entry.range.len ≡ length (tokens_of (text_in s.texts file.0)))
        (entry_of s.layout.files file.0) file.1 found.0 (long file.0),
  ),
  each_kept content s files held long found.1,
)

-- ---- parts

is_part : (content : Content) (recorded : PartRec) (directory : PartDirectory) (part : Part) → HoldsPart content recorded directory part
    → IsNoPart directory (content.blobs recorded.blob) → ⊥
is_part content recorded directory part held broken =
    let there : content.blobs recorded.blob ≡ Some held.bytes = ap content.blobs held.record_of.blob ∙ held.held in
    (subst (IsNoPart directory) there broken) (lists_of part.postings) held.spelled

all_are_parts : (content : Content) (records : List PartRec) (directories : List PartDirectory) (parts : List Part) (blob : ℕ)
    → HoldParts content records directories parts → SomeOf (IsBrokenPart (Some content) blob) (zip records directories) → ⊥
all_are_parts content [] [] [] blob held broken = broken
all_are_parts content [] [] (part ∷ parts) blob held broken = absurd held
all_are_parts content [] (directory ∷ directories) parts blob held broken = absurd held
all_are_parts content (recorded ∷ records) [] parts blob held broken = absurd held
all_are_parts content (recorded ∷ records) (directory ∷ directories) [] blob held broken = absurd held
all_are_parts content (recorded ∷ records) (directory ∷ directories) (part ∷ parts) blob held broken =
    ⊎_elim
    (λ here. is_part content recorded directory part held.0 (subst (λ b. IsNoPart directory (content.blobs b)) (sym here.0) here.1))
    (all_are_parts content records directories parts blob held.1)
    broken

-- ---- then no blob is damaged

texts_undamaged : (engine : Engine) (content : Content) (s : State) (blob : ℕ) → Stands engine (Some content) s
    → IsDamagedAt engine.files.entries (Some content) blob → ⊥
texts_undamaged engine content s blob stands damaged =
    let layout = stands.index.is_state.layout in
    all_kept content s.texts s.layout.files blob
    (each_kept content s s.layout.files stands.texts
    (λ ino. IfSome-map (λ (entry : FileEntry). IsIndexed (indexed (text_in s.texts ino)) entry
    (homes_of s.layout.parts s.layout.memory) (postings_of s.layout.parts s.layout.memory))
    (λ (entry : FileEntry). entry.range.len ≡ length (tokens_of (text_in s.texts ino)))
    (entry_of s.layout.files ino) (λ entry kept. kept.long) (layout.texts.each ino))
    (all_found s.layout.files layout.ranges.by_number))
    (subst (λ files. IsDamagedAt files (Some content) blob) stands.index.files damaged)

pub undamaged : (engine : Engine) (holds : Option Content) (s : State) (blob : ℕ) → Stands engine holds s
    → IsDamagedIn engine.files.entries engine.parts holds blob → ⊥
undamaged engine None s blob stands damaged = absurd stands.texts
undamaged engine (Some content) s blob stands damaged =
    ⊎_elim (texts_undamaged engine content s blob stands)
    (all_are_parts content engine.parts.parts engine.parts.directories s.layout.parts blob stands.parts)
    damaged

-- ---- troubles

-- the trouble that is handed on is the one that was answered
pub same_trouble : {T : Type 0} (r : Result T Trouble) (trouble other : Trouble) → IsErrAnd r (λ t. t ≡ trouble) → r ≡ Err other
    → trouble ≡ other
same_trouble (Ok value) trouble other is e = absurd is
same_trouble (Err t) trouble other is e = cc (is, e)
