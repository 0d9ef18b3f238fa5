-- What one part's blob is found to be, and what several opened parts make together.
use Rattle.std.proofs.Common.{◌≡◌, ℕ, ◌+◌, ◌<◌, List, [], ◌∷◌, ◌++◌, length, take, drop, get_or, Option, None, Some, refl, ap, sym, ◌∙◌}
use Rattle.std.proofs.Common.{subst, arith, append-nil, append_assoc, take-append-drop, inl, inr}
use Rattle.std.specs.Prelude.{Result, Ok, Err, IfNone, IfSome, OnOk}
use Rattle.std.specs.List.{AllByRecursion}
use Rattle.std.proofs.lemmas.List.{drop_more, take_more}
use Rattle.wu_base.specs.declared.addresses.PartRec.{PartRec}
use Rattle.wu_base.specs.declared.troubles.Trouble.{Trouble}
use Rattle.wu_base.specs.declared.troubles.Trouble.TheVariants.{Damaged, NoMemory}
use Rattle.wu_base.proofs.EachLemmas.{each-append, each-map}
use Rattle.wu_outside.specs.Content.{Content, HasSize}
use Rattle.wu_outside.specs.Faults.{Rose}
use Rattle.wu_outside.specs.Ranges.{asked_size}
use Rattle.wu_outside.specs.declared.ranges.ReadRange.{ReadRange}
use Rattle.wu_layout.specs.Invariants.{SomeOf}
use Rattle.wu_layout.proofs.EntryLemmas.{IfSome-map, IfSome-map2}
use Rattle.wu_layout.proofs.KeptLemmas.{SomeOf-right}
use Rattle.wu_part.specs.declared.headers.TheConstants.{HEADER_LEN}
use Rattle.wu_part.specs.Directories.{IsSpelled, PartDirectory, SpellsDirectory}
use Rattle.wu_part.specs.Headers.{SpellsHeader}
use Rattle.wu_part.specs.Parts.{IsRecorded}
use Rattle.wu_part.proofs.LawLemmas.{one_directory}
use Rattle.wu_job.specs.Steps.{adds}
use Rattle.wu_parts.specs.Loading.{AreOpened, HasDirectory, HasNoDirectory, IsFirstBroken, IsFrontOf, IsLoadCause, IsOpened}
use Rattle.wu_parts.specs.Loading.{ReadsFronts, WasHeaderRead, header_range}
use Rattle.wu_parts.specs.OpenedParts.{ArePartsOpened, CannotBeOpened, HasBytesAt, IsDirectoryIn, IsDirectoryRead}
use Rattle.wu_parts.specs.OpenedParts.{IsPartOpened, TellsLength, front_ranges}
use Rattle.wu_parts.specs.StoredParts.{directories_of}
use Rattle.wu_parts.specs.declared.writing.StoredPart.{StoredPart}
use Rattle.wu_parts.proofs.Spans.{directories-push, records-push}
use Rattle.wu_parts.proofs.ReadingBack.{code_spelled}

-- ---- the directory

pub no-directory-unspelled : (recorded : PartRec) (o : Option (List ℕ)) (n : ℕ) (code : List ℕ) → length code ≡ n → TellsLength n o
    → HasBytesAt o HEADER_LEN code
    → ((directory : PartDirectory) → SpellsDirectory directory code → directory.size ≡ recorded.size → ⊥) → HasNoDirectory recorded o
no-directory-unspelled recorded None n code long header has none = tt
no-directory-unspelled recorded (Some bytes) n code long header has none = λ directory own told.
    let same : take n (drop HEADER_LEN bytes) ≡ code =
    sym (has ∙ ap (λ (n : ℕ). take n (drop HEADER_LEN bytes)) long) in
    none directory
    (subst (SpellsDirectory directory) same
    (code_spelled bytes directory own (take HEADER_LEN bytes) (drop HEADER_LEN bytes) n refl refl header.spelled))
    told.size

pub directory-found : (size n : ℕ) (o : Option (List ℕ)) (code : List ℕ) (directory : PartDirectory) → length code ≡ n → HasSize size o
    → TellsLength n o → HasBytesAt o HEADER_LEN code → SpellsDirectory directory code → directory.size ≡ size → HasDirectory directory n o
directory-found size n None code directory long sized header has s same = sized
directory-found size n (Some bytes) code directory long sized header has s same =
    let rest : List ℕ = drop HEADER_LEN bytes in
    let code_is : code ≡ take n rest = has ∙ ap (λ (n : ℕ). take n rest) long in (
      record {
        size = sized ∙ sym same;
        header = take HEADER_LEN bytes;
        code = code;
        blocks = drop n rest;
        whole =
            sym (take-append-drop HEADER_LEN bytes)
            ∙ ap (λ (l : List ℕ). take HEADER_LEN bytes ++ l)
            (sym (take-append-drop n rest) ∙ ap (λ (l : List ℕ). l ++ drop n rest) (sym code_is));
        header_spelled = subst (λ (n : ℕ). SpellsHeader n (take HEADER_LEN bytes)) (sym long) header.spelled;
        code_spelled = s;
      },
      header,
    )

-- a blob has one directory: where it isn't as recorded, none is
pub no-directory-untold : (recorded : PartRec) (o : Option (List ℕ)) (n : ℕ) (directory : PartDirectory) → HasDirectory directory n o
    → (IsRecorded recorded directory → ⊥) → HasNoDirectory recorded o
no-directory-untold recorded None n directory own untold = tt
no-directory-untold recorded (Some bytes) n directory own untold = λ other its told.
    untold (subst (IsRecorded recorded) (one_directory other directory bytes its own.0) told)

-- ---- where the store tells what it holds

module _ (holds : Option Content) (recorded : PartRec) (n : ℕ) (code : List ℕ) (long : length code ≡ n)
    (header : IfSome holds (λ content. TellsLength n (content.blobs recorded.blob)))
    (has : IfSome holds (λ content. HasBytesAt (content.blobs recorded.blob) HEADER_LEN code)) where
  pub directory-in : (directory : PartDirectory) → IfSome holds (λ content. HasSize recorded.size (content.blobs recorded.blob))
      → SpellsDirectory directory code → directory.size ≡ recorded.size → IsDirectoryIn holds recorded directory n
  directory-in directory sized s same = record { size = same; spelled = (code, s); own = its_own holds header has sized }
    where
      its_own : (holds : Option Content) → IfSome holds (λ content. TellsLength n (content.blobs recorded.blob))
          → IfSome holds (λ content. HasBytesAt (content.blobs recorded.blob) HEADER_LEN code)
          → IfSome holds (λ content. HasSize recorded.size (content.blobs recorded.blob))
          → IfSome holds (λ content. HasDirectory directory n (content.blobs recorded.blob))
      its_own None t h z = tt
      its_own (Some content) t h z = directory-found recorded.size n (content.blobs recorded.blob) code directory long z t h s same

  pub no-directory-in : ((directory : PartDirectory) → SpellsDirectory directory code → directory.size ≡ recorded.size → ⊥)
      → CannotBeOpened holds recorded
  no-directory-in none =
      IfSome-map2 (λ content. TellsLength n (content.blobs recorded.blob))
      (λ content. HasBytesAt (content.blobs recorded.blob) HEADER_LEN code)
      (λ content. HasNoDirectory recorded (content.blobs recorded.blob)) holds
      (λ content t h. no-directory-unspelled recorded (content.blobs recorded.blob) n code long t h none) header has

pub none-map : {X : Type 0} (o : Option X) (A B : Type 0) → (A → B) → IfNone o A → IfNone o B
none-map None A B f a = f a
none-map (Some x) A B f a = tt

pub none-said : {X : Type 0} (o : Option X) (P : X → Type 0) → ((x : X) → o ≡ Some x → ⊥) → IfSome o P
none-said None P not = tt
none-said (Some x) P not = absurd (not x refl)

-- the directory was found, and it isn't as recorded
untold : (holds : Option Content) (recorded : PartRec) (before after : Option (List ReadRange)) (directory : PartDirectory)
    → IsDirectoryRead holds recorded before after directory → (IsRecorded recorded directory → ⊥) → CannotBeOpened holds recorded
untold holds recorded before after directory d not =
    IfSome-map (λ content. HasDirectory directory d.directory_length (content.blobs recorded.blob))
    (λ content. HasNoDirectory recorded (content.blobs recorded.blob)) holds
    (λ content own. no-directory-untold recorded (content.blobs recorded.blob) d.directory_length directory own not) d.found.own

pub untold-or-none : (holds : Option Content) (recorded : PartRec) (before after : Option (List ReadRange)) (found : Option PartDirectory)
    → IfSome found (IsDirectoryRead holds recorded before after) → IfNone found (CannotBeOpened holds recorded)
    → IfSome found (λ directory. IsRecorded recorded directory → ⊥) → CannotBeOpened holds recorded
untold-or-none holds recorded before after None d none not = none
untold-or-none holds recorded before after (Some directory) d none not = untold holds recorded before after directory d not

damaged_same : (a b : ℕ) → Damaged a ≡ Damaged b → a ≡ b
damaged_same a b e = cc

pub cause-damaged : (holds : Option Content) (recorded : PartRec) (before now : ℕ) (ranges ranges_now : Option (List ReadRange))
    → now ≡ before → WasHeaderRead ranges ranges_now recorded.blob → CannotBeOpened holds recorded
    → IsLoadCause holds (recorded ∷ []) before now ranges ranges_now (Damaged recorded.blob)
cause-damaged holds recorded before now ranges ranges_now calm read broken = record {
  counted = omega (arith, calm);
  store_fault = λ e. absurd (cc);
  calm = λ n. calm;
  was_read = λ blob e. subst (WasHeaderRead ranges ranges_now) (damaged_same recorded.blob blob e) read;
  damaged = λ blob e.
      let same : recorded.blob ≡ blob = damaged_same recorded.blob blob e in
      inl (same, subst (λ (n : ℕ). IfSome holds (λ content. HasNoDirectory recorded (content.blobs n))) same broken);
}

pub cause-memory : (holds : Option Content) (records : List PartRec) (before now : ℕ) (ranges ranges_now : Option (List ReadRange))
    → now ≡ before → IsLoadCause holds records before now ranges ranges_now NoMemory
cause-memory holds records before now ranges ranges_now calm = record {
  counted = omega (arith, calm);
  store_fault = λ e. absurd (cc);
  calm = λ n. calm;
  was_read = λ blob e. absurd (cc);
  damaged = λ blob e. absurd (cc);
}

-- ---- what is read

pub adds-none : (ranges : Option (List ReadRange)) → adds [] ranges ≡ ranges
adds-none None = refl
adds-none (Some earlier) = ap Some (append-nil earlier)

pub adds-append : (xs ys : List ReadRange) (ranges : Option (List ReadRange)) → adds ys (adds xs ranges) ≡ adds (xs ++ ys) ranges
adds-append xs ys None = refl
adds-append xs ys (Some earlier) = ap Some (append_assoc earlier xs ys)

-- the header was read, and perhaps more
pub header-was-read : (blob : ℕ) (later : List ReadRange) (before after : Option (List ReadRange))
    → after ≡ adds (header_range blob ∷ later) before → WasHeaderRead before after blob
header-was-read blob later before after e = (header_range blob ∷ later, inl refl, e)

-- and then the size was asked
pub header-and-size : (blob : ℕ) (before next after : Option (List ReadRange)) → next ≡ adds (header_range blob ∷ []) before
    → after ≡ adds (asked_size blob ∷ []) next → after ≡ adds (header_range blob ∷ asked_size blob ∷ []) before
header-and-size blob before next after e d =
    d ∙ ap (adds (asked_size blob ∷ [])) e ∙ adds-append (header_range blob ∷ []) (asked_size blob ∷ []) before

-- and then the directory, where that was
pub header-then-read : {T E : Type 0} (blob : ℕ) (later : List ReadRange) (before next after : Option (List ReadRange)) (r : Result T E)
    → next ≡ adds (header_range blob ∷ asked_size blob ∷ []) before → OnOk r (after ≡ adds later next)
    → OnOk r (WasHeaderRead before after blob)
header-then-read blob later before next after (Ok x) e d =
    header-was-read blob (asked_size blob ∷ later) before after
    (d ∙ ap (adds later) e ∙ adds-append (header_range blob ∷ asked_size blob ∷ []) later before)
header-then-read blob later before next after (Err x) e d = tt

-- other parts were opened before
pub header-was-read-later : (earlier : List ReadRange) (blob : ℕ) (first next last : Option (List ReadRange))
    → next ≡ adds earlier first → WasHeaderRead next last blob → WasHeaderRead first last blob
header-was-read-later earlier blob first next last e w = (
  earlier ++ w.0,
  SomeOf-right (λ range. range ≡ header_range blob) earlier w.0 w.1,
  w.2 ∙ ap (adds w.0) e ∙ adds-append earlier w.0 first,
)

module _ (holds : Option Content) where
  pub fronts-none : (records : List PartRec) (before after : Option (List ReadRange)) → after ≡ before
      → ReadsFronts holds records before after
  fronts-none records before after e = ([], tt, e ∙ sym (adds-none before))

  pub fronts-then : (records : List PartRec) (first next last : Option (List ReadRange)) → ReadsFronts holds records first next
      → ReadsFronts holds records next last → ReadsFronts holds records first last
  fronts-then records first next last f g = (
    f.0 ++ g.0,
    each-append (λ range. SomeOf (IsFrontOf holds range) records) f.0 g.0 f.1 g.1,
    g.2 ∙ ap (adds g.0) f.2 ∙ adds-append f.0 g.0 first,
  )

  pub fronts-one : (recorded : PartRec) (range : ReadRange) (before after : Option (List ReadRange)) → IsFrontOf holds range recorded
      → after ≡ adds (range ∷ []) before → ReadsFronts holds (recorded ∷ []) before after
  fronts-one recorded range before after is e = (range ∷ [], (inl is, tt), e)

  -- the header was read
  pub fronts-header : (recorded : PartRec) (before after : Option (List ReadRange)) → after ≡ adds (header_range recorded.blob ∷ []) before
      → ReadsFronts holds (recorded ∷ []) before after
  fronts-header recorded before after e = fronts-one recorded (header_range recorded.blob) before after (inl refl) e

  -- and then the size was asked
  pub fronts-sized : (recorded : PartRec) (before after : Option (List ReadRange))
      → after ≡ adds (header_range recorded.blob ∷ asked_size recorded.blob ∷ []) before → ReadsFronts holds (recorded ∷ []) before after
  fronts-sized recorded before after e =
      (header_range recorded.blob ∷ asked_size recorded.blob ∷ [], (inl (inl refl), (inl (inr (inl refl)), tt)), e)

  -- of one of the records
  pub fronts-among : (before : List PartRec) (recorded : PartRec) (later : List PartRec) (first next : Option (List ReadRange))
      → ReadsFronts holds (recorded ∷ []) first next → ReadsFronts holds (before ++ recorded ∷ later) first next
  fronts-among before recorded later first next f = (
    f.0,
    each-map (λ range. SomeOf (IsFrontOf holds range) (recorded ∷ []))
        (λ range. SomeOf (IsFrontOf holds range) (before ++ recorded ∷ later)) f.0 (λ range s. among before range s) f.1,
    f.2,
  )
    where
      among : (before : List PartRec) (range : ReadRange) → SomeOf (IsFrontOf holds range) (recorded ∷ [])
          → SomeOf (IsFrontOf holds range) (before ++ recorded ∷ later)
      among [] range (inl s) = inl s
      among [] range (inr s) = absurd s
      among (other ∷ before) range s = inr (among before range s)

  -- ---- one part more

  pub opened-push : (records : List PartRec) (directories : List PartDirectory) (read : List ReadRange) (recorded : PartRec)
      (directory : PartDirectory) (n : ℕ) → AreOpened holds records directories read → IsOpened holds recorded directory n
      → AreOpened holds (records ++ recorded ∷ []) (directories ++ directory ∷ []) (read ++ front_ranges recorded.blob n)
  opened-push [] [] read recorded directory n a o =
      (n, [], o, ap (λ (l : List ReadRange). l ++ front_ranges recorded.blob n) a, refl)
  opened-push [] (other ∷ directories) read recorded directory n a o = absurd a
  opened-push (first ∷ records) [] read recorded directory n a o = absurd a
  opened-push (first ∷ records) (other ∷ directories) read recorded directory n a o = (
    a.0,
    a.1 ++ front_ranges recorded.blob n,
    a.2,
    ap (λ (l : List ReadRange). l ++ front_ranges recorded.blob n) a.3,
    opened-push records directories a.1 recorded directory n a.4 o,
  )

  -- a part that can't be opened is the first one where those before it were opened
  pub broken-after : (records : List PartRec) (directories : List PartDirectory) (read : List ReadRange) (recorded : PartRec)
      (later : List PartRec) (blob : ℕ) → AreOpened holds records directories read → IsFirstBroken holds (recorded ∷ []) blob
      → IsFirstBroken holds (records ++ recorded ∷ later) blob
  broken-after [] directories read recorded later blob a (inl b) = inl b
  broken-after [] directories read recorded later blob a (inr b) = absurd b.1
  broken-after (first ∷ records) [] read recorded later blob a b = absurd a
  broken-after (first ∷ records) (directory ∷ directories) read recorded later blob a b =
      inr ((directory, a.0, a.2), broken-after records directories a.1 recorded later blob a.4 b)

  spelled-push : (directories : List PartDirectory) (directory : PartDirectory) → AllByRecursion IsSpelled directories → IsSpelled directory
      → AllByRecursion IsSpelled (directories ++ directory ∷ [])
  spelled-push [] directory a s = (s, tt)
  spelled-push (first ∷ directories) directory a s = (a.0, spelled-push directories directory a.1 s)

  pub parts-none : (ranges : Option (List ReadRange)) → ArePartsOpened holds [] ranges ranges []
  parts-none ranges = record { same = refl; spelled = tt; read = []; opened = refl; read_are = sym (adds-none ranges) }

  pub parts-push : (records : List PartRec) (recorded : PartRec) (first next last : Option (List ReadRange)) (parts : List StoredPart)
      (part : StoredPart) → ArePartsOpened holds records first next parts → IsPartOpened holds recorded next last part
      → ArePartsOpened holds (records ++ recorded ∷ []) first last (parts ++ part ∷ [])
  parts-push records recorded first next last parts part a o = record {
    same =
        records-push parts part
        ∙ ap (λ (l : List PartRec). l ++ part.recorded ∷ []) a.same
        ∙ ap (λ (r : PartRec). records ++ r ∷ []) o.same;
    spelled =
        subst (AllByRecursion IsSpelled) (sym (directories-push parts part))
        (spelled-push (directories_of parts) part.directory a.spelled o.spelled);
    read = a.read ++ front_ranges recorded.blob o.directory_length;
    opened =
        subst (λ ds. AreOpened holds (records ++ recorded ∷ []) ds (a.read ++ front_ranges recorded.blob o.directory_length))
        (sym (directories-push parts part))
        (opened-push records (directories_of parts) a.read recorded part.directory o.directory_length a.opened o.opened);
    read_are =
        o.read
        ∙ ap (adds (front_ranges recorded.blob o.directory_length)) a.read_are
        ∙ adds-append a.read (front_ranges recorded.blob o.directory_length) first;
  }

  -- the next part can't be opened
  pub cause-next : (records : List PartRec) (recorded : PartRec) (later : List PartRec) (first next last : Option (List ReadRange))
      (parts : List StoredPart) (start before now : ℕ) (trouble : Trouble) → ArePartsOpened holds records first next parts → before ≡ start
      → IsLoadCause holds (recorded ∷ []) before now next last trouble
      → IsLoadCause holds (records ++ recorded ∷ later) start now first last trouble
  cause-next records recorded later first next last parts start before now trouble a calm c = record {
    counted = omega (arith, calm, c.counted);
    store_fault = λ e. subst (λ (n : ℕ). Rose n now) calm (c.store_fault e);
    calm = λ n. c.calm n ∙ calm;
    was_read = λ blob e. header-was-read-later a.read blob first next last a.read_are (c.was_read blob e);
    damaged = λ blob e.
        broken-after records (directories_of parts) a.read recorded later blob a.opened (c.damaged blob e);
  }

-- ---- the records, one after another

abbrev pub no_record : PartRec
no_record = record { blob = 0; size = 0; generation = 0; low = 0; high = 0; stored = 0 }

module _ (records : List PartRec) (i : ℕ) (within : i < length records) (holds told : Option Content) (same : told ≡ holds) where
  -- those so far, this one, and those that are left
  one_more : records ≡ take i records ++ get_or records i no_record ∷ drop (i + 1) records
  one_more =
      sym (take-append-drop i records) ∙ ap (λ (l : List PartRec). take i records ++ l) (drop_more records i no_record within)

  pub turn-fails : (first next last : Option (List ReadRange)) (parts : List StoredPart) (start before now : ℕ) (trouble : Trouble)
      → ArePartsOpened holds (take i records) first next parts → before ≡ start
      → IsLoadCause told (get_or records i no_record ∷ []) before now next last trouble
      → IsLoadCause holds records start now first last trouble
  turn-fails first next last parts start before now trouble a calm c =
      subst (λ rs. IsLoadCause holds rs start now first last trouble) (sym one_more)
      (cause-next holds (take i records) (get_or records i no_record) (drop (i + 1) records) first next last parts start before now trouble
      a calm (subst (λ h. IsLoadCause h (get_or records i no_record ∷ []) before now next last trouble) same c))

  pub turn-fronts : (first next last : Option (List ReadRange)) → ReadsFronts holds records first next
      → ReadsFronts told (get_or records i no_record ∷ []) next last → ReadsFronts holds records first last
  turn-fronts first next last f g =
      fronts-then holds records first next last f
      (subst (λ rs. ReadsFronts holds rs next last) (sym one_more)
      (fronts-among holds (take i records) (get_or records i no_record) (drop (i + 1) records) next last
      (subst (λ h. ReadsFronts h (get_or records i no_record ∷ []) next last) same g)))

  pub turn-step : (first next last : Option (List ReadRange)) (parts more : List StoredPart) (part : StoredPart)
      → ArePartsOpened holds (take i records) first next parts → IsPartOpened told (get_or records i no_record) next last part
      → more ≡ parts ++ part ∷ [] → ArePartsOpened holds (take (i + 1) records) first last more
  turn-step first next last parts more part a o pushed =
      subst (ArePartsOpened holds (take (i + 1) records) first last) (sym pushed)
      (subst (λ rs. ArePartsOpened holds rs first last (parts ++ part ∷ [])) (sym (take_more records i no_record within))
      (parts-push holds (take i records) (get_or records i no_record) first next last parts part a
      (subst (λ h. IsPartOpened h (get_or records i no_record) next last part) same o)))
