-- Lemmas on spelled items: bytes start with one list of items of a form at most, and items have one spelling.
use Rattle.std.proofs.Common.{◌≡◌, ℕ, ◌+◌, ◌-◌, ◌^◌, ◌<◌, ◌≤◌, List, [], ◌∷◌, ◌++◌, length, refl, ap, sym, subst, ◌∙◌, append_assoc}
use Rattle.std.proofs.Common.{append-nil, length-append, arith}
use Rattle.std.specs.List.{AllByRecursion, flat_map}
use Rattle.std.proofs.lemmas.List.{flat_map_more}
use Rattle.std.proofs.lemmas.Grind.{flat_map-append}
use Rattle.wu_base.proofs.EachLemmas.{each-push}
use Rattle.wu_vbyte.specs.Numbers.{AppendsNumber}
use Rattle.wu_vbyte.proofs.NumberLemmas.{one_number}
use Rattle.wu_vbyte.proofs.BlockLemmas.{starts_longer}
use Rattle.wu_part.proofs.LawLemmas.{number_code}
use Rattle.wu_image.specs.Items.{Item, Number, Id, Raw, StartsWith, Appends, list_items}

-- ---- several items

pub joined : (bytes left rest : List ℕ) (xs ys : List Item) → StartsWith bytes xs left → StartsWith left ys rest
    → StartsWith bytes (xs ++ ys) rest
joined bytes left rest [] ys s t = rw s t
joined bytes left rest (Number n ∷ xs) ys s t = (s.0, s.1, s.2, joined s.1 left rest xs ys s.3 t)
joined bytes left rest (Id n ∷ xs) ys s t = (s.0, s.1, s.2, joined s.1 left rest xs ys s.3 t)
joined bytes left rest (Raw raw ∷ xs) ys s t = (s.0, s.1, joined s.0 left rest xs ys s.2 t)

pub parted : (bytes rest : List ℕ) (xs ys : List Item) → StartsWith bytes (xs ++ ys) rest
    → (left : List ℕ) × StartsWith bytes xs left × StartsWith left ys rest
parted bytes rest [] ys s = (bytes, refl, s)
parted bytes rest (Number n ∷ xs) ys s = let h = parted s.1 rest xs ys s.3 in (h.0, (s.0, s.1, s.2, h.1), h.2)
parted bytes rest (Id n ∷ xs) ys s = let h = parted s.1 rest xs ys s.3 in (h.0, (s.0, s.1, s.2, h.1), h.2)
parted bytes rest (Raw raw ∷ xs) ys s = let h = parted s.0 rest xs ys s.2 in (h.0, (s.0, s.1, h.1), h.2)

-- more bytes after the items
pub longer : (bytes rest more : List ℕ) (xs : List Item) → StartsWith bytes xs rest → StartsWith (bytes ++ more) xs (rest ++ more)
longer bytes rest more [] s = ap (λ (x : List ℕ). x ++ more) s
longer bytes rest more (Number n ∷ xs) s =
    (s.0, s.1 ++ more, starts_longer bytes n s.1 more s.2, longer s.1 rest more xs s.3)
longer bytes rest more (Id n ∷ xs) s = (s.0, s.1 ++ more, starts_longer bytes n s.1 more s.2, longer s.1 rest more xs s.3)
longer bytes rest more (Raw raw ∷ xs) s =
    (s.0 ++ more, ap (λ (x : List ℕ). x ++ more) s.1 ∙ append_assoc raw s.0 more, longer s.0 rest more xs s.2)

-- items have one spelling
pub one_code : (a b rest left : List ℕ) (xs : List Item) → StartsWith a xs rest → StartsWith b xs left → rest ≡ left → a ≡ b
one_code a b rest left [] s t e = s ∙ (e ∙ sym t)
one_code a b rest left (Number n ∷ xs) s t e = number_code a b n s.1 t.1 s.2 t.2 (one_code s.1 t.1 rest left xs s.3 t.3 e)
one_code a b rest left (Id n ∷ xs) s t e = number_code a b n s.1 t.1 s.2 t.2 (one_code s.1 t.1 rest left xs s.3 t.3 e)
one_code a b rest left (Raw raw ∷ xs) s t e =
    s.1 ∙ (ap (λ (x : List ℕ). raw ++ x) (one_code s.0 t.0 rest left xs s.2 t.2 e) ∙ sym t.1)

-- ---- the first item

-- what follows the first number
pub record AfterFirst (n m : ℕ) (xs ys : List Item) (rest last : List ℕ) : Type 0 where
  pub number : n ≡ m
  pub left : List ℕ
  pub mine : StartsWith left xs rest
  pub its : StartsWith left ys last

pub after_number : (bytes : List ℕ) (n m : ℕ) (xs ys : List Item) (rest last : List ℕ) → StartsWith bytes (Number n ∷ xs) rest
    → StartsWith bytes (Number m ∷ ys) last → AfterFirst n m xs ys rest last
after_number bytes n m xs ys rest last s t =
    let one = one_number bytes n m s.1 t.1 s.2 t.2 in
    record { number = one.0; left = s.1; mine = s.3; its = subst (λ (l : List ℕ). StartsWith l ys last) (sym one.1) t.3 }

pub after_id : (bytes : List ℕ) (n m : ℕ) (xs ys : List Item) (rest last : List ℕ) → StartsWith bytes (Id n ∷ xs) rest
    → StartsWith bytes (Id m ∷ ys) last → AfterFirst n m xs ys rest last
after_id bytes n m xs ys rest last s t =
    let one = one_number bytes n m s.1 t.1 s.2 t.2 in
    record { number = one.0; left = s.1; mine = s.3; its = subst (λ (l : List ℕ). StartsWith l ys last) (sym one.1) t.3 }

-- what follows a number that was read
pub past_number : (bytes : List ℕ) (n m : ℕ) (left last : List ℕ) (ys : List Item) → StartsWith bytes (Number n ∷ []) left
    → StartsWith bytes (Number m ∷ ys) last → (m ≡ n) × StartsWith left ys last
past_number bytes n m left last ys s t =
    let one = one_number bytes n m s.1 t.1 s.2 t.2 in
    (sym one.0, subst (λ (l : List ℕ). StartsWith l ys last) (sym one.1 ∙ s.3) t.3)

pub past_id : (bytes : List ℕ) (n m : ℕ) (left last : List ℕ) (ys : List Item) → StartsWith bytes (Id n ∷ []) left
    → StartsWith bytes (Id m ∷ ys) last → (m ≡ n) × StartsWith left ys last
past_id bytes n m left last ys s t =
    let one = one_number bytes n m s.1 t.1 s.2 t.2 in
    (sym one.0, subst (λ (l : List ℕ). StartsWith l ys last) (sym one.1 ∙ s.3) t.3)

-- a number that was read where the number of a user, a group or a node stands
pub id_read : (bytes : List ℕ) (n m : ℕ) (left last : List ℕ) (ys : List Item) → StartsWith bytes (Number n ∷ []) left
    → StartsWith bytes (Id m ∷ ys) last → (m ≡ n) × (m < 2 ^ 32)
id_read bytes n m left last ys s t = let one = one_number bytes n m s.1 t.1 s.2 t.2 in (sym one.0, t.0)

pub id_as_number : (bytes : List ℕ) (m : ℕ) (last : List ℕ) (ys : List Item) → StartsWith bytes (Id m ∷ ys) last
    → StartsWith bytes (Number m ∷ ys) last
id_as_number bytes m last ys t = let small = t.0 in (omega arith, t.1, t.2, t.3)

-- ---- lists

-- bytes start with the items of one value at most
pub record IsUnique {X : Type 0} (items : X → List Item) (P : X → Type 0) : Type 0 where
  pub one : (x y : X) (bytes rest last : List ℕ) → P x → P y → StartsWith bytes (items x) rest → StartsWith bytes (items y) last
      → (x ≡ y) × (rest ≡ last)

-- what follows those that were taken
pub record Later {X : Type 0} (items : X → List Item) (P : X → Type 0) (taken all : List X) (rest last : List ℕ) : Type 0 where
  pub later : List X
  pub is : all ≡ taken ++ later
  pub valid : AllByRecursion P later
  pub spelled : StartsWith rest (flat_map items later) last

pub later_of : {X : Type 0} (items : X → List Item) (P : X → Type 0) → IsUnique items P → (taken all : List X)
    (bytes rest last : List ℕ) → length taken ≤ length all → AllByRecursion P taken → AllByRecursion P all
    → StartsWith bytes (flat_map items taken) rest → StartsWith bytes (flat_map items all) last → Later items P taken all rest last
later_of items P u [] all bytes rest last l p q s t =
    record { later = all; is = refl; valid = q; spelled = subst (λ (b : List ℕ). StartsWith b (flat_map items all) last) s t }
later_of items P u (x ∷ taken) [] bytes rest last l p q s t = absurd (omega arith)
later_of items P u (x ∷ taken) (y ∷ all) bytes rest last l p q s t =
    let a = parted bytes rest (items x) (flat_map items taken) s in
    let b = parted bytes last (items y) (flat_map items all) t in
    let one = u.one x y bytes a.0 b.0 p.0 q.0 a.1 b.1 in
    let more = later_of items P u taken all a.0 rest last (omega arith) p.1 q.1 a.2
    (subst (λ (b : List ℕ). StartsWith b (flat_map items all) last) (sym one.1) b.2) in
    record {
      later = more.later;
      is = ap (λ z. z ∷ all) (sym one.0) ∙ ap (λ l. x ∷ l) more.is;
      valid = more.valid;
      spelled = more.spelled;
    }

-- as many are the same
pub same_list : {X : Type 0} (items : X → List Item) (P : X → Type 0) → IsUnique items P → (xs ys : List X) (bytes rest last : List ℕ)
    → length xs ≡ length ys → AllByRecursion P xs → AllByRecursion P ys → StartsWith bytes (flat_map items xs) rest
    → StartsWith bytes (flat_map items ys) last → (xs ≡ ys) × (rest ≡ last)
same_list items P u [] [] bytes rest last l p q s t = (refl, sym s ∙ t)
same_list items P u [] (y ∷ ys) bytes rest last l p q s t = absurd (omega arith)
same_list items P u (x ∷ xs) [] bytes rest last l p q s t = absurd (omega arith)
same_list items P u (x ∷ xs) (y ∷ ys) bytes rest last l p q s t =
    let a = parted bytes rest (items x) (flat_map items xs) s in
    let b = parted bytes last (items y) (flat_map items ys) t in
    let one = u.one x y bytes a.0 b.0 p.0 q.0 a.1 b.1 in
    let more = same_list items P u xs ys a.0 rest last (omega arith) p.1 q.1 a.2
    (subst (λ (b : List ℕ). StartsWith b (flat_map items ys) last) (sym one.1) b.2) in
    (ap (λ z. z ∷ xs) one.0 ∙ ap (λ l. y ∷ l) more.0, more.1)

pub unique_list : {X : Type 0} (items : X → List Item) (P : X → Type 0) → IsUnique items P
    → IsUnique (λ xs. list_items items xs) (AllByRecursion P)
unique_list items P u = record {
  one = λ xs ys bytes rest last p q s t.
      let n = after_number bytes (length xs) (length ys) (flat_map items xs) (flat_map items ys) rest last s t in
      same_list items P u xs ys n.left rest last n.number p q n.mine n.its;
}

-- ---- how far so many were taken

pub record Taken {X : Type 0} (items : X → List Item) (P : X → Type 0) (bytes : List ℕ) (count : ℕ) (taken : List X) (left : ℕ)
    (rest : List ℕ) : Type 0 where
  pub number : length taken + left ≡ count
  pub valid : AllByRecursion P taken
  pub spelled : StartsWith bytes (Number count ∷ flat_map items taken) rest

pub none_taken : {X : Type 0} (items : X → List Item) (P : X → Type 0) (bytes : List ℕ) (count left : ℕ) (rest : List ℕ)
    → StartsWith bytes (Number count ∷ []) rest → left ≡ count → Taken items P bytes count [] left rest
none_taken items P bytes count left rest s e = record { number = omega arith; valid = tt; spelled = s }

pub one_taken : {X : Type 0} (items : X → List Item) (P : X → Type 0) (bytes : List ℕ) (count : ℕ) (taken new : List X) (x : X)
    (left fewer : ℕ) (rest after : List ℕ) → Taken items P bytes count taken left rest → 0 < left → P x
    → StartsWith rest (items x) after → new ≡ taken ++ x ∷ [] → fewer ≡ left - 1 → Taken items P bytes count new fewer after
one_taken items P bytes count taken new x left fewer rest after t some p s e f =
    let number = t.number in
    subst (λ n. Taken items P bytes count n fewer after) (sym e) (record {
      number = omega (arith, length-append taken (x ∷ []));
      valid = each-push P taken x t.valid p;
      spelled = subst (λ l. StartsWith bytes (Number count ∷ l) after) (flat_map_more items [] taken x)
          (joined bytes rest after (Number count ∷ flat_map items taken) (items x) t.spelled s);
    })

pub all_taken : {X : Type 0} (items : X → List Item) (P : X → Type 0) (bytes : List ℕ) (count : ℕ) (taken : List X)
    (left : ℕ) (rest : List ℕ) → Taken items P bytes count taken left rest → left ≡ 0
    → AllByRecursion P taken × StartsWith bytes (list_items items taken) rest
all_taken items P bytes count taken left rest t none =
    let number = t.number in
    let long : count ≡ length taken = omega arith in
    (t.valid, subst (λ n. StartsWith bytes (Number n ∷ flat_map items taken) rest) long t.spelled)

-- nothing more can be taken, so there aren't so many
pub not_taken : {X : Type 0} (items : X → List Item) (P : X → Type 0) → IsUnique items P → (bytes : List ℕ) (count : ℕ)
    (taken : List X) (left : ℕ) (rest : List ℕ) → Taken items P bytes count taken left rest → 0 < left
    → ((x : X) (after : List ℕ) → P x → StartsWith rest (items x) after → ⊥)
    → (all : List X) (last : List ℕ) → AllByRecursion P all → StartsWith bytes (list_items items all) last → ⊥
not_taken {X} items P u bytes count taken left rest t some none all last q a =
    let past = after_number bytes count (length all) (flat_map items taken) (flat_map items all) rest last t.spelled a in
    let long = past.number in
    let number = t.number in
    let l = later_of items P u taken all past.left rest last (omega arith) t.valid q past.mine past.its in
    let is = ap length l.is in
    no_next l.later (omega (arith, length-append taken l.later)) l.valid l.spelled
  where
    no_next : (later : List X) → 0 < length later → AllByRecursion P later → StartsWith rest (flat_map items later) last → ⊥
    no_next [] some p b = absurd (omega arith)
    no_next (x ∷ later) some p b =
        let h = parted rest last (items x) (flat_map items later) b in none x h.0 p.0 h.1

-- ---- what is appended

-- what is still to be appended of all
pub record LeftToPut (old now : List ℕ) (all rest : List Item) : Type 0 where
  pub whole : (code : List ℕ) → StartsWith code rest [] → Appends old all (now ++ code)

pub all_left : (old : List ℕ) (all : List Item) → LeftToPut old old all all
all_left old all = record { whole = λ code s. (code, s, refl) }

pub some_put : (old now new : List ℕ) (all chunk rest : List Item) → LeftToPut old now all (chunk ++ rest) → Appends now chunk new
    → LeftToPut old new all rest
some_put old now new all chunk rest l a = record {
  whole = λ code s.
      subst (λ (x : List ℕ). Appends old all x)
      (sym (append_assoc now a.0 code) ∙ ap (λ (x : List ℕ). x ++ code) (sym a.2))
      (l.whole (a.0 ++ code) (joined (a.0 ++ code) code [] chunk rest (longer a.0 [] code chunk a.1) s));
}

pub all_put : (old now : List ℕ) (all : List Item) → LeftToPut old now all [] → Appends old all now
all_put old now all l = subst (λ (x : List ℕ). Appends old all x) (append-nil now) (l.whole [] refl)

pub all_put_at : (old now : List ℕ) (all rest : List Item) → LeftToPut old now all rest → rest ≡ [] → Appends old all now
all_put_at old now all rest l e = all_put old now all (subst (λ (r : List Item). LeftToPut old now all r) e l)

-- the same items, told otherwise
pub left_is : (old now : List ℕ) (all rest other : List Item) → LeftToPut old now all rest → rest ≡ other → LeftToPut old now all other
left_is old now all rest other l e = subst (λ (r : List Item). LeftToPut old now all r) e l

pub appended : (old mid new : List ℕ) (xs ys : List Item) → Appends old xs mid → Appends mid ys new → Appends old (xs ++ ys) new
appended old mid new xs ys a b = (
  a.0 ++ b.0,
  joined (a.0 ++ b.0) b.0 [] xs ys (longer a.0 [] b.0 xs a.1) b.1,
  b.2 ∙ (ap (λ (x : List ℕ). x ++ b.0) a.2 ∙ append_assoc old a.0 b.0),
)

pub number_appended : (old new : List ℕ) (n : ℕ) → n < 2 ^ 64 → AppendsNumber old n new → Appends old (Number n ∷ []) new
number_appended old new n small a = (a.0, (small, [], (a.0, a.1, sym (append-nil a.0)), refl), a.2)

-- a number that equals another
pub renumbered : (old new : List ℕ) (n m : ℕ) → m ≡ n → Appends old (Number m ∷ []) new → Appends old (Number n ∷ []) new
renumbered old new n m e a = subst (λ (k : ℕ). Appends old (Number k ∷ []) new) e a

pub id_appended : (old new : List ℕ) (n : ℕ) → n < 2 ^ 32 → AppendsNumber old n new → Appends old (Id n ∷ []) new
id_appended old new n small a = (a.0, (small, [], (a.0, a.1, sym (append-nil a.0)), refl), a.2)

pub same_id_appended : (old new : List ℕ) (n m : ℕ) → m ≡ n → n < 2 ^ 32 → AppendsNumber old m new → Appends old (Id n ∷ []) new
same_id_appended old new n m e small a = id_appended old new n small (subst (λ (k : ℕ). AppendsNumber old k new) e a)

pub raw_appended : (old new raw : List ℕ) → new ≡ old ++ raw → Appends old (Raw raw ∷ []) new
raw_appended old new raw e = (raw, ([], sym (append-nil raw), refl), e)

-- a list that was written apart, after its number
pub list_appended : (old mid new body : List ℕ) (count : ℕ) (items : List Item) → Appends old (Number count ∷ []) mid
    → new ≡ mid ++ body → StartsWith body items [] → Appends old (Number count ∷ items) new
list_appended old mid new body count items a e s = appended old mid new (Number count ∷ []) items a (body, s, e)

-- what is still to be written of a list, apart from what goes before it
pub record Putting {X : Type 0} (items : X → List Item) (all rest : List X) (count : ℕ) (now : List ℕ) : Type 0 where
  pub put : LeftToPut [] now (flat_map items all) (flat_map items rest)
  pub number : count + length rest ≡ length all

pub putting_all : {X : Type 0} (items : X → List Item) (all rest : List X) (now : List ℕ) → now ≡ [] → rest ≡ all
    → Putting items all rest 0 now
putting_all items all rest now e f =
    rw (e, f) (record { put = all_left [] (flat_map items all); number = omega arith })

pub putting_some : {X : Type 0} (items : X → List Item) (all some rest left : List X) (count more : ℕ) (now new : List ℕ)
    → Putting items all left count now → left ≡ some ++ rest → Appends now (flat_map items some) new → more ≡ count + length some
    → Putting items all rest more new
putting_some items all some rest left count more now new p e a f =
    let split : flat_map items left ≡ flat_map items some ++ flat_map items rest =
    ap (λ l. flat_map items l) e ∙ flat_map-append items some rest in
    let number = p.number in
    let long = ap length e in
    record {
      put = some_put [] now new (flat_map items all) (flat_map items some) (flat_map items rest)
          (subst (λ (i : List Item). LeftToPut [] now (flat_map items all) i) split p.put) a;
      number = omega (arith, length-append some rest);
    }

pub putting_one : {X : Type 0} (items : X → List Item) (all rest left : List X) (x : X) (count more : ℕ) (now new : List ℕ)
    → Putting items all left count now → left ≡ x ∷ rest → Appends now (items x) new → more ≡ count + 1
    → Putting items all rest more new
putting_one items all rest left x count more now new p e a f =
    putting_some items all (x ∷ []) rest left count more now new p e
    (subst (λ (i : List Item). Appends now i new) (sym (append-nil (items x))) a) f

pub all_written : {X : Type 0} (items : X → List Item) (all rest : List X) (count : ℕ) (now : List ℕ) → Putting items all rest count now
    → rest ≡ [] → (count ≡ length all) × StartsWith now (flat_map items all) []
all_written items all rest count now p e =
    let number = p.number in
    let none = ap length e in
    let done = all_put [] now (flat_map items all)
    (subst (λ l. LeftToPut [] now (flat_map items all) (flat_map items l)) e p.put) in
    (omega arith, subst (λ (c : List ℕ). StartsWith c (flat_map items all) []) (sym done.2) done.1)
