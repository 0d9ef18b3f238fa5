-- Bytes start with one user, node and link at most.
use Rattle.std.proofs.Common.{◌≡◌, ℕ, ◌^◌, ◌<◌, List, [], ◌∷◌, ◌++◌, length, refl, ap, sym, subst, ◌∙◌, arith}
use Rattle.std.specs.Prelude.{Option, None, Some}
use Rattle.wu_base.proofs.EachLemmas.{each-unit}
use Rattle.wu_access.specs.declared.acls.Acl.{Acl}
use Rattle.wu_access.specs.declared.acls.AclEntry.{AclEntry}
use Rattle.wu_access.specs.declared.Perm.{Perm}
use Rattle.wu_part.proofs.ReadingLemmas.{same_front}
use Rattle.wu_tree.specs.declared.events.Kind.{Kind}
use Rattle.wu_tree.specs.declared.events.Kind.TheVariants.{Directory, File}
use Rattle.wu_tree.specs.FileSystems.{Link}
use Rattle.wu_image.specs.declared.nodes.Entry.{Entry}
use Rattle.wu_image.specs.declared.records.FileRec.{FileRec}
use Rattle.wu_image.specs.Items.{Item, Number, Id, Raw, StartsWith, list_items}
use Rattle.wu_image.specs.Checkpoints.{acl_entry_items, acl_items, group_items, user_items, kind_number, node_items, text_items, link_items}
use Rattle.wu_image.specs.Reading.{FitsAcl, FitsEntry, HasRecord, IsEntry, record_items, entry_items}
use Rattle.wu_image.proofs.ItemLemmas.{IsUnique, after_number, after_id, parted, past_number, unique_list}
use Rattle.wu_image.proofs.RecordedNumbers.{same_text_items}

-- nothing is asked of a value
abbrev pub Any : {X : Type 0} → X → Type 0
Any x = Unit {0}

-- ---- users

pub unique_group : IsUnique group_items Any
unique_group = record {
  one = λ x y bytes rest last p q s t.
      let a = after_id bytes x y [] [] rest last s t in (a.number, sym a.mine ∙ a.its);
}

pub unique_user : IsUnique user_items Any
unique_user = record {
  one = λ x y bytes rest last p q s t.
      let a = after_id bytes x.0 y.0 (list_items group_items x.1) (list_items group_items y.1) rest last s t in
      let groups = unique_list group_items Any unique_group in
      let more = groups.one x.1 y.1 a.left rest last (each-unit x.1) (each-unit y.1) a.mine a.its in
      (ap (λ (u : ℕ). (u, x.1)) a.number ∙ ap (λ (g : List ℕ). (y.0, g)) more.0, more.1);
}

-- ---- links

pub unique_link : IsUnique link_items Any
unique_link = record {
  one = λ x y bytes rest last p q s t.
      let tail : Link → List Item = λ l. Number (length l.0.1) ∷ Raw l.0.1 ∷ Id l.1 ∷ [] in
      let a = after_id bytes x.0.0 y.0.0 (tail x) (tail y) rest last s t in
      let b = after_number a.left (length x.0.1) (length y.0.1) (Raw x.0.1 ∷ Id x.1 ∷ []) (Raw y.0.1 ∷ Id y.1 ∷ []) rest last
      a.mine a.its in
      let front = same_front x.0.1 y.0.1 b.mine.0 b.its.0 b.number (sym b.mine.1 ∙ b.its.1) in
      let c = after_id b.mine.0 x.1 y.1 [] [] rest last b.mine.2
      (subst (λ (l : List ℕ). StartsWith l (Id y.1 ∷ []) last) (sym front.1) b.its.2) in
      let make : ℕ → List ℕ → ℕ → Link = λ d n k. ((d, n), k) in (
        ap (λ d. make d x.0.1 x.1) a.number ∙ (ap (λ n. make y.0.0 n x.1) front.0 ∙ ap (λ k. make y.0.0 y.0.1 k) c.number),
        sym c.mine ∙ c.its,
      );
}

-- ---- access lists

pub unique_acl_entry : IsUnique acl_entry_items FitsEntry
unique_acl_entry = record {
  one = λ x y bytes rest last p q s t.
      let a = after_id bytes x.id y.id (Number x.bits ∷ []) (Number y.bits ∷ []) rest last s t in
      let n = after_number a.left x.bits y.bits [] [] rest last a.mine a.its in
      let make : ℕ → ℕ → AclEntry = λ id bits. record { id = id; bits = bits } in
      (ap (λ id. make id x.bits) a.number ∙ ap (λ bits. make y.id bits) n.number, sym n.mine ∙ n.its);
}

pub unique_acl : IsUnique acl_items FitsAcl
unique_acl = record {
  one = λ x y bytes rest last p q s t.
      let lists : Acl → List Item = λ acl. list_items acl_entry_items acl.users ++ list_items acl_entry_items acl.groups in
      let entries = unique_list acl_entry_items FitsEntry unique_acl_entry in
      let a = after_id bytes x.0 y.0 (Number x.1.owning ∷ lists x.1) (Number y.1.owning ∷ lists y.1) rest last s t in
      let n = after_number a.left x.1.owning y.1.owning (lists x.1) (lists y.1) rest last a.mine a.its in
      let mine = parted n.left rest (list_items acl_entry_items x.1.users) (list_items acl_entry_items x.1.groups) n.mine in
      let its = parted n.left last (list_items acl_entry_items y.1.users) (list_items acl_entry_items y.1.groups) n.its in
      let users = entries.one x.1.users y.1.users n.left mine.0 its.0 p.1 q.1 mine.1 its.1 in
      let groups = entries.one x.1.groups y.1.groups mine.0 rest last p.2 q.2 mine.2
      (subst (λ (l : List ℕ). StartsWith l (list_items acl_entry_items y.1.groups) last) (sym users.1) its.2) in
      let make : ℕ → ℕ → List AclEntry → List AclEntry → ℕ × Acl = λ ino owning us gs.
      (ino, record { owning = owning; users = us; groups = gs }) in (
        ap (λ ino. make ino x.1.owning x.1.users x.1.groups) a.number
            ∙ (ap (λ owning. make y.0 owning x.1.users x.1.groups) n.number
            ∙ (ap (λ us. make y.0 y.1.owning us x.1.groups) users.0 ∙ ap (λ gs. make y.0 y.1.owning y.1.users gs) groups.0)),
        groups.1,
      );
}

-- ---- nodes with their records

pub same_kind : (k l : Kind) → kind_number k ≡ kind_number l → k ≡ l
same_kind Directory Directory e = refl
same_kind Directory File e = absurd (omega arith)
same_kind File Directory e = absurd (omega arith)
same_kind File File e = refl

-- the records of nodes of one kind and number
pub same_records : (kind : Kind) (ino : ℕ) (f g : Option FileRec) (bytes rest last : List ℕ) → HasRecord kind ino f → HasRecord kind ino g
    → StartsWith bytes (record_items f) rest → StartsWith bytes (record_items g) last → (f ≡ g) × (rest ≡ last)
same_records Directory ino None None bytes rest last p q s t = (refl, sym s ∙ t)
same_records Directory ino None (Some y) bytes rest last p q s t = absurd q
same_records Directory ino (Some x) g bytes rest last p q s t = absurd p
same_records File ino None g bytes rest last p q s t = absurd p
same_records File ino (Some x) None bytes rest last p q s t = absurd q
same_records File ino (Some x) (Some y) bytes rest last p q s t =
    let a = same_text_items x y bytes rest last (p.0 ∙ sym q.0) s t in (ap Some a.0, a.1)

node_with : ℕ → Kind → ℕ → ℕ → ℕ → Option FileRec → Entry
node_with ino kind uid gid mode file =
    record { ino = ino; node = record { kind = kind; perm = record { uid = uid; gid = gid; mode = mode } }; file = file }

pub unique_entry : IsUnique entry_items IsEntry
unfolding node_with
unique_entry = record {
  one = λ x y bytes rest last p q s t.
      let h = parted bytes rest (node_items (x.ino, x.node)) (record_items x.file) s in
      let k = parted bytes last (node_items (y.ino, y.node)) (record_items y.file) t in
      let mode_of : Entry → List Item = λ e. Number e.node.perm.mode ∷ [] in
      let gid_of : Entry → List Item = λ e. Id e.node.perm.gid ∷ mode_of e in
      let uid_of : Entry → List Item = λ e. Id e.node.perm.uid ∷ gid_of e in
      let kind_of : Entry → List Item = λ e. Number (kind_number e.node.kind) ∷ uid_of e in
      let a = after_id bytes x.ino y.ino (kind_of x) (kind_of y) h.0 k.0 h.1 k.1 in
      let b = after_number a.left (kind_number x.node.kind) (kind_number y.node.kind) (uid_of x) (uid_of y) h.0 k.0 a.mine a.its in
      let c = after_id b.left x.node.perm.uid y.node.perm.uid (gid_of x) (gid_of y) h.0 k.0 b.mine b.its in
      let d = after_id c.left x.node.perm.gid y.node.perm.gid (mode_of x) (mode_of y) h.0 k.0 c.mine c.its in
      let e = after_number d.left x.node.perm.mode y.node.perm.mode [] [] h.0 k.0 d.mine d.its in
      let kind = same_kind x.node.kind y.node.kind b.number in
      let its : HasRecord x.node.kind x.ino y.file =
      subst (λ (i : ℕ). HasRecord x.node.kind i y.file) (sym a.number)
      (subst (λ (n : Kind). HasRecord n y.ino y.file) (sym kind) q.recorded) in
      let f = same_records x.node.kind x.ino x.file y.file h.0 rest last p.recorded its h.2
      (subst (λ (l : List ℕ). StartsWith l (record_items y.file) last) (sym (sym e.mine ∙ e.its)) k.2) in (
        ap (λ n. node_with n x.node.kind x.node.perm.uid x.node.perm.gid x.node.perm.mode x.file) a.number
            ∙ (ap (λ n. node_with y.ino n x.node.perm.uid x.node.perm.gid x.node.perm.mode x.file) kind
            ∙ (ap (λ n. node_with y.ino y.node.kind n x.node.perm.gid x.node.perm.mode x.file) c.number
            ∙ (ap (λ n. node_with y.ino y.node.kind y.node.perm.uid n x.node.perm.mode x.file) d.number
            ∙ (ap (λ n. node_with y.ino y.node.kind y.node.perm.uid y.node.perm.gid n x.file) e.number
            ∙ ap (λ n. node_with y.ino y.node.kind y.node.perm.uid y.node.perm.gid y.node.perm.mode n) f.0)))),
        f.1,
      );
}

-- ---- what follows items that were read

-- what follows a name that was read
pub past_name : (bytes name other left last : List ℕ) (ys : List Item) → StartsWith bytes (Number (length name) ∷ Raw name ∷ []) left
    → StartsWith bytes (Number (length other) ∷ Raw other ∷ ys) last → (other ≡ name) × StartsWith left ys last
past_name bytes name other left last ys s t =
    let a = after_number bytes (length name) (length other) (Raw name ∷ []) (Raw other ∷ ys) left last s t in
    let front = same_front name other a.mine.0 a.its.0 a.number (sym a.mine.1 ∙ a.its.1) in
    (sym front.0, subst (λ (l : List ℕ). StartsWith l ys last) (sym front.1 ∙ a.mine.2) a.its.2)

-- what follows a kind, and what follows permissions
pub past_kind : (bytes : List ℕ) (kind other : Kind) (left last : List ℕ) (ys : List Item)
    → StartsWith bytes (Number (kind_number kind) ∷ []) left
    → StartsWith bytes (Number (kind_number other) ∷ ys) last → (other ≡ kind) × StartsWith left ys last
past_kind bytes kind other left last ys s t =
    let h = past_number bytes (kind_number kind) (kind_number other) left last ys s t in (same_kind other kind h.0, h.1)

pub past_perm : (bytes : List ℕ) (perm other : Perm) (left last : List ℕ) (ys : List Item)
    → StartsWith bytes (Id perm.uid ∷ Id perm.gid ∷ Number perm.mode ∷ []) left
    → StartsWith bytes (Id other.uid ∷ Id other.gid ∷ Number other.mode ∷ ys) last → StartsWith left ys last
past_perm bytes perm other left last ys s t =
    let a = after_id bytes perm.uid other.uid (Id perm.gid ∷ Number perm.mode ∷ []) (Id other.gid ∷ Number other.mode ∷ ys) left last s t in
    let b = after_id a.left perm.gid other.gid (Number perm.mode ∷ []) (Number other.mode ∷ ys) left last a.mine a.its in
    (past_number b.left perm.mode other.mode left last ys b.mine b.its).1

-- no record of a file stands there
pub no_record : (kind : Kind) (ino : ℕ) (file : Option FileRec) (bytes rest : List ℕ) → kind ≡ File → HasRecord kind ino file
    → ((f : FileRec) (after : List ℕ) → f.len < 2 ^ 32 → StartsWith bytes (text_items f) after → ⊥)
    → StartsWith bytes (record_items file) rest → ⊥
no_record Directory ino file bytes rest e h none s = absurd cc
no_record File ino None bytes rest e h none s = absurd h
no_record File ino (Some file) bytes rest e h none s = none file rest h.1 s
