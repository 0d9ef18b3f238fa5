-- Lemmas on all that a checkpoint's bytes tell.
use Rattle.std.proofs.Common.{◌≡◌, ℕ, ◌+◌, ◌^◌, ◌<◌, ◌≤◌, List, [], ◌∷◌, ◌++◌, length, get_or, drop, refl, ap, sym, subst, ◌∙◌}
use Rattle.std.proofs.Common.{append-nil, arith}
use Rattle.std.specs.Prelude.{◌≢◌, Option, None, Some, map}
use Rattle.std.specs.List.{AllByRecursion, flat_map}
use Rattle.wu_base.specs.declared.addresses.PartRec.{PartRec}
use Rattle.wu_base.specs.declared.limits.TheConstants.{GENERATION_MAX}
use Rattle.wu_base.proofs.EachLemmas.{each-unit}
use Rattle.wu_access.specs.declared.acls.Acl.{Acl}
use Rattle.wu_access.specs.declared.acls.AclEntry.{AclEntry}
use Rattle.wu_access.specs.Access.{AreEntries}
use Rattle.wu_tree.specs.declared.events.Kind.{Kind}
use Rattle.wu_tree.specs.declared.events.Kind.TheVariants.{Directory, File}
use Rattle.wu_tree.specs.declared.events.Node.{Node}
use Rattle.wu_tree.specs.FileSystems.{FileSystem, Link}
use Rattle.wu_tree.specs.Rules.{IsAclOf, IsNumbered, IsTree}
use Rattle.wu_image.specs.declared.checkpoints.Checkpoint.{Checkpoint}
use Rattle.wu_image.specs.declared.checkpoints.Version.{Version}
use Rattle.wu_image.specs.declared.checkpoints.Version.TheVariants.{First, Second}
use Rattle.wu_image.specs.declared.nodes.Entry.{Entry}
use Rattle.wu_image.specs.declared.records.FileRec.{FileRec}
use Rattle.wu_image.specs.Items.{Item, Number, StartsWith, list_items}
use Rattle.wu_image.specs.LayoutRules.{AreLayoutRules, IsText, NeverRise, SpansAscend}
use Rattle.wu_image.specs.Checkpoints.{CanTell, HasItems, SpellsCheckpoint, acl_items, acl_section, checkpoint_items, file_numbers, mark_of}
use Rattle.wu_image.specs.Checkpoints.{user_items, tree_items}
use Rattle.wu_image.specs.Checkpoints.{link_items, part_items}
use Rattle.wu_image.specs.Reading.{FitsAcl, FitsEntry, FitsPart, HasRecord, IsEntry, StartsWithTree, entry_items, nodes_of, files_of}
use Rattle.wu_image.specs.Reading.{record_list}
use Rattle.wu_image.specs.Lists.{IsListed}
use Rattle.wu_image.proofs.ItemLemmas.{IsUnique, joined, parted, one_code, unique_list}
use Rattle.wu_image.proofs.RecordedNumbers.{same_numbers, unique_part}
use Rattle.wu_image.proofs.UniqueItems.{Any, unique_acl, unique_entry, unique_link, unique_user}
use Rattle.wu_image.proofs.EntryLists.{entries_exist, items_of_entries, numbers_of_entries}

-- ---- what is listed of a checkpoint that keeps the rules

modes_fit : (nodes : List (ℕ × Node)) → AllByRecursion IsNumbered nodes → AllByRecursion (λ n. n.1.perm.mode < 2 ^ 16) nodes
modes_fit [] a = tt
modes_fit (node ∷ nodes) a = let mode = a.0.1 in (omega arith, modes_fit nodes a.1)

lengths_fit : (next : ℕ) (files : List FileRec) → AllByRecursion (IsText next) files → AllByRecursion (λ f. f.len < 2 ^ 32) files
lengths_fit next [] a = tt
lengths_fit next (file ∷ files) a = let short = a.0.short in (omega arith, lengths_fit next files a.1)

parts_fit : (from limit next : ℕ) (parts : List PartRec) → limit < 2 ^ 32 → next < 2 ^ 64 → SpansAscend from parts next
    → NeverRise limit parts
    → AllByRecursion FitsPart parts × (from ≤ next)
parts_fit from limit next [] few small s g = (tt, s)
parts_fit from limit next (part ∷ parts) few small s g =
    let generation = g.0 in
    let span = s.1 in
    let begin = s.0 in
    let later = parts_fit (part.high + 1) part.generation next parts (omega arith) small s.2 g.1 in
    let within = later.1 in
    ((record { generation = omega arith; span = span; high = omega arith }, later.0), omega arith)

entries_fit : (entries : List AclEntry) → AreEntries entries → AllByRecursion FitsEntry entries
entries_fit entries a = a.0

acls_fit : (fs : FileSystem) (acls : List (ℕ × Acl)) → AllByRecursion (IsAclOf fs) acls → AllByRecursion FitsAcl acls
acls_fit fs [] a = tt
acls_fit fs (acl ∷ acls) a =
    let is = a.0.1 in
    ((is.owning, entries_fit acl.1.users is.users, entries_fit acl.1.groups is.groups), acls_fit fs acls a.1)

pub listed_of_spelled : (c : Checkpoint) (bytes : List ℕ) → SpellsCheckpoint c bytes → IsListed c bytes
listed_of_spelled c bytes s =
    let layout = s.holds.layout in
    record {
      version = s.version;
      spelled = s.spelled;
      files = s.holds.files;
      modes = modes_fit c.tree.nodes s.holds.tree.numbered;
      lengths = lengths_fit c.next_address c.files layout.texts;
      parts_fit = (parts_fit 0 GENERATION_MAX c.next_address c.parts (omega arith) s.spelled.items.0 layout.spans layout.generations).0;
      acls_fit = acls_fit c.tree c.tree.acls s.holds.tree.acls;
    }

-- ---- its sections

abbrev pub parts_and_acls : Version → List PartRec → List (ℕ × Acl) → List Item
parts_and_acls version parts acls = list_items part_items parts ++ acl_section version acls

abbrev pub links_and_later : Version → List Link → List PartRec → List (ℕ × Acl) → List Item
links_and_later version links parts acls = list_items link_items links ++ parts_and_acls version parts acls

abbrev pub entries_and_later : Version → List Entry → List Link → List PartRec → List (ℕ × Acl) → List Item
entries_and_later version entries links parts acls = list_items entry_items entries ++ links_and_later version links parts acls

abbrev pub users_and_later : Version → List (ℕ × List ℕ) → List Entry → List Link → List PartRec → List (ℕ × Acl) → List Item
users_and_later version users entries links parts acls =
    list_items user_items users ++ entries_and_later version entries links parts acls

abbrev pub numbers_of : Checkpoint → List ℕ
numbers_of c = c.next_address ∷ c.next_blob ∷ c.flushes ∷ []

pub record HasSections (version : Version) (c : Checkpoint) (code : List ℕ) : Type 0 where
  pub entries : List Entry
  pub valid : AllByRecursion IsEntry entries
  pub nodes_are : c.tree.nodes ≡ nodes_of entries
  pub files_are : c.files ≡ files_of entries
  pub parts_fit : AllByRecursion FitsPart c.parts
  pub acls_fit : AllByRecursion FitsAcl c.tree.acls
  pub can_tell : CanTell version c.tree.acls
  pub items :
      StartsWith code (map Number (numbers_of c) ++ users_and_later version c.tree.users entries c.tree.links c.parts c.tree.acls) []

length_of_nodes : (entries : List Entry) → length (nodes_of entries) ≡ length entries
length_of_nodes [] = refl
length_of_nodes (entry ∷ entries) = omega (arith, length_of_nodes entries)

-- the items of a tree are those of its nodes with their records
tree_of_entries : (nodes : List (ℕ × Node)) (files : List FileRec) (entries : List Entry) → AllByRecursion IsEntry entries
    → nodes ≡ nodes_of entries → files ≡ files_of entries
    → Number (length nodes) ∷ tree_items nodes files ≡ list_items entry_items entries
tree_of_entries nodes files entries valid e f =
    let items : tree_items nodes files ≡ flat_map entry_items entries =
    ap (λ (n : List (ℕ × Node)). tree_items n files) e
    ∙ (ap (λ (g : List FileRec). tree_items (nodes_of entries) g) f ∙ items_of_entries entries valid) in
    let long : length nodes ≡ length entries = ap (λ (n : List (ℕ × Node)). length n) e ∙ length_of_nodes entries in
    ap (λ (n : ℕ). Number n ∷ tree_items nodes files) long ∙ ap (λ (i : List Item). Number (length entries) ∷ i) items

all_items : (version : Version) (c : Checkpoint) (entries : List Entry) → AllByRecursion IsEntry entries
    → c.tree.nodes ≡ nodes_of entries → c.files ≡ files_of entries
    → checkpoint_items version c
    ≡ map Number (numbers_of c) ++ users_and_later version c.tree.users entries c.tree.links c.parts c.tree.acls
all_items version c entries valid e f =
    ap
    (λ (i : List Item). map Number (numbers_of c)
    ++ (list_items user_items c.tree.users ++ (i ++ links_and_later version c.tree.links c.parts c.tree.acls)))
    (tree_of_entries c.tree.nodes c.files entries valid e f)

pub sections_of : (c : Checkpoint) (bytes : List ℕ) (s : IsListed c bytes) → HasSections s.version c s.spelled.code
sections_of c bytes s =
    let a = entries_exist c.tree.nodes c.files s.files s.modes s.lengths in
    record {
      entries = a.entries;
      valid = a.valid;
      nodes_are = a.nodes_are;
      files_are = a.files_are;
      parts_fit = s.parts_fit;
      acls_fit = s.acls_fit;
      can_tell = s.spelled.can_tell;
      items = subst (λ (i : List Item). StartsWith s.spelled.code i []) (all_items s.version c a.entries a.valid a.nodes_are a.files_are)
          s.spelled.items;
    }

-- ---- one section after another

pub after_numbers : (code rest last : List ℕ) (ns ms : List ℕ) (ys : List Item) → length ns ≡ length ms
    → StartsWith code (map Number ns) rest → StartsWith code (map Number ms ++ ys) last → (ns ≡ ms) × StartsWith rest ys last
after_numbers code rest last ns ms ys l s t =
    let h = same_numbers ns ms [] ys code rest last l
    (subst (λ (i : List Item). StartsWith code i rest) (sym (append-nil (map Number ns))) s) t in
    (h.0, subst (λ (b : List ℕ). StartsWith b ys last) h.2 h.3)

pub after_section : {X : Type 0} (items : X → List Item) (P : X → Type 0) → IsUnique items P → (x y : X) (ys : List Item)
    (code rest last : List ℕ) → P x → P y → StartsWith code (items x) rest → StartsWith code (items y ++ ys) last
    → (x ≡ y) × StartsWith rest ys last
after_section items P u x y ys code rest last p q s t =
    let h = parted code last (items y) ys t in
    let one = u.one x y code rest h.0 p q s h.1 in
    (one.0, subst (λ (b : List ℕ). StartsWith b ys last) (sym one.1) h.2)

pub after_users : (users others : List (ℕ × List ℕ)) (ys : List Item) (code rest last : List ℕ)
    → StartsWith code (list_items user_items users) rest → StartsWith code (list_items user_items others ++ ys) last
    → (users ≡ others) × StartsWith rest ys last
after_users users others ys code rest last s t =
    after_section (λ (us : List (ℕ × List ℕ)). list_items user_items us) (AllByRecursion Any) (unique_list user_items Any unique_user)
    users others ys code rest last (each-unit users) (each-unit others) s t

pub after_entries : (entries others : List Entry) (ys : List Item) (code rest last : List ℕ) → AllByRecursion IsEntry entries
    → AllByRecursion IsEntry others → StartsWith code (list_items entry_items entries) rest
    → StartsWith code (list_items entry_items others ++ ys) last → (entries ≡ others) × StartsWith rest ys last
after_entries entries others ys code rest last p q s t =
    after_section (λ (es : List Entry). list_items entry_items es) (AllByRecursion IsEntry) (unique_list entry_items IsEntry unique_entry)
    entries others ys code rest last p q s t

pub after_links : (links others : List Link) (ys : List Item) (code rest last : List ℕ)
    → StartsWith code (list_items link_items links) rest → StartsWith code (list_items link_items others ++ ys) last
    → (links ≡ others) × StartsWith rest ys last
after_links links others ys code rest last s t =
    after_section (λ (ls : List Link). list_items link_items ls) (AllByRecursion Any) (unique_list link_items Any unique_link)
    links others ys code rest last (each-unit links) (each-unit others) s t

pub after_parts : (parts others : List PartRec) (ys : List Item) (code rest last : List ℕ) → AllByRecursion FitsPart parts
    → AllByRecursion FitsPart others → StartsWith code (list_items part_items parts) rest
    → StartsWith code (list_items part_items others ++ ys) last → (parts ≡ others) × StartsWith rest ys last
after_parts parts others ys code rest last p q s t =
    after_section (λ (ps : List PartRec). list_items part_items ps) (AllByRecursion FitsPart) (unique_list part_items FitsPart unique_part)
    parts others ys code rest last p q s t

pub same_acls : (version : Version) (acls others : List (ℕ × Acl)) (code rest last : List ℕ) → AllByRecursion FitsAcl acls
    → AllByRecursion FitsAcl others → CanTell version acls → CanTell version others → StartsWith code (acl_section version acls) rest
    → StartsWith code (acl_section version others) last → (acls ≡ others) × (rest ≡ last)
same_acls First acls others code rest last p q m n s t = (m ∙ sym n, sym s ∙ t)
same_acls Second acls others code rest last p q m n s t =
    let u = unique_list acl_items FitsAcl unique_acl in u.one acls others code rest last p q s t

-- ---- the whole

number_of : Version → ℕ
number_of First = 49
number_of Second = 50

mark_ends : (v : Version) (a : List ℕ) → get_or (mark_of v ++ a) 7 0 ≡ number_of v
unfolding number_of
mark_ends First a = refl
mark_ends Second a = refl

behind_mark : (v : Version) (a : List ℕ) → drop 8 (mark_of v ++ a) ≡ a
behind_mark First a = refl
behind_mark Second a = refl

by_number : (v w : Version) → number_of v ≡ number_of w → v ≡ w
unfolding number_of
by_number First First e = refl
by_number First Second e = absurd (omega arith)
by_number Second First e = absurd (omega arith)
by_number Second Second e = refl

-- the bytes tell the version, and what follows its mark
same_version : (v w : Version) (a b bytes : List ℕ) → bytes ≡ mark_of v ++ a → bytes ≡ mark_of w ++ b → v ≡ w
same_version v w a b bytes s t =
    by_number v w (sym (mark_ends v a) ∙ (ap (λ (l : List ℕ). get_or l 7 0) (sym s ∙ t) ∙ mark_ends w b))

same_code : (v w : Version) (a b bytes : List ℕ) → bytes ≡ mark_of v ++ a → bytes ≡ mark_of w ++ b → a ≡ b
same_code v w a b bytes s t = sym (behind_mark v a) ∙ (ap (λ (l : List ℕ). drop 8 l) (sym s ∙ t) ∙ behind_mark w b)

checkpoint_is : (c d : Checkpoint) → numbers_of c ≡ numbers_of d → c.tree.users ≡ d.tree.users → c.tree.nodes ≡ d.tree.nodes
    → c.tree.links ≡ d.tree.links → c.files ≡ d.files → c.parts ≡ d.parts → c.tree.acls ≡ d.tree.acls → c ≡ d
checkpoint_is c d numbers users nodes links files parts acls =
    let make : List ℕ → List (ℕ × List ℕ) → List (ℕ × Node) → List Link → List FileRec → List PartRec → List (ℕ × Acl) → Checkpoint =
    λ n u i l f p a. record {
      next_address = get_or n 0 0;
      next_blob = get_or n 1 0;
      flushes = get_or n 2 0;
      tree = record { nodes = i; links = l; users = u; acls = a };
      files = f;
      parts = p;
    } in
    ap (λ x. make x c.tree.users c.tree.nodes c.tree.links c.files c.parts c.tree.acls) numbers
    ∙ (ap (λ x. make (numbers_of d) x c.tree.nodes c.tree.links c.files c.parts c.tree.acls) users
    ∙ (ap (λ x. make (numbers_of d) d.tree.users x c.tree.links c.files c.parts c.tree.acls) nodes
    ∙ (ap (λ x. make (numbers_of d) d.tree.users d.tree.nodes x c.files c.parts c.tree.acls) links
    ∙ (ap (λ x. make (numbers_of d) d.tree.users d.tree.nodes d.tree.links x c.parts c.tree.acls) files
    ∙ (ap (λ x. make (numbers_of d) d.tree.users d.tree.nodes d.tree.links d.files x c.tree.acls) parts
    ∙ ap (λ x. make (numbers_of d) d.tree.users d.tree.nodes d.tree.links d.files d.parts x) acls)))))

-- the sections of a checkpoint whose bytes begin with that mark
pub sections_at : (version : Version) (c : Checkpoint) (bytes code : List ℕ) → bytes ≡ mark_of version ++ code → IsListed c bytes
    → HasSections version c code
sections_at version c bytes code e s =
    subst (λ (v : Version). HasSections v c code) (same_version s.version version s.spelled.code code bytes s.spelled.mark e)
    (subst (λ (l : List ℕ). HasSections s.version c l) (same_code s.version version s.spelled.code code bytes s.spelled.mark e)
    (sections_of c bytes s))

pub one_listed : (c d : Checkpoint) (bytes : List ℕ) → IsListed c bytes → IsListed d bytes → c ≡ d
one_listed c d bytes s t =
    let v = s.version in
    let a = sections_of c bytes s in
    let b = sections_at v d bytes s.spelled.code s.spelled.mark t in
    let n = parted s.spelled.code [] (map Number (numbers_of c))
    (users_and_later v c.tree.users a.entries c.tree.links c.parts c.tree.acls) a.items in
    let m = after_numbers s.spelled.code n.0 [] (numbers_of c) (numbers_of d)
    (users_and_later v d.tree.users b.entries d.tree.links d.parts d.tree.acls) refl n.1 b.items in
    let u = parted n.0 [] (list_items user_items c.tree.users) (entries_and_later v a.entries c.tree.links c.parts c.tree.acls) n.2 in
    let w = after_users c.tree.users d.tree.users (entries_and_later v b.entries d.tree.links d.parts d.tree.acls) n.0 u.0 [] u.1 m.1 in
    let e = parted u.0 [] (list_items entry_items a.entries) (links_and_later v c.tree.links c.parts c.tree.acls) u.2 in
    let f = after_entries a.entries b.entries (links_and_later v d.tree.links d.parts d.tree.acls) u.0 e.0 [] a.valid b.valid e.1 w.1 in
    let l = parted e.0 [] (list_items link_items c.tree.links) (parts_and_acls v c.parts c.tree.acls) e.2 in
    let k = after_links c.tree.links d.tree.links (parts_and_acls v d.parts d.tree.acls) e.0 l.0 [] l.1 f.1 in
    let p = parted l.0 [] (list_items part_items c.parts) (acl_section v c.tree.acls) l.2 in
    let q = after_parts c.parts d.parts (acl_section v d.tree.acls) l.0 p.0 [] a.parts_fit b.parts_fit p.1 k.1 in
    let g = same_acls v c.tree.acls d.tree.acls p.0 [] [] a.acls_fit b.acls_fit a.can_tell b.can_tell p.2 q.1 in
    checkpoint_is c d m.0 w.0 (a.nodes_are ∙ (ap nodes_of f.0 ∙ sym b.nodes_are)) k.0
    (a.files_are ∙ (ap files_of f.0 ∙ sym b.files_are)) q.0 g.0

pub same_checkpoint : (c d : Checkpoint) (bytes : List ℕ) → SpellsCheckpoint c bytes → SpellsCheckpoint d bytes → c ≡ d
same_checkpoint c d bytes s t = one_listed c d bytes (listed_of_spelled c bytes s) (listed_of_spelled d bytes t)

pub one_spelling : (version : Version) (c : Checkpoint) (bytes other : List ℕ) → HasItems version c bytes → HasItems version c other
    → bytes ≡ other
one_spelling version c bytes other s t =
    s.mark
    ∙ (ap (λ (l : List ℕ). mark_of version ++ l) (one_code s.code t.code [] [] (checkpoint_items version c) s.items t.items refl)
    ∙ sym t.mark)

-- only the second version tells access lists
tells_second : (version : Version) (acls : List (ℕ × Acl)) → acls ≢ [] → CanTell version acls → version ≡ Second
tells_second First acls some can = absurd (some can)
tells_second Second acls some can = refl

pub one_spelling_with_acls : (c : Checkpoint) (bytes other : List ℕ) → c.tree.acls ≢ [] → SpellsCheckpoint c bytes
    → SpellsCheckpoint c other → bytes ≡ other
one_spelling_with_acls c bytes other some s t =
    let v = tells_second s.version c.tree.acls some s.spelled.can_tell in
    let w = tells_second t.version c.tree.acls some t.spelled.can_tell in
    one_spelling Second c bytes other (subst (λ (x : Version). HasItems x c bytes) v s.spelled)
    (subst (λ (x : Version). HasItems x c other) w t.spelled)

-- ---- what was read

modes_of : (entries : List Entry) → AllByRecursion IsEntry entries → AllByRecursion (λ n. n.1.perm.mode < 2 ^ 16) (nodes_of entries)
modes_of [] a = tt
modes_of (entry ∷ entries) a = (a.0.mode, modes_of entries a.1)

record_length : (kind : Kind) (ino : ℕ) (file : Option FileRec) (later : List FileRec) → HasRecord kind ino file
    → AllByRecursion (λ f. f.len < 2 ^ 32) later → AllByRecursion (λ f. f.len < 2 ^ 32) (record_list file ++ later)
record_length Directory ino None later h a = a
record_length Directory ino (Some file) later h a = absurd h
record_length File ino None later h a = absurd h
record_length File ino (Some file) later h a = (h.1, a)

lengths_of : (entries : List Entry) → AllByRecursion IsEntry entries → AllByRecursion (λ f. f.len < 2 ^ 32) (files_of entries)
lengths_of [] a = tt
lengths_of (entry ∷ entries) a =
    record_length entry.node.kind entry.ino entry.file (files_of entries) a.0.recorded (lengths_of entries a.1)

three : (numbers : List ℕ) → length numbers ≡ 3 → numbers ≡ get_or numbers 0 0 ∷ get_or numbers 1 0 ∷ get_or numbers 2 0 ∷ []
three [] l = absurd (omega arith)
three (a ∷ []) l = absurd (omega arith)
three (a ∷ b ∷ []) l = absurd (omega arith)
three (a ∷ b ∷ c ∷ []) l = refl
three (a ∷ b ∷ c ∷ d ∷ numbers) l = absurd (omega arith)

-- what is made of what was read
abbrev pub made_of : List ℕ → List (ℕ × List ℕ) → List (ℕ × Node) → List FileRec → List Link → List PartRec → List (ℕ × Acl) → Checkpoint
made_of numbers users nodes files links parts acls = record {
  next_address = get_or numbers 0 0;
  next_blob = get_or numbers 1 0;
  flushes = get_or numbers 2 0;
  tree = record { nodes = nodes; links = links; users = users; acls = acls };
  files = files;
  parts = parts;
}

pub listed_of_read : (version : Version) (bytes code : List ℕ) (numbers : List ℕ) (users : List (ℕ × List ℕ)) (nodes : List (ℕ × Node))
    (files : List FileRec) (links : List Link) (parts : List PartRec) (acls : List (ℕ × Acl)) (a b d e f rest : List ℕ)
    → bytes ≡ mark_of version ++ code → length numbers ≡ 3 → StartsWith code (map Number numbers) a
    → StartsWith a (list_items user_items users) b → StartsWithTree b nodes files d → StartsWith d (list_items link_items links) e
    → AllByRecursion FitsPart parts → StartsWith e (list_items part_items parts) f
    → AllByRecursion FitsAcl acls → CanTell version acls → StartsWith f (acl_section version acls) rest → rest ≡ []
    → IsListed (made_of numbers users nodes files links parts acls) bytes
listed_of_read version bytes code numbers users nodes files links parts acls a b d e f rest mark long n u t l fit p afit can q end =
    let made = made_of numbers users nodes files links parts acls in
    let ended = subst (λ (r : List ℕ). StartsWith f (acl_section version acls) r) end q in
    let last = joined e f [] (list_items part_items parts) (acl_section version acls) p ended in
    let later = joined d e [] (list_items link_items links) (parts_and_acls version parts acls) l last in
    let tree = joined b d [] (list_items entry_items t.entries) (links_and_later version links parts acls) t.spelled later in
    let users_too = joined a b [] (list_items user_items users) (entries_and_later version t.entries links parts acls) u tree in
    let numbers_are = subst (λ (m : List ℕ). StartsWith code (map Number m) a) (three numbers long) n in
    let all = joined code a [] (map Number (numbers_of made)) (users_and_later version users t.entries links parts acls) numbers_are
    users_too in
    record {
      version = version;
      spelled = record {
        code = code;
        mark = mark;
        can_tell = can;
        items = subst (λ (i : List Item). StartsWith code i [])
            (sym (all_items version made t.entries t.valid t.nodes_listed t.files_listed)) all;
      };
      files = ap (λ (f : List FileRec). map (λ (x : FileRec). x.ino) f) t.files_listed
          ∙ (numbers_of_entries t.entries t.valid ∙ ap (λ (n : List (ℕ × Node)). file_numbers n) (sym t.nodes_listed));
      modes = subst (λ (n : List (ℕ × Node)). AllByRecursion (λ x. x.1.perm.mode < 2 ^ 16) n) (sym t.nodes_listed)
          (modes_of t.entries t.valid);
      lengths = subst (λ (f : List FileRec). AllByRecursion (λ x. x.len < 2 ^ 32) f) (sym t.files_listed) (lengths_of t.entries t.valid);
      parts_fit = fit;
      acls_fit = afit;
    }

-- ---- what is left to be read

pub users_left : (version : Version) (c : Checkpoint) (code rest : List ℕ) (ns : List ℕ) (h : HasSections version c code)
    → length ns ≡ 3 → StartsWith code (map Number ns) rest
    → StartsWith rest (users_and_later version c.tree.users h.entries c.tree.links c.parts c.tree.acls) []
users_left version c code rest ns h l s =
    (after_numbers code rest [] ns (numbers_of c) (users_and_later version c.tree.users h.entries c.tree.links c.parts c.tree.acls) l s
    h.items).1

module _ (version : Version) (parts : List PartRec) (acls : List (ℕ × Acl)) where
  pub entries_left : (users others : List (ℕ × List ℕ)) (entries : List Entry) (links : List Link) (rest after : List ℕ)
      → StartsWith rest (users_and_later version users entries links parts acls) [] → StartsWith rest (list_items user_items others) after
      → StartsWith after (entries_and_later version entries links parts acls) []
  entries_left users others entries links rest after h s =
      (after_users others users (entries_and_later version entries links parts acls) rest after [] s h).1

  pub links_left : (entries : List Entry) (links : List Link) (nodes : List (ℕ × Node)) (files : List FileRec) (rest after : List ℕ)
      → AllByRecursion IsEntry entries → StartsWith rest (entries_and_later version entries links parts acls) []
      → StartsWithTree rest nodes files after → StartsWith after (links_and_later version links parts acls) []
  links_left entries links nodes files rest after valid h s =
      (after_entries s.entries entries (links_and_later version links parts acls) rest after [] s.valid valid s.spelled h).1

  pub parts_left : (links others : List Link) (rest after : List ℕ) → StartsWith rest (links_and_later version links parts acls) []
      → StartsWith rest (list_items link_items others) after → StartsWith after (parts_and_acls version parts acls) []
  parts_left links others rest after h s = (after_links others links (parts_and_acls version parts acls) rest after [] s h).1

  pub acls_left : (others : List PartRec) (rest after : List ℕ) → AllByRecursion FitsPart others → AllByRecursion FitsPart parts
      → StartsWith rest (list_items part_items others) after → StartsWith rest (parts_and_acls version parts acls) []
      → StartsWith after (acl_section version acls) []
  acls_left others rest after p q s h = (after_parts others parts (acl_section version acls) rest after [] p q s h).1

-- ---- the rules, of what was read

pub tree_at : (read : Checkpoint) (bytes : List ℕ) → IsListed read bytes → (c : Checkpoint) → SpellsCheckpoint c bytes → IsTree read.tree
tree_at read bytes l c s =
    let same = one_listed c read bytes (listed_of_spelled c bytes s) l in
    subst (λ (x : Checkpoint). IsTree x.tree) same s.holds.tree

pub layout_at : (read : Checkpoint) (bytes : List ℕ) → IsListed read bytes → (c : Checkpoint) → SpellsCheckpoint c bytes
    → AreLayoutRules read.next_address read.next_blob read.flushes read.files read.parts
layout_at read bytes l c s =
    let same = one_listed c read bytes (listed_of_spelled c bytes s) l in
    subst (λ (x : Checkpoint). AreLayoutRules x.next_address x.next_blob x.flushes x.files x.parts) same s.holds.layout

pub spelled_of_listed : (c : Checkpoint) (bytes : List ℕ) → IsListed c bytes → IsTree c.tree
    → AreLayoutRules c.next_address c.next_blob c.flushes c.files c.parts → SpellsCheckpoint c bytes
spelled_of_listed c bytes l tree layout =
    record { holds = record { tree = tree; files = l.files; layout = layout }; version = l.version; spelled = l.spelled }

pub made_checkpoint : (read : Checkpoint) (bytes : List ℕ) (tree : FileSystem) (files : List FileRec) (parts : List PartRec)
    → IsListed read bytes → IsTree read.tree → AreLayoutRules read.next_address read.next_blob read.flushes read.files read.parts
    → tree ≡ read.tree → files ≡ read.files → parts ≡ read.parts
    → SpellsCheckpoint (record {
      next_address = read.next_address;
      next_blob = read.next_blob;
      flushes = read.flushes;
      tree = tree;
      files = files;
      parts = parts;
    }) bytes
made_checkpoint read bytes tree files parts l t r e f g = rw (e, f, g) (spelled_of_listed read bytes l t r)
