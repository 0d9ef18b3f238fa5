-- Frames that are kept when an event changes one live range, the permissions of a node, the groups of a user, or links.
use Rattle.std.proofs.Common.{◌≡◌, ℕ, Bool, true, false, cond, List, [], length, refl, ap, sym, ◌∙◌, subst, arith}
use Rattle.std.specs.Prelude.{◌+◌, Option, Some, None, Ok}
use Rattle.std.specs.Ordering.{nat_cmp}
use Rattle.std.specs.Map.{keys_of}
use Rattle.std.specs.BTreeMap.{is_at}
use Rattle.std.specs.Cmp.{nat_cmp_total}
use Rattle.wu_base.specs.declared.addresses.Range.{Range}
use Rattle.wu_base.proofs.MapEntries.{number_itself, lookup-insert_entry, lookup-remove_other}
use Rattle.wu_token.specs.Tokens.{tokens_of}
use Rattle.wu_access.specs.declared.acls.Acl.{Acl}
use Rattle.wu_access.specs.declared.Perm.{Perm}
use Rattle.wu_tree.specs.declared.events.Event.{Event}
use Rattle.wu_tree.specs.declared.events.Event.TheVariants.{User, Mkdir, Create, Text, Link, Unlink, Rmdir, Rename, Chmod, Chown}
use Rattle.wu_tree.specs.declared.events.Event.TheVariants.{Acl as SetAcl}
use Rattle.wu_tree.specs.declared.events.Effect.{Effect}
use Rattle.wu_tree.specs.FileSystems.{FileSystem, acl_of, node_of}
use Rattle.wu_tree.specs.Effects.{TellsFiles}
use Rattle.wu_tree.specs.Rules.{IsTree}
use Rattle.wu_tree.specs.Steps.{dropped_at, effect_of, is_same_node, next, no_effect, refusal_of, with_acl_set, with_perm}
use Rattle.wu_tree.specs.Steps.{step as tree_step}
use Rattle.wu_tree.proofs.EventRules.{accepted}
use Rattle.wu_tree.proofs.LinkRemovals.{apart_from}
use Rattle.wu_tree.proofs.ParentPaths.{other_number}
use Rattle.wu_space.specs.Addresses.{Addresses, IsSpace, Ranges, range_of, released}
use Rattle.wu_frames.specs.UserFrames.{CacheMatchesTree, IsMove, Kept, StayMendable, kept_mendable, with_range}
use Rattle.wu_frames.specs.declared.links.LinkChanges.{LinkChanges}
use Rattle.wu_frames.specs.Links.{IsLinkChange, links_changed}
use Rattle.wu_frames.proofs.LinkEvents.{links-create, links-link, links-mkdir, links-rename, links-rmdir, links-unlink}
use Rattle.wu_engine.specs.Indexing.{space_after, space_made, with_file, without_file}
use Rattle.wu_engine.specs.declared.renewing.Touched.TheVariants.{Links}
use Rattle.wu_engine.specs.Renewing.{Touches, perm_touched, range_touched, touched_of, GaveText}
use Rattle.wu_engine.proofs.AclFrames.{list_set}
use Rattle.wu_engine.proofs.FileChanges.{ChangesFiles}

-- an effect that gives a file a text, and does no more
abbrev pub gives_text : ℕ → Effect
gives_text ino = record no_effect { texted = Some ino }

-- ---- ranges of other files

range_made : (q : ℕ) (made : Option ℕ) (space : Addresses) → (made ≡ Some q → ⊥)
    → range_of (with_file made [] space).ranges q ≡ range_of space.ranges q
range_made q None space n = refl
range_made q (Some ino) space n =
    lookup-insert_entry nat_cmp_total space.ranges ino (record { start = space.next; len = length (tokens_of []) }) q
    ∙ rw (other_number q ino (λ e. n (ap Some (sym e)))) refl

range_dropped : (q : ℕ) (dropped : Option ℕ) (space : Addresses) → (dropped ≡ Some q → ⊥)
    → range_of (without_file dropped space).ranges q ≡ range_of space.ranges q
range_dropped q None space n = refl
range_dropped q (Some ino) space n =
    lookup-remove_other (is_at (nat_cmp q)) (is_at (nat_cmp ino)) (λ k p. apart_from ino q k (λ e. n (ap Some (sym e))) p) space.ranges

keeps_range : (q : ℕ) (made dropped : Option ℕ) (space : Addresses) → (made ≡ Some q → ⊥) → (dropped ≡ Some q → ⊥)
    → range_of (with_file made [] (without_file dropped space)).ranges q ≡ range_of space.ranges q
keeps_range q made dropped space m d = range_made q made (without_file dropped space) m ∙ range_dropped q dropped space d

none_texted : (same : Bool) (dropped : Option ℕ) → (cond same no_effect (record no_effect { dropped = dropped })).texted ≡ None
none_texted true dropped = refl
none_texted false dropped = refl

-- ---- what an event that is accepted changes

module _ (fs : FileSystem) (space : Addresses) (text : List ℕ) where
  text_touches : IsSpace space → (ino : ℕ)
      → Touches fs space fs (space_after (gives_text ino) text space) (range_touched ino (range_of space.ranges ino))
  text_touches rules ino =
      elim (range_of space.ranges ino) as
      (λ o. range_of space.ranges ino ≡ o → Touches fs space fs (space_after (gives_text ino) text space) (range_touched ino o)) [
        | None ↦ λ e. tt
        | Some old ↦ λ e. (refl, record { len = length (tokens_of text); rules = rules; had = e; has = refl })
      ] refl

  perm_touches : (change : Perm → Perm) (ino : ℕ)
      → Touches fs space (with_perm change fs ino (node_of fs ino)) space (perm_touched ino (node_of fs ino) (acl_of fs ino))
  perm_touches change ino =
      elim (node_of fs ino) as
      (λ o. node_of fs ino ≡ o → Touches fs space (with_perm change fs ino o) space (perm_touched ino o (acl_of fs ino))) [
        | None ↦ λ e. tt
        | Some node ↦ λ e. (refl, record { perm = change node.perm; acls = fs.acls; there = e; had = refl; others = λ q n. refl; changed = refl })
      ] refl

  acl_touches : (ino : ℕ) (acl : Option Acl) (mask : ℕ)
      → Touches fs space (with_acl_set fs ino acl mask) space (perm_touched ino (node_of fs ino) (acl_of fs ino))
  acl_touches ino acl mask =
      elim (node_of fs ino) as
      (λ o. node_of fs ino ≡ o → Touches fs space (with_acl_set fs ino acl mask) space (perm_touched ino o (acl_of fs ino))) [
        | None ↦ λ e. tt
        | Some node ↦ λ e. (refl, list_set fs ino node e acl mask)
      ] refl

  -- links, and the ranges of the file that comes and of the one that goes with them
  links_touch : (links : LinkChanges) (after : FileSystem) (effect : Effect) → IsLinkChange fs links after → effect.texted ≡ None
      → TellsFiles fs effect after → ChangesFiles fs effect → Touches fs space after (space_after effect text space) (Links links)
  links_touch links after effect change none tells files = (
    change,
    λ q before now.
        let same = keeps_range q effect.made effect.dropped space
        (λ e. let f : true ≡ false = sym before ∙ files.made q e in cc) ((tells.files q).0 now).0 in
        ap (λ (o : Option ℕ). range_of (with_file o text (without_file o (space_made effect space))).ranges q) none ∙ same,
  )

  -- an event that is accepted, in a tree that keeps the rules
  module _ (t : IsTree fs) where
    links_next : (event : Event) → IsLinkChange fs (links_changed fs event) (next fs event) → (effect_of fs event).texted ≡ None
        → TellsFiles fs (effect_of fs event) (next fs event) → ChangesFiles fs (effect_of fs event)
        → Touches fs space (next fs event) (space_after (effect_of fs event) text space) (Links (links_changed fs event))
    links_next event = links_touch (links_changed fs event) (next fs event) (effect_of fs event)

    touches_next : IsSpace space → (event : Event) → refusal_of fs event ≡ None → TellsFiles fs (effect_of fs event) (next fs event)
        → ChangesFiles fs (effect_of fs event)
        → Touches fs space (next fs event) (space_after (effect_of fs event) text space) (touched_of fs space.ranges event)
    touches_next rules (User uid groups) h tells files = (refl, record { groups = groups; changed = refl })
    touches_next rules (Mkdir new parent name perm) h tells files =
        links_next (Mkdir new parent name perm) (links-mkdir fs t new parent name perm h) refl tells files
    touches_next rules (Create new parent name perm) h tells files =
        links_next (Create new parent name perm) (links-create fs t new parent name perm h) refl tells files
    touches_next rules (Text ino) h tells files = text_touches rules ino
    touches_next rules (Link old parent name) h tells files =
        links_next (Link old parent name) (links-link fs t old parent name h) refl tells files
    touches_next rules (Unlink parent name) h tells files =
        links_next (Unlink parent name) (links-unlink fs t parent name) refl tells files
    touches_next rules (Rmdir parent name) h tells files =
        links_next (Rmdir parent name) (links-rmdir fs t parent name h) refl tells files
    touches_next rules (Rename parent name new_parent new_name) h tells files =
        links_next (Rename parent name new_parent new_name) (links-rename fs t parent name new_parent new_name h)
        (none_texted (is_same_node fs parent name new_parent new_name) (dropped_at fs new_parent new_name)) tells files
    touches_next rules (Chmod ino mode) h tells files = perm_touches (λ perm. record perm { mode = mode }) ino
    touches_next rules (Chown ino uid gid) h tells files = perm_touches (λ perm. record perm { uid = uid; gid = gid }) ino
    touches_next rules (SetAcl ino acl mask) h tells files = acl_touches ino acl mask

  pub touches : IsTree fs → IsSpace space → (event : Event) (after : FileSystem) (effect : Effect)
      → tree_step fs event ≡ Ok (after, effect) → TellsFiles fs effect after → ChangesFiles fs effect
      → (now : Addresses) → now ≡ space_after effect text space → Touches fs space after now (touched_of fs space.ranges event)
  touches t rules event after effect step tells files now is =
      let a = accepted (refusal_of fs event) (next fs event) after (effect_of fs event) effect step in
      let told : now ≡ space_after (effect_of fs event) text space = is ∙ ap (λ (e : Effect). space_after e text space) (sym a.1.1) in
      let tells_next : TellsFiles fs (effect_of fs event) (next fs event) =
      subst (λ (f : FileSystem). TellsFiles fs (effect_of fs event) f) (sym a.1.0)
      (subst (λ (e : Effect). TellsFiles fs e after) (sym a.1.1) tells) in
      rw (← a.1.0, told)
      (touches_next t rules event a.0 tells_next (subst (λ (e : Effect). ChangesFiles fs e) (sym a.1.1) files))

-- the range that the file was given
pub given_range : (before now : Addresses) (ino : ℕ) (old : Range) (gave : GaveText before now (ino, old))
    → range_of now.ranges ino ≡ Some (record { start = before.next; len = gave.len })
given_range before now ino old gave =
    ap (λ (s : Addresses). range_of s.ranges ino) gave.has
    ∙ lookup-insert_entry nat_cmp_total (released before ino).ranges ino (record { start = before.next; len = gave.len }) ino
    ∙ rw (number_itself ino) refl

-- what was mended is right for the new space
module _ (fs : FileSystem) (before now : Addresses) (ino : ℕ) (old new : Range) (kept kept_now : Kept)
    (gave : GaveText before now (ino, old))
    (has : range_of now.ranges ino ≡ Some new)
    (mends : (tree : FileSystem) (space : Addresses) → IsMove space ino old new → CacheMatchesTree tree space.ranges kept
    → CacheMatchesTree tree (with_range ino new space.ranges) kept_now) where
  abbrev given : Range
  given = record { start = before.next; len = gave.len }

  is_given : new ≡ given
  is_given =
      let c : Some new ≡ Some given = sym has ∙ given_range before now ino old gave in
      cc

  moves : IsMove before ino old new
  moves = record { rules = gave.rules; from = gave.had; to = omega (arith, ap (λ (r : Range). r.start) is_given) }

  pub renewed : CacheMatchesTree fs before.ranges kept → CacheMatchesTree fs now.ranges kept_now
  renewed right =
      let moved : CacheMatchesTree fs (with_range ino new before.ranges) kept_now = mends fs before moves right in
      let same : with_range ino new before.ranges ≡ now.ranges =
      ap (λ (r : Range). with_range ino r before.ranges) is_given ∙ sym (ap (λ (s : Addresses). s.ranges) gave.has) in
      subst (λ (l : Ranges). CacheMatchesTree fs l kept_now) same moved

  -- exactly those users' frames stay that may be mended
  pub who_stays : StayMendable ino old new kept kept_now → IsSpace now → CacheMatchesTree fs before.ranges kept
      → keys_of kept_now ≡ keys_of (kept_mendable old kept)
  who_stays stay rules right =
      let start : new.start ≡ before.next = ap (λ (r : Range). r.start) is_given in
      let len : new.len ≡ gave.len = ap (λ (r : Range). r.len) is_given in
      let next : now.next ≡ before.next + gave.len = ap (λ (s : Addresses). s.next) gave.has in
      stay fs before moves (omega (arith, start, len, next, rules.small)) right
