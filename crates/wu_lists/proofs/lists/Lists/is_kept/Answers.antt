use Rattle.std.proofs.Common.{◌≡◌, false, sym, ◌∙◌, ap, subst}
use Rattle.std.specs.Prelude.{is_some}
use Rattle.std.specs.List.{list_any}
use Rattle.std.specs.Map.{keys_of, lookup}
use Rattle.lru.specs.LruCache.{IsValid}
use Rattle.wu_lists.specs.Blocks.{bytes_of}
use Rattle.wu_lists.specs.declared.blocks.Block.{Block}
use Rattle.wu_lists.specs.Keeping.{AreHeld, IsChecked, Kept, asked, is_same}
use Rattle.std.proofs.Common.{ℕ, List}
use Rattle.wu_lists.proofs.Caching.{all-promoted, any-key, keys-promoted, promoted-none}
use Rattle.wu_lists.proofs.lists.Lists.is_kept.Goals as goal

pub invariant_of-self : goal.invariant_of-self
invariant_of-self c =
    rw c.promote.ensures.entries (all-promoted (is_same c.args.block.now) IsChecked c.self.inside.kept.entries c.self.invariant)

pub returns-clause-kept : goal.returns-clause-kept
returns-clause-kept c =
    c.promote.ensures.value
    ∙ sym (any-key (is_same c.args.block.now) c.self.inside.kept.entries)
    ∙ ap (λ (k : Kept). list_any (is_same c.args.block.now) (keys_of k.entries)) c.self.view_is

pub returns-clause-asked : goal.returns-clause-asked
returns-clause-asked c = λ is.
    let kept : Kept = c.self.inside.kept in
    let valid : IsValid is_same kept = subst (IsValid is_same) (sym c.self.view_is) c.is_valid.ensures in
    ap (λ (k : Kept). keys_of k.entries) c.promote.ensures.entries
    ∙ keys-promoted c.args.block.now kept.cap kept.entries valid.0 valid.1 (sym is ∙ c.promote.ensures.value)
    ∙ ap (λ (k : Kept). asked k.cap (keys_of k.entries) c.args.block.now) c.self.view_is

pub returns-clause-absent : goal.returns-clause-absent
returns-clause-absent c = λ is.
    let kept : Kept = c.self.inside.kept in
    let none : is_some (lookup (is_same c.args.block.now) kept.entries) ≡ false = sym c.promote.ensures.value ∙ is in
    c.promote.ensures.entries
    ∙ ap (λ es. record { entries = es; cap = kept.cap }) (promoted-none (is_same c.args.block.now) kept.entries none)
    ∙ c.self.view_is

pub returns-clause-capacity : goal.returns-clause-capacity
returns-clause-capacity c =
    ap (λ (k : Kept). k.cap) c.promote.ensures.entries ∙ ap (λ (k : Kept). k.cap) c.self.view_is

pub returns-clause-held : goal.returns-clause-held
returns-clause-held c = λ blob bytes held.
    let before : AreHeld blob bytes c.self.inside.kept = subst (AreHeld blob bytes) (sym c.self.view_is) held in
    rw c.promote.ensures.entries
    (all-promoted (is_same c.args.block.now) (λ (e : Block × List ℕ). e.0.blob ≡ blob → e.1 ≡ bytes_of e.0 bytes)
    c.self.inside.kept.entries before)
