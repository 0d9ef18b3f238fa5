use Rattle.std.proofs.Common.{◌≡◌, ℕ, List, sym, ◌∙◌, ap, subst}
use Rattle.std.specs.List.{list_any}
use Rattle.std.specs.Map.{keys_of}
use Rattle.std.specs.Prelude.{false}
use Rattle.wu_base.proofs.Results.{on_err}
use Rattle.lru.specs.LruCache.{IsValid}
use Rattle.wu_lists.specs.Blocks.{bytes_of}
use Rattle.wu_lists.specs.declared.blocks.Block.{Block}
use Rattle.wu_lists.specs.Keeping.{AreHeld, IsChecked, Kept, asked, is_same}
use Rattle.wu_lists.proofs.Caching.{all-put, keys-put}
use Rattle.wu_lists.proofs.lists.Lists.keep.Goals as goal

pub invariant_of-self-2 : goal.invariant_of-self-2
invariant_of-self-2 c =
    let absent = subst (λ (k : Kept). list_any (is_same c.args.block.now) (keys_of k.entries) ≡ false) (sym c.self.view_is)
    c.requires.absent in
    rw c.in_ok-given_up.ensures.entries
    (all-put c.args.block.now IsChecked c.self.inside.kept c.from.result absent (rw c.from.ensures c.requires.checked) c.self.invariant)

pub returns-clause-asked : goal.returns-clause-asked
returns-clause-asked c =
    let kept : Kept = c.self.inside.kept in
    let absent = subst (λ (k : Kept). list_any (is_same c.args.block.now) (keys_of k.entries) ≡ false) (sym c.self.view_is)
    c.requires.absent in
    let valid : IsValid is_same kept = subst (IsValid is_same) (sym c.self.view_is) c.is_valid.ensures in
    ap (λ (k : Kept). keys_of k.entries) c.in_ok-given_up.ensures.entries
    ∙ keys-put c.args.block.now kept c.from.result valid.2 absent
    ∙ ap (λ (k : Kept). asked k.cap (keys_of k.entries) c.args.block.now) c.self.view_is

pub returns-clause-capacity : goal.returns-clause-capacity
returns-clause-capacity c =
    ap (λ (k : Kept). k.cap) c.in_ok-given_up.ensures.entries ∙ ap (λ (k : Kept). k.cap) c.self.view_is

pub returns-clause-held : goal.returns-clause-held
returns-clause-held c = λ blob others here held.
    let absent = subst (λ (k : Kept). list_any (is_same c.args.block.now) (keys_of k.entries) ≡ false) (sym c.self.view_is)
    c.requires.absent in
    let before : AreHeld blob others c.self.inside.kept = subst (AreHeld blob others) (sym c.self.view_is) held in
    rw c.in_ok-given_up.ensures.entries
    (all-put c.args.block.now (λ (e : Block × List ℕ). e.0.blob ≡ blob → e.1 ≡ bytes_of e.0 others) c.self.inside.kept c.from.result absent
    (rw c.from.ensures here) before)

pub returns-in_err-given_up-clause-err : goal.returns-in_err-given_up-clause-err
returns-in_err-given_up-clause-err c =
    on_err c.from_residual.result (c.in_err-given_up.ensures.err ∙ c.self.view_is)
