use Rattle.std.proofs.Common.{ℕ, ◌+◌, List, [], ◌∷◌, length, ap, sym, ◌∙◌, arith}
use Rattle.std.specs.List.{flat_map}
use Rattle.wu_tree.specs.FileSystems.{Link}
use Rattle.wu_image.specs.Items.{Number, Id, Raw}
use Rattle.wu_image.specs.Checkpoints.{link_items}
use Rattle.wu_image.specs.Writing.{links_from}
use Rattle.wu_image.proofs.ItemLemmas.{all_left, all_put_at, appended, left_is, some_put}
use Rattle.wu_image.proofs.writing.put_entries.Goals as goal

pub loop-name-init : goal.loop-name-init
loop-name-init c =
    let entries = c.into_iter-name-iterator.ensures.into_iter_gives ∙ c.names-name-items.ensures in record {
      put = left_is _ _ _ _ _ (all_left _ _)
          (ap (λ (l : List (List ℕ × ℕ)). flat_map link_items (links_from c.args.directory l)) (sym entries));
      number = ap (λ (l : List (List ℕ × ℕ)). c.args.before + length l) entries;
    }

pub loop-name-preserved : goal.loop-name-preserved
loop-name-preserved c =
    let steps = c.in-Some.ensures.steps in
    let d = c.args.directory in
    let name = c.in-Some.name.now in
    let link : Link = ((d, name), c.in-Some.child) in
    let rest = flat_map link_items (links_from d c.next.new.self) in
    let long = ap (λ (l : List (List ℕ × ℕ)). length l) steps in
    let number = c.loop-name.invariant.number in
    let left = left_is _ _ _ _ _ c.loop-name.invariant.put
    (ap (λ (l : List (List ℕ × ℕ)). flat_map link_items (links_from d l)) steps) in
    let late = appended _ _ _ (Number (length name) ∷ Raw name ∷ []) (Id c.in-Some.child ∷ []) c.in_ok-put_name.ensures
    c.in_ok-put_ids-2.ensures in
    record {
      put = some_put _ _ _ _ (link_items link) rest left
          (appended _ _ _ (Id d ∷ []) (Number (length name) ∷ Raw name ∷ Id c.in-Some.child ∷ []) c.in_ok-put_ids.ensures late);
      number = omega (arith, c.in_ok-count.ensures);
    }

pub returns-clause-appends : goal.returns-clause-appends
returns-clause-appends c =
    all_put_at _ _ _ _ c.loop-name.invariant.put
    (ap (λ (l : List (List ℕ × ℕ)). flat_map link_items (links_from c.args.directory l)) c.in-None.ensures.steps.0)

pub returns-clause-count : goal.returns-clause-count
returns-clause-count c =
    let none = ap (λ (l : List (List ℕ × ℕ)). length l) c.in-None.ensures.steps.0 in
    let number = c.loop-name.invariant.number in
    omega arith
