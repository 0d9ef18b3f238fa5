use Rattle.std.proofs.lemmas.List.Sorted.{answers_always}
use Rattle.std.proofs.Common.{◌∙◌, List, refl, sym, ap, rules}
use Rattle.wu_tree.specs.declared.events.LinkRec.{LinkRec}
use Rattle.wu_tree.specs.FileSystems.{Place, place_cmp}
use Rattle.wu_tree.specs.Lists.{ascends, is_less, link_of}
use Rattle.wu_tree.proofs.ParentPaths.{place_total}
use Rattle.wu_tree.proofs.ListTests.{sorted_answer, keys_mapped}
use Rattle.wu_tree.proofs.rebuild.links_ascend.Goals as goal

pub returns : goal.returns
returns c =
    sorted_answer place_total (λ (l : LinkRec). (link_of l).0) (λ (a b : LinkRec). is_less (place_cmp (link_of a).0 (link_of b).0))
    (λ a b. refl) c.args.links.now c.is_sorted_by.result
    (c.is_sorted_by.ensures.cases (λ (a b : LinkRec). is_less (place_cmp (link_of a).0 (link_of b).0))
    (answers_always _ _ _ (λ f a r g k. search rules)))
    ∙ ap (λ (l : List Place). ascends place_cmp l) (sym (keys_mapped link_of c.args.links.now))
