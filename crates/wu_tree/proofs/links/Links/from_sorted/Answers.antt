use Rattle.std.proofs.Common.{◌∙◌, List, ◌++◌, append-nil, sym, ap, subst}
use Rattle.std.specs.Prelude.{map, IfOk}
use Rattle.std.specs.Ordering.{nat_cmp}
use Rattle.std.specs.Cmp.{nat_cmp_total}
use Rattle.std.specs.BTreeMap.{IsFromIterResult}
use Rattle.std.proofs.lemmas.Iterator.Adapters.{fact_from_collect, YieldsList-from_vec}
use Rattle.std.proofs.lemmas.Map.Lookups.{exact_unsigned}
use Rattle.wu_tree.specs.declared.events.LinkRec.{LinkRec}
use Rattle.wu_tree.specs.Lists.{link_of}
use Rattle.wu_tree.specs.Nested.{links_in}
use Rattle.wu_tree.proofs.LinkRuns.{none_kept, these_ascend, kept_more}
use Rattle.wu_tree.proofs.MadeMaps.{made_entries}
use Rattle.wu_tree.proofs.links.Links.from_sorted.Goals as goal

pub loop-directory-init : goal.loop-directory-init
loop-directory-init c = rw c.new-directories.ensures.items (none_kept (λ k. k.items) c.args.links.now c.requires)

pub names_of-requires : goal.names_of-requires
names_of-requires c =
    these_ascend (λ k. k.items) c.args.links.now c.loop-directory.directories.items c.loop-directory.rest.now c.in-Some.here.now
    c.in-Some.others.now c.in-Some.directory c.loop-directory.invariant c.in-Some.ensures

pub loop-directory-preserved : goal.loop-directory-preserved
loop-directory-preserved c =
    rw c.in_ok-push.ensures.items
    (kept_more (λ k. k.items) c.args.links.now c.loop-directory.directories.items c.loop-directory.rest.now c.in-Some.here.now
    c.in-Some.others.now c.in-Some.directory c.loop-directory.invariant c.in-Some.ensures c.in_ok-names_of.field-0 c.in_ok-names_of.ensures)

pub returns : goal.returns
returns c =
    let directories = c.loop-directory.directories.items in
    let made = fact_from_collect (IsFromIterResult nat_cmp) c.collect.result c.collect.ensures.ran
    (YieldsList-from_vec directories c.into_iter.ensures.rest (c.into_iter.ensures.len ∙ c.loop-directory.directories.ok.0)) in
    ap (links_in (λ k. k.items))
    (made_entries nat_cmp_total exact_unsigned directories c.in_ok-directories.directories c.loop-directory.invariant.directories
    (subst (λ o. IfOk o (IsFromIterResult nat_cmp directories)) c.in_ok-directories.was made))
    ∙ sym (append-nil (links_in (λ k. k.items) directories))
    ∙ ap (λ (l : List LinkRec). links_in (λ k. k.items) directories ++ map link_of l) (sym c.in_default.ensures)
    ∙ c.loop-directory.invariant.all
