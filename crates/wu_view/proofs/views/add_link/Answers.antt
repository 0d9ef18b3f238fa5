use Rattle.std.proofs.Common.{◌≡◌, ◌∙◌, ◌++◌, ◌∷◌, [], ℕ, List, None, Option, Some, ap, arith, cond, length, rules, sym}
use Rattle.std.specs.Prelude.{◌==◌, map}
use Rattle.std.specs.BTreeMap.{get}
use Rattle.std.specs.Ordering.{nat_cmp}
use Rattle.std.proofs.lemmas.Grind.{common_steps}
use Rattle.wu_view.specs.declared.links.Link.{Link}
use Rattle.wu_view.specs.declared.views.File.{File}
use Rattle.wu_view.specs.Groups.{with_found}
use Rattle.wu_view.specs.KeptViews.{kept_file, place_of, with_further}
use Rattle.wu_view.specs.LinkLists.{file_at}
use Rattle.wu_view.proofs.GroupedLinks.{carried, file_of, not_there, places_more, same_places, there}
use Rattle.wu_view.proofs.views.add_link.Goals as goal

pub returns-in-Some-clause-places : goal.returns-in-Some-clause-places
returns-in-Some-clause-places c =
    let files : List File = c.args.files.now.items in
    let place : ℕ = c.in-Some.place.now in
    let given : c.add_further.new.files.items ≡ with_further files place c.args.found.link
    → (q : ℕ) → get nat_cmp c.args.places.now q ≡ place_of q c.add_further.new.files.items =
    λ e q.
    c.requires q
    ∙ sym (same_places q files place c.args.found.link)
    ∙ ap (λ (l : List File). place_of q l) (sym e) in
    carried c.add_further.result c.add_further.ensures given

pub returns-in-Some-clause-files : goal.returns-in-Some-clause-files
returns-in-Some-clause-files c =
    let files : List File = c.args.files.now.items in
    let place : ℕ = c.in-Some.place.now in
    let found : place_of c.args.found.ino files ≡ Some place = sym (c.requires c.args.found.ino) ∙ sym c.in-Some.ensures.value in
    let given : c.add_further.new.files.items ≡ with_further files place c.args.found.link
    → (paths : List (List ℕ)) → map (kept_file paths) c.add_further.new.files.items
    ≡ with_found (map (kept_file paths) files) (file_at paths c.args.found) =
    λ e paths. ap (λ (l : List File). map (kept_file paths) l) e ∙ there paths files c.args.found place found in
    carried c.add_further.result c.add_further.ensures given

pub returns-in_ok-push-in-None-clause-places : goal.returns-in_ok-push-in-None-clause-places
returns-in_ok-push-in-None-clause-places c = λ q.
    let files : List File = c.args.files.now.items in
    let ino : ℕ = c.args.found.ino in
    let none : place_of ino files ≡ None = sym (c.requires ino) ∙ sym c.in-None.ensures.value in
    let put : get nat_cmp c.insert.new.self q ≡ cond (q == ino) (Some c.len.result) (get nat_cmp c.args.places.now q) =
    grind (arith, common_steps, c.in_ok-insert-in-None.ensures.updates.0 q) in
    let n : c.len.result ≡ length files = search rules in
    let items : c.push.new.self.items ≡ files ++ file_of ino c.args.found.link ∷ [] =
    c.in_ok-push-in-None.ensures.items
    ∙ ap (λ (l : List Link). files ++ record { ino = ino; first = c.args.found.link; further = l } ∷ []) c.new.ensures in
    put
    ∙ ap (λ k. cond (q == ino) (Some k) (get nat_cmp c.args.places.now q)) n
    ∙ ap (λ (o : Option ℕ). cond (q == ino) (Some (length files)) o) (c.requires q)
    ∙ sym (places_more q files (file_of ino c.args.found.link) none)
    ∙ ap (λ (l : List File). place_of q l) (sym items)

pub returns-in_ok-push-in-None-clause-files : goal.returns-in_ok-push-in-None-clause-files
returns-in_ok-push-in-None-clause-files c = λ paths.
    let files : List File = c.args.files.now.items in
    let ino : ℕ = c.args.found.ino in
    let none : place_of ino files ≡ None = sym (c.requires ino) ∙ sym c.in-None.ensures.value in
    let items : c.push.new.self.items ≡ files ++ file_of ino c.args.found.link ∷ [] =
    c.in_ok-push-in-None.ensures.items
    ∙ ap (λ (l : List Link). files ++ record { ino = ino; first = c.args.found.link; further = l } ∷ []) c.new.ensures in
    ap (λ (l : List File). map (kept_file paths) l) items ∙ not_there paths files c.args.found none
