use Rattle.std.proofs.Common.{◌≡◌, ◌∙◌, ◌<◌, ◌++◌, ◌∷◌, [], List, ap, length, set}
use Rattle.wu_view.specs.declared.links.Link.{Link}
use Rattle.wu_view.specs.declared.views.File.{File}
use Rattle.wu_view.specs.KeptViews.{with_further}
use Rattle.wu_view.proofs.GroupedLinks.{carried, none_further, set_further}
use Rattle.wu_view.proofs.views.add_further.Goals as goal

pub returns-in-Some : goal.returns-in-Some
returns-in-Some c =
    let files : List File = c.args.files.now.items in
    let file : File = c.in-Some.file.now in
    let link : Link = c.args.link in
    let there : c.args.place < length c.args.files.now.items = c.in-Some.ensures.item.3.0 in
    let given : c.push.new.self ≡ file.further ++ link ∷ []
    → set files c.args.place (record { ino = file.ino; first = file.first; further = c.push.new.self })
    ≡ with_further files c.args.place link =
    λ e.
    ap (λ (l : List Link). set files c.args.place (record { ino = file.ino; first = file.first; further = l })) e
    ∙ set_further files c.args.place file link there c.in-Some.ensures.value in
    carried c.push.result c.push.ensures.ok given

pub returns-in-None : goal.returns-in-None
returns-in-None c = none_further c.args.files.now.items c.args.place c.args.link c.in-None.ensures.item.3
