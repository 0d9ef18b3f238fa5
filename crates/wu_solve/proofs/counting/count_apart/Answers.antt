use Rattle.std.proofs.Common.{◌≡◌, ◌∙◌, [], ◌∷◌, ℕ, Bool, List, length, ap}
use Rattle.wu_gcl.specs.Extents.{hits}
use Rattle.wu_gcl.specs.Regions.{region_of, Phrase}
use Rattle.wu_solve.specs.Addresses.{AreAddressesOf}
use Rattle.wu_solve.proofs.SameRegions.{alike_everywhere}
use Rattle.wu_solve.proofs.OneTerm.{term_hits, term_files, files_alike}
use Rattle.wu_solve.proofs.counting.count_apart.Goals as goal

pub returns-in-Some-clause-hits : goal.returns-in-Some-clause-hits
returns-in-Some-clause-hits c =
    let lists = c.args.lists.now in
    let frames = c.args.frames.now in
    let region = region_of c.args.expr.now in
    let term = c.in-Some.term.now in
    let same : (stands : List ℕ → ℕ → Bool) (n : ℕ) → hits (Phrase (term ∷ [])) stands n ≡ hits region stands n = c.in-Some.ensures.same in
    let are : AreAddressesOf lists term c.addresses_of.result.now =
    record { ascending = c.addresses_of.ensures.ascending; same = c.addresses_of.ensures.same } in
    c.count_term.ensures.hits ∙ term_hits lists frames c.requires.apart term c.addresses_of.result.now are
    ∙ ap length (alike_everywhere (Phrase (term ∷ [])) region same lists frames)

pub returns-in-Some-clause-files : goal.returns-in-Some-clause-files
returns-in-Some-clause-files c =
    let lists = c.args.lists.now in
    let frames = c.args.frames.now in
    let region = region_of c.args.expr.now in
    let term = c.in-Some.term.now in
    let same : (stands : List ℕ → ℕ → Bool) (n : ℕ) → hits (Phrase (term ∷ [])) stands n ≡ hits region stands n = c.in-Some.ensures.same in
    let are : AreAddressesOf lists term c.addresses_of.result.now =
    record { ascending = c.addresses_of.ensures.ascending; same = c.addresses_of.ensures.same } in
    c.count_term.ensures.files ∙ term_files lists term c.addresses_of.result.now are frames
    ∙ files_alike (Phrase (term ∷ [])) region same lists frames
