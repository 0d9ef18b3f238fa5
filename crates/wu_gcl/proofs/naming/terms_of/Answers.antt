use Rattle.std.proofs.Common.{◌≡◌}
use Rattle.std.proofs.lemmas.Map.Lookups.{exact_bytes}
use Rattle.wu_gcl.specs.Regions.{region_of}
use Rattle.wu_gcl.specs.Terms.{terms_in}
use Rattle.wu_gcl.proofs.TermLists.{are_terms}
use Rattle.wu_gcl.proofs.naming.terms_of.Goals as goal

pub sorted_once-requires : goal.sorted_once-requires
sorted_once-requires c = record { exact = exact_bytes }

pub returns : goal.returns
returns c =
    let named : c.put_terms.new.terms.items
    ≡ terms_in (region_of c.args.expr.now) = rw c.new-terms.ensures.items at c.in_ok-put_terms.ensures in
    are_terms
    (region_of c.args.expr.now) c.put_terms.new.terms.items c.sorted_once.result.items named c.sorted_once.ensures.ascending
    c.sorted_once.ensures.members
