use Rattle.std.proofs.Common.{◌∙◌, sym}
use Rattle.wu_query.proofs.FilesAtPlaces.{listed_length}
use Rattle.wu_query.proofs.looking.Places.len.Goals as goal

pub returns-in-Listed-clause-len : goal.returns-in-Listed-clause-len
returns-in-Listed-clause-len c =
    rw c.in-Listed.is
    (c.len-in-Listed.ensures ∙ sym (listed_length c.args.view.now c.in-Listed.places (rw c.in-Listed.is at c.requires)))
