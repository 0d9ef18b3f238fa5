use Rattle.wu_query.proofs.FilesAtPlaces.{listed_nth}
use Rattle.wu_query.proofs.looking.Places.nth.Goals as goal

pub returns-in-Listed : goal.returns-in-Listed
returns-in-Listed c = λ view within.
    rw (c.as_slice.ensures, c.in-Listed.is)
    (listed_nth view c.in-Listed.places (rw c.in-Listed.is at within) c.args.turn (rw c.in-Listed.is at c.requires))
