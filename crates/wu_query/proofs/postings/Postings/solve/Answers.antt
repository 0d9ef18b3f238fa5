use Rattle.wu_query.proofs.postings.Postings.solve.Goals as goal

pub solve_apart-requires-clause-lists : goal.solve_apart-requires-clause-lists
solve_apart-requires-clause-lists c = rw c.as_slice.ensures (rw c.in-Listed.is at c.requires.solved)

pub solve_gathered-requires-clause-terms : goal.solve_gathered-requires-clause-terms
solve_gathered-requires-clause-terms c = rw c.as_slice-in-Gathered.ensures (rw c.in-Gathered.is at c.requires.solved)

pub returns-in-Listed : goal.returns-in-Listed
returns-in-Listed c = rw c.in-Listed.is (rw c.as_slice.ensures at c.solve_apart.ensures.extents)

pub returns-in-Gathered : goal.returns-in-Gathered
returns-in-Gathered c = rw c.in-Gathered.is (rw c.as_slice-in-Gathered.ensures at c.solve_gathered.ensures)
