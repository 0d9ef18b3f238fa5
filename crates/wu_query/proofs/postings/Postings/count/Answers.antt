use Rattle.wu_query.proofs.postings.Postings.count.Goals as goal

pub count_apart-requires-clause-lists : goal.count_apart-requires-clause-lists
count_apart-requires-clause-lists c = rw c.as_slice.ensures (rw c.in-Listed.is at c.requires.solved)

pub count_apart-requires-clause-few : goal.count_apart-requires-clause-few
count_apart-requires-clause-few c = rw c.as_slice.ensures (rw c.in-Listed.is at c.requires.few)

pub count_gathered-requires-clause-terms : goal.count_gathered-requires-clause-terms
count_gathered-requires-clause-terms c = rw c.as_slice-in-Gathered.ensures (rw c.in-Gathered.is at c.requires.solved)

pub count_gathered-requires-clause-few : goal.count_gathered-requires-clause-few
count_gathered-requires-clause-few c = rw c.as_slice-in-Gathered.ensures (rw c.in-Gathered.is at c.requires.few)

pub returns-in-Listed-clause-hits : goal.returns-in-Listed-clause-hits
returns-in-Listed-clause-hits c = rw c.in-Listed.is (rw c.as_slice.ensures at c.count_apart.ensures.hits)

pub returns-in-Listed-clause-files : goal.returns-in-Listed-clause-files
returns-in-Listed-clause-files c = rw c.in-Listed.is (rw c.as_slice.ensures at c.count_apart.ensures.files)

pub returns-in-Gathered-clause-hits : goal.returns-in-Gathered-clause-hits
returns-in-Gathered-clause-hits c = rw c.in-Gathered.is (rw c.as_slice-in-Gathered.ensures at c.count_gathered.ensures.hits)

pub returns-in-Gathered-clause-files : goal.returns-in-Gathered-clause-files
returns-in-Gathered-clause-files c = rw c.in-Gathered.is (rw c.as_slice-in-Gathered.ensures at c.count_gathered.ensures.files)
