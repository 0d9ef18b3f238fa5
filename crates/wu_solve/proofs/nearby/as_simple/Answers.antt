use Rattle.wu_solve.proofs.SameRegions.{file_whole, line_whole}
use Rattle.wu_solve.proofs.nearby.as_simple.Goals as goal

pub returns-in-File : goal.returns-in-File
returns-in-File c = λ lists frames. rw c.in-File.is (file_whole lists frames)

pub returns-in-Line : goal.returns-in-Line
returns-in-Line c = λ lists frames. rw c.in-Line.is (line_whole lists frames)
