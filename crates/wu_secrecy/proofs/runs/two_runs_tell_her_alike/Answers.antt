use Rattle.wu_secrecy.proofs.Noninterference.{begins-alike, course-whole, told-alike}
use Rattle.wu_secrecy.proofs.runs.two_runs_tell_her_alike.Goals as goal

pub returns-clause-alike : goal.returns-clause-alike
returns-clause-alike g c = λ read s t one other is are uid. (
  told-alike read uid one.answered other.answered (course-whole read _ one is) (course-whole read _ other are),
  begins-alike read _ one is uid other.answered (course-whole read _ other are),
)
