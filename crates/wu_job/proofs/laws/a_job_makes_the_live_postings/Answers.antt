use Rattle.wu_job.proofs.Made.{all_made}
use Rattle.wu_job.proofs.laws.a_job_makes_the_live_postings.Goals as goal

pub returns : goal.returns
returns c = λ content job postings held right none. all_made content job postings held right none
