use Rattle.std.proofs.Common.{refl}
use Rattle.core.specs.Fmt.{digits}
use Rattle.wu_fields.specs.Fields.{letter_of}
use Rattle.wu_tree.specs.FileSystems.{ancestors, path_up}
use Rattle.wu_view.specs.Views.{view_for, view_of as files_of}
use Rattle.wu_script.specs.Replies.{answer_bytes, reply_bytes}
use Rattle.wu_query.specs.Answer.{answer}
use Rattle.wu_query.specs.View.{view_of}
use Rattle.wu_engine.specs.States.{step}
use Rattle.wu_secrecy.proofs.laws.two_histories_that_she_cannot_tell_apart.Goals as goal

pub returns-clause-asked : goal.returns-clause-asked
unfolding step view_of files_of view_for path_up ancestors
returns-clause-asked c = λ one other. refl

pub returns-clause-alone : goal.returns-clause-alone
unfolding step view_of files_of view_for path_up ancestors answer answer_bytes reply_bytes digits letter_of
returns-clause-alone c = λ rules. refl

pub returns-clause-beside : goal.returns-clause-beside
unfolding step view_of files_of view_for path_up ancestors answer answer_bytes reply_bytes digits letter_of
returns-clause-beside c = λ rules. refl

pub returns-clause-another : goal.returns-clause-another
unfolding step view_of files_of view_for path_up ancestors answer answer_bytes reply_bytes digits letter_of
returns-clause-another c = λ rules. refl
