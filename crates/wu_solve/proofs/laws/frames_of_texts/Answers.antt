use Rattle.wu_solve.proofs.Results.{frame_of_text}
use Rattle.wu_solve.proofs.laws.frames_of_texts.Goals as goal

pub returns : goal.returns
returns c = frame_of_text
