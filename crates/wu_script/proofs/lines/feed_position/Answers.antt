use Rattle.wu_script.proofs.LineLemmas.{feed_found}
use Rattle.wu_script.proofs.lines.feed_position.Goals as goal

pub returns : goal.returns
returns c = feed_found c.args.bytes.now c.find_byte.result c.find_byte.ensures
