use Rattle.std.proofs.Common.{sym, ◌∙◌, arith}
use Rattle.wu_vbyte.proofs.NumberLemmas.{code_of_value, has_spelling, ten_bytes}
use Rattle.wu_vbyte.proofs.numbers.each_number_has_one_spelling.Goals as goal

pub returns-clause-spelling : goal.returns-clause-spelling
returns-clause-spelling c number code other s t = code_of_value code other s.form t.form (s.value ∙ sym t.value)

pub returns-clause-some : goal.returns-clause-some
returns-clause-some c number = has_spelling number number (omega arith)

pub returns-clause-length : goal.returns-clause-length
returns-clause-length c = ten_bytes
