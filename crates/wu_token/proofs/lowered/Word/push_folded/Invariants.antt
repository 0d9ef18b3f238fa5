use Rattle.std.proofs.Common.{◌≡◌, ℕ, ◌-◌, List, ◌++◌, length, take, encode_utf8_all}
use Rattle.std.specs.Str.Iter.{chars_steps}
use Rattle.caseless.specs.CaseFold.{FoldsCaseTo}
use Rattle.wu_base.specs.declared.limits.TheConstants.{WORD_MAX}
use Rattle.wu_token.specs.Words.{folded_text}
use Rattle.wu_token.proofs.lowered.Word.push_folded.Given as goal

-- the word with the letters that are left is what was to be made
abbrev pub invariant-loop-self : goal.invariant-loop-self
invariant-loop-self l =
    (left : List ℕ) × FoldsCaseTo chars_steps l.letters left
    × (take WORD_MAX (l.self ++ encode_utf8_all left) ≡ take WORD_MAX (l.fn.self ++ folded_text l.fn.text))

abbrev pub decreases-loop-self : goal.decreases-loop-self
decreases-loop-self l = WORD_MAX - length l.self
