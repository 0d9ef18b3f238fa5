use Rattle.std.proofs.Common.{◌≡◌, ◌-◌, ◌∙◌, [], length, get_or, sym, ap, arith}
use Rattle.std.specs.Prelude.{filter}
use Rattle.std.proofs.lemmas.List.{get_or_default}
use Rattle.std.proofs.lemmas.Result.{IfOk-weaker}
use Rattle.wu_gcl.specs.Extents.{words_stand}
use Rattle.wu_gcl.specs.Regions.{Phrase}
use Rattle.wu_solve.specs.Addresses.{has_address}
use Rattle.wu_solve.specs.Operands.{runs_around}
use Rattle.wu_solve.specs.Solving.{frames_hits}
use Rattle.wu_solve.proofs.ExtentsInFrames.{low_starts}
use Rattle.wu_solve.proofs.PhrasesInFrames.{known_word, phrase_whole}
use Rattle.wu_solve.proofs.operands.words_together.Goals as goal

pub standing-requires-clause-low : goal.standing-requires-clause-low
standing-requires-clause-low c =
    let words = c.args.words.now in
    let r = c.rarest-rarest.result in
    rw c.in_ok-runs.ensures
    (low_starts c.args.frames.now (runs_around r (length words - r - 1) c.addresses_of-addresses.result.now) c.requires.frames)

pub standing-requires-clause-known : goal.standing-requires-clause-known
standing-requires-clause-known c =
    let words = c.args.words.now in
    let lists = c.args.lists.now in
    let r = c.rarest-rarest.result in
    let word : get_or words r [] ≡ c.as_slice.result.now =
    get_or_default words r [] c.index-words-rarest.result c.rarest-rarest.ensures ∙ sym c.index-words-rarest.is ∙ sym c.as_slice.ensures in
    rw c.in_ok-runs.ensures
    (known_word lists c.args.frames.now (get_or words r []) c.addresses_of-addresses.result.now r (length words - r - 1) (record {
      ascending = c.addresses_of-addresses.ensures.ascending;
      same = λ address. c.addresses_of-addresses.ensures.same address ∙ ap (λ term. has_address lists term address) (sym word);
    }))

pub returns : goal.returns
returns c =
    let words = c.args.words.now in
    let lists = c.args.lists.now in
    let frames = c.args.frames.now in
    let r = c.rarest-rarest.result in
    let word : get_or words r [] ≡ c.as_slice.result.now =
    get_or_default words r [] c.index-words-rarest.result c.rarest-rarest.ensures ∙ sym c.index-words-rarest.is ∙ sym c.as_slice.ensures in
    let whole = phrase_whole lists frames c.requires.apart words r (length words - r - 1) (omega (arith, c.rarest-rarest.ensures))
    c.addresses_of-addresses.result.now (record {
      ascending = c.addresses_of-addresses.ensures.ascending;
      same = λ address. c.addresses_of-addresses.ensures.same address ∙ ap (λ term. has_address lists term address) (sym word);
    }) in
    IfOk-weaker c.standing.result
    (λ v. v.items ≡ filter (λ x. words_stand (has_address lists) words x.start) c.in_ok-runs.runs.items)
    (λ v. v.items ≡ frames_hits (Phrase words) lists frames)
    (λ v same. same ∙ rw c.in_ok-runs.ensures whole) c.standing.ensures
