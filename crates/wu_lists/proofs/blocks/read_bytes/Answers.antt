use Rattle.std.proofs.Common.{◌≡◌, ℕ, [], ◌∷◌, length, rules, sym, ◌∙◌}
use Rattle.std.specs.Prelude.{Some, IfSome}
use Rattle.std.proofs.lemmas.Option.{same_Some}
use Rattle.wu_layout.proofs.EntryLemmas.{IfSome-map}
use Rattle.wu_outside.specs.Content.{ReadsFrom}
use Rattle.wu_lists.specs.Blocks.{IsSpelledIn}
use Rattle.wu_lists.proofs.Asking.{with_ranges}
use Rattle.wu_lists.proofs.Readings.{cause-damaged, not-whole}
use Rattle.wu_lists.proofs.blocks.read_bytes.Goals as goal
use Rattle.wu_lists.proofs.blocks.read_bytes.Goals.{in_default-via-in-Some+else-count-len, in_default-via-in_default}

pub returns-in_default-clause-cause : goal.returns-in_default-clause-cause
returns-in_default-clause-cause g c =
    let block = c.args.block.now in
    let holds = g.D.Store.holds c.args.store.now in
    let count = c.in_ok-count.field-0 in
    let buffer = c.read.new.buf in
    let long : length buffer ≡ block.len = search rules in
    let noted : g.D.Store.reads c.read.new.self ≡ with_ranges (g.D.Store.reads c.args.store.now) (block ∷ []) = search rules in
    let short : (n : ℕ) → count ≡ Some n → n ≡ length buffer → ⊥ = λ n some whole.
    elim c.in_default.branch [
      | in_default-via-in-Some+else-count-len w ↦
          let same : w.in-Some.count ≡ n = same_Some w.in-Some.count n (sym w.in-Some.is ∙ some) in
          let len : w.len.result ≡ block.len = search rules in
          w.if-count-len.false (same ∙ whole ∙ long ∙ sym len)
      | in_default-via-in_default w ↦ w.in_default.not-Some n some
    ] in
    cause-damaged block (IfSome holds (λ content. IsSpelledIn content block → ⊥)) (g.D.Store.faults c.args.store.now)
    (g.D.Store.faults c.read.new.self) (g.D.Store.reads c.args.store.now) (g.D.Store.reads c.read.new.self)
    c.in_ok-count.ensures.cause.calm noted
    (IfSome-map (λ content. ReadsFrom (content.blobs block.blob) block.at count buffer) (λ content. IsSpelledIn content block → ⊥) holds
    (λ content read. not-whole content block count buffer long short read) c.in_ok-count.ensures.bytes)
