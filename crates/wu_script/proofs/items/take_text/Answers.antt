use Rattle.std.proofs.Common.{◌≡◌, ◌++◌, ap, ◌∙◌, ℕ, ◌≤◌, ◌<◌, Bool, true, false, MatchBool, length, arith}
use Rattle.wu_base.specs.declared.limits.TheConstants.{TEXT_MAX}
use Rattle.wu_script.specs.Taking.{closing, IsOneLine}
use Rattle.wu_script.specs.Items.{text_at}
use Rattle.wu_script.proofs.InputLemmas.{Uses-trans}
use Rattle.wu_script.proofs.EarlyEndLemmas.{EndsEarly-after}
use Rattle.wu_script.proofs.UnclosedLemmas.{tail_held, closed_body, text_open-body, text_open-line}
use Rattle.wu_script.proofs.ItemLemmas.{taken_body}
use Rattle.wu_script.proofs.ReadLemmas.{GivesAtMost-then, asked_then}
use Rattle.wu_script.proofs.items.take_text.Goals as goal

pub returns-clause-taken : goal.returns-clause-taken
returns-clause-taken g c =
    let left = g.I.Source.left in
    let taken = c.in_ok-all.ensures.taken in
    let tail = c.in-Ok.ensures.taken in
    let closed = c.in-Ok.tail.closed in (
      taken.0 ++ (tail.0 ++ closing closed),
      Uses-trans (left c.args.source.now) (left c.take_bytes.new.source)
          (left c.take_line.new.source) c.args.input.now c.take_bytes.new.input c.take_line.new.input taken.0
          (tail.0 ++ closing closed) taken.1.uses tail.1.uses,
      taken_body
          (g.I.Source.last_read c.take_line.new.source) c.take_line.new.input c.args.ino c.args.len c.text_item.result taken.0 tail.0 c.take_bytes.new.body.items c.take_line.new.line.items
          closed c.is_kept-kept.result c.in-Ok.tail.whole (taken.1.whole c.if-not-all.false) tail.1.one tail.1.last (record {
            fits = c.is_kept-kept.ensures;
            same = λ kept. taken.2 kept ∙ ap (λ xs. xs ++ taken.0) c.in_ok-body.ensures.none;
            rest = tail.2;
            long = c.text_item.ensures.long;
            bad = c.text_item.ensures.bad;
            text = c.text_item.ensures.text;
          }),
    )

kept_small : (len : ℕ) (kept : Bool) → MatchBool kept (len ≤ TEXT_MAX) (TEXT_MAX < len) → kept ≡ true → len ≤ TEXT_MAX
kept_small len true is e = is
kept_small len false is e = cc (e)

pub returns-clause-sound : goal.returns-clause-sound
returns-clause-sound g c = c.text_item.ensures.sound c.requires.node (λ kept.
    let taken = c.in_ok-all.ensures.taken in
    let same = taken.2 kept ∙ ap (λ xs. xs ++ taken.0) c.in_ok-body.ensures.none in
    omega (arith, ap length same, taken.1.whole c.if-not-all.false, kept_small c.args.len c.is_kept-kept.result c.is_kept-kept.ensures kept))

pub returns-in-Err-clause-idle : goal.returns-in-Err-clause-idle
returns-in-Err-clause-idle g c = λ held.
    let left = g.I.Source.left in
    let taken = c.in_ok-all.ensures.taken in
    let feed = tail_held (left c.args.source.now)
    (left c.take_bytes.new.source) c.args.input.now c.take_bytes.new.input c.args.ino c.args.len taken.0 taken.1.uses
    (taken.1.whole c.if-not-all.false) held in
    c.in-Err.ensures.still feed ∙ c.in_ok-all.ensures.still (closed_body c.args.ino c.args.len c.args.input.now.bytes held).0

pub returns-clause-idle : goal.returns-clause-idle
returns-clause-idle g c = λ held.
    let left = g.I.Source.left in
    let taken = c.in_ok-all.ensures.taken in
    let feed = tail_held (left c.args.source.now)
    (left c.take_bytes.new.source) c.args.input.now c.take_bytes.new.input c.args.ino c.args.len taken.0 taken.1.uses
    (taken.1.whole c.if-not-all.false) held in
    c.in-Ok.ensures.still feed ∙ c.in_ok-all.ensures.still (closed_body c.args.ino c.args.len c.args.input.now.bytes held).0

pub returns-in-Err-clause-early : goal.returns-in-Err-clause-early
returns-in-Err-clause-early g c =
    let left = g.I.Source.left in
    let taken = c.in_ok-all.ensures.taken in
    let size = taken.1.whole c.if-not-all.false in
    EndsEarly-after (λ bs. (text_at c.args.ino c.args.len bs).closed ≡ false) IsOneLine (left c.args.source.now)
    (left c.take_bytes.new.source) (left c.take_line.new.source) (g.I.Source.last_read c.take_line.new.source)
    c.args.input.now c.take_bytes.new.input c.in-Err.end taken.0 taken.1.uses
    (λ n. text_open-body c.args.ino c.args.len n taken.0 size)
    (λ more _ one. text_open-line c.args.ino c.args.len taken.0 more size one)
    c.in-Err.ensures.early

pub returns-in-Err-clause-brief : goal.returns-in-Err-clause-brief
returns-in-Err-clause-brief g c =
    let left = g.I.Source.left in
    let last_read = g.I.Source.last_read in
    GivesAtMost-then c.args.input.now.spare c.take_bytes.new.input.spare (left c.args.source.now) (left c.take_bytes.new.source)
    (left c.take_line.new.source) (last_read c.args.source.now) (last_read c.take_bytes.new.source) (last_read c.take_line.new.source)
    (omega (arith, c.in_ok-all.ensures.taken.1.uses.counted)) c.in_ok-all.ensures.brief c.in-Err.ensures.brief

pub returns-clause-brief : goal.returns-clause-brief
returns-clause-brief g c =
    let left = g.I.Source.left in
    let last_read = g.I.Source.last_read in
    GivesAtMost-then c.args.input.now.spare c.take_bytes.new.input.spare (left c.args.source.now) (left c.take_bytes.new.source)
    (left c.take_line.new.source) (last_read c.args.source.now) (last_read c.take_bytes.new.source) (last_read c.take_line.new.source)
    (omega (arith, c.in_ok-all.ensures.taken.1.uses.counted)) c.in_ok-all.ensures.brief c.in-Ok.ensures.brief

pub returns-in-Err-clause-asked : goal.returns-in-Err-clause-asked
returns-in-Err-clause-asked g c =
    let most_asked = g.I.Source.most_asked in
    asked_then c.args.input.now.spare c.take_bytes.new.input.spare (most_asked c.args.source.now) (most_asked c.take_bytes.new.source)
    (most_asked c.take_line.new.source) (omega (arith, c.in_ok-all.ensures.taken.1.uses.counted)) c.in_ok-all.ensures.asked c.in-Err.ensures.asked

pub returns-clause-asked : goal.returns-clause-asked
returns-clause-asked g c =
    let most_asked = g.I.Source.most_asked in
    asked_then c.args.input.now.spare c.take_bytes.new.input.spare (most_asked c.args.source.now) (most_asked c.take_bytes.new.source)
    (most_asked c.take_line.new.source) (omega (arith, c.in_ok-all.ensures.taken.1.uses.counted)) c.in_ok-all.ensures.asked c.in-Ok.ensures.asked
