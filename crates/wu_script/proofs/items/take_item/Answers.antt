use Rattle.std.proofs.Common.{◌≡◌, ◌++◌, ◌<◌, List, ℕ, [], true, false, length, take, refl, sym, subst, ◌∙◌, arith}
use Rattle.wu_script.specs.Holding.{EndsEarly}
use Rattle.wu_script.specs.Taking.{closing, IsOneLine}
use Rattle.wu_script.specs.Taken.{IsSoundParsed}
use Rattle.wu_script.specs.Items.{first_of, text_at}
use Rattle.wu_script.specs.Commands.{TextHead, line_says}
use Rattle.wu_script.specs.declared.ends.ReadEnd.TheVariants.{NoMemory}
use Rattle.wu_script.specs.declared.items.ParsedLine.TheVariants as heard
use Rattle.wu_script.proofs.InputLemmas.{Uses-trans}
use Rattle.wu_script.proofs.LineLemmas.{one_line, kept_whole, kept_long, nothing_used}
use Rattle.wu_script.proofs.EarlyEndLemmas.{EndsEarly-memory, EndsEarly-also, EndsEarly-after, Uses-first_of, if_end}
use Rattle.wu_script.proofs.ReadLemmas.{GivesAtMost-then, asked_then}
use Rattle.wu_script.proofs.UnclosedLemmas.{one_line-take, line_open, closed_feed, head_open, headed_open, body_held, closing_recent}
use Rattle.wu_script.proofs.ItemLemmas.{long_item, parsed_as, heard_item, head_says, head_item, item_before_end}
use Rattle.wu_script.proofs.items.take_item.Given as given
use Rattle.wu_script.proofs.items.take_item.Goals as goal
use Rattle.wu_script.proofs.items.take_item.Goals.{After-take_text}

-- what the line that was taken says
says : (g : given.Over) (c : After-take_text g)
    → line_says c.in_ok-cut.ensures.taken.0 ≡ TextHead c.in-TextHead.ino c.in-TextHead.len
says g c = head_says _ c.in_ok-cut.ensures.taken.0 c.take_line.new.line.items c.in_ok-cut.cut.whole c.in_ok-item.field-0 c.in-TextHead.ino
    c.in-TextHead.len c.in_ok-cut.ensures.taken.2 c.if-not-cut.false c.in_ok-item.ensures.says c.in-TextHead.is

pub returns-then-not-cut-clause-taken : goal.returns-then-not-cut-clause-taken
returns-then-not-cut-clause-taken g c =
    let taken = c.in_ok-cut.ensures.taken in
    let closed = c.in_ok-cut.cut.closed in (
      taken.0 ++ closing closed,
      taken.1.uses,
      long_item (g.I.Source.last_read c.take_line.new.source) c.take_line.new.input taken.0 closed taken.1.one taken.1.last
          (kept_long _ taken.0 _ c.in_ok-cut.cut.whole taken.2 c.if-not-cut.true),
    )

pub returns-in-Item-clause-taken : goal.returns-in-Item-clause-taken
returns-in-Item-clause-taken g c =
    let taken = c.in_ok-cut.ensures.taken in
    let closed = c.in_ok-cut.cut.closed in
    let kept = kept_whole _ taken.0 c.take_line.new.line.items c.in_ok-cut.cut.whole taken.2 c.if-not-cut.false in
    let says = parsed_as c.in_ok-item.field-0
    (heard.Item c.in-Item.item) c.take_line.new.line.items taken.0 c.in_ok-item.ensures.says c.in-Item.is kept in (
      taken.0 ++ closing closed,
      taken.1.uses,
      heard_item (g.I.Source.last_read c.take_line.new.source) c.take_line.new.input c.in-Item.item taken.0 closed taken.1.one taken.1.last
          (λ unclosed. subst (λ (xs : List ℕ). 0 < length xs) kept (c.if-is_end.ensures unclosed)) says
          (subst IsSoundParsed c.in-Item.is c.in_ok-item.ensures.sound).1,
    )

pub returns-in-Ok-clause-taken : goal.returns-in-Ok-clause-taken
returns-in-Ok-clause-taken g c =
    let left = g.I.Source.left in
    let last_read = g.I.Source.last_read c.take_text.new.source in
    let taken = c.in_ok-cut.ensures.taken in
    let closed = c.in_ok-cut.cut.closed in
    let body = c.in-Ok.ensures.taken in
    let used = taken.0 ++ closing closed ++ body.0 in
    let kept = kept_whole _ taken.0 c.take_line.new.line.items c.in_ok-cut.cut.whole taken.2 c.if-not-cut.false in
    let head = says g (goal.at.returns-in-Ok-clause-taken g c).After-take_text in
    let none = λ (unclosed : closed ≡ false). nothing_used (left c.take_line.new.source)
    (left c.take_text.new.source) c.take_line.new.input c.take_text.new.input body.0 body.1 (taken.1.last.end unclosed) in (
      used,
      Uses-trans (left c.args.source.now) (left c.take_line.new.source)
          (left c.take_text.new.source) c.args.input.now c.take_line.new.input c.take_text.new.input
          (taken.0 ++ closing closed) body.0 taken.1.uses body.1,
      item_before_end last_read c.take_text.new.input c.in-Ok.item used c.in-Ok.ensures.more
          (head_item last_read c.take_text.new.input c.in-Ok.item c.in-TextHead.ino c.in-TextHead.len taken.0 body.0 closed taken.1.one head none
          (λ unclosed. subst (λ (xs : List ℕ). 0 < length xs) kept (c.if-is_end.ensures unclosed)) body.2),
    )

-- where a whole text was held, its body was held once its line was taken, and the line was held
held_body : (g : given.Over) (c : After-take_text g) → (first_of c.args.input.now.bytes).closed ≡ true
    → (text_at c.in-TextHead.ino c.in-TextHead.len c.take_line.new.input.bytes).closed ≡ true
held_body g c held =
    let taken = c.in_ok-cut.ensures.taken in
    body_held (g.I.Source.left c.args.source.now)
    (g.I.Source.left c.take_line.new.source) c.args.input.now c.take_line.new.input c.in-TextHead.ino c.in-TextHead.len taken.0
    c.in_ok-cut.cut.closed taken.1.uses taken.1.one (says g c) (λ unclosed. (taken.1.last.end unclosed).0) held

pub returns-in-Err-clause-idle : goal.returns-in-Err-clause-idle
returns-in-Err-clause-idle g c = λ held.
    c.in-Err.ensures.idle (held_body g (goal.at.returns-in-Err-clause-idle g c).After-take_text held)
    ∙ c.in_ok-cut.ensures.still (closed_feed c.args.input.now.bytes held)

pub returns-in-Ok-clause-idle : goal.returns-in-Ok-clause-idle
returns-in-Ok-clause-idle g c = λ held.
    c.in-Ok.ensures.idle (held_body g (goal.at.returns-in-Ok-clause-idle g c).After-take_text held)
    ∙ c.in_ok-cut.ensures.still (closed_feed c.args.input.now.bytes held)

pub returns-in_err-cut-clause-early : goal.returns-in_err-cut-clause-early
returns-in_err-cut-clause-early g c =
    let left = g.I.Source.left in
    let last_read = g.I.Source.last_read c.take_line.new.source in
    let end = c.in_err-cut.field-0.0 in
    if_end (EndsEarly (λ bs. (first_of bs).closed ≡ false) (left c.args.source.now)
    (left c.take_line.new.source) last_read c.args.input.now) end c.from_residual.result c.from_residual.ensures.1
    (EndsEarly-also (λ bs. (first_of bs).closed ≡ false) IsOneLine (left c.args.source.now)
    (left c.take_line.new.source) last_read c.args.input.now end line_open c.in_err-cut.ensures.early)

pub returns-in_err-item-clause-early : goal.returns-in_err-item-clause-early
returns-in_err-item-clause-early g c =
    let left = g.I.Source.left in
    let last_read = g.I.Source.last_read c.take_line.new.source in
    let taken = c.in_ok-cut.ensures.taken in
    let closed = c.in_ok-cut.cut.closed in
    let between = c.take_line.new.input in
    let held = record between { bytes = closing closed ++ between.bytes } in
    let first = Uses-first_of (left c.args.source.now) (left c.take_line.new.source) c.args.input.now between taken.0
    (closing closed) taken.1.uses in
    if_end (EndsEarly (λ bs. (first_of bs).closed ≡ false) (left c.args.source.now)
    (left c.take_line.new.source) last_read c.args.input.now) NoMemory c.from_residual-in_err-item.result c.from_residual-in_err-item.ensures.1
    (EndsEarly-after (λ bs. (first_of bs).closed ≡ false) (λ bs. bs ≡ []) (left c.args.source.now) (left c.take_line.new.source)
    (left c.take_line.new.source) last_read c.args.input.now held NoMemory taken.0 first
    (λ n. line_open (take n taken.0) (one_line-take n taken.0 taken.1.one))
    (λ more _ none. line_open (taken.0 ++ more) (one_line taken.0 more taken.1.one (subst IsOneLine (sym none) refl)))
    (EndsEarly-memory (left c.take_line.new.source) last_read held (closing_recent closed last_read between taken.1.last)))

pub returns-in-Err-clause-early : goal.returns-in-Err-clause-early
returns-in-Err-clause-early g c =
    let left = g.I.Source.left in
    let taken = c.in_ok-cut.ensures.taken in
    let closed = c.in_ok-cut.cut.closed in
    let head = says g (goal.at.returns-in-Err-clause-early g c).After-take_text in
    EndsEarly-after (λ bs. (first_of bs).closed ≡ false) (λ bs. (text_at c.in-TextHead.ino c.in-TextHead.len bs).closed ≡ false)
    (left c.args.source.now) (left c.take_line.new.source) (left c.take_text.new.source)
    (g.I.Source.last_read c.take_text.new.source) c.args.input.now c.take_line.new.input c.in-Err.end
    (taken.0 ++ closing closed) taken.1.uses
    (λ n. head_open c.in-TextHead.ino c.in-TextHead.len n taken.0 closed taken.1.one head)
    (λ more none short. headed_open c.in-TextHead.ino c.in-TextHead.len taken.0 more closed taken.1.one head
    (λ unclosed. none (taken.1.last.end unclosed).0 (taken.1.last.end unclosed).1) short)
    c.in-Err.ensures.early

pub returns-in-Err-clause-brief : goal.returns-in-Err-clause-brief
returns-in-Err-clause-brief g c =
    let left = g.I.Source.left in
    let last_read = g.I.Source.last_read in
    GivesAtMost-then c.args.input.now.spare c.take_line.new.input.spare (left c.args.source.now) (left c.take_line.new.source)
    (left c.take_text.new.source) (last_read c.args.source.now) (last_read c.take_line.new.source) (last_read c.take_text.new.source)
    (omega (arith, c.in_ok-cut.ensures.taken.1.uses.counted)) c.in_ok-cut.ensures.brief c.in-Err.ensures.brief

pub returns-in-Ok-clause-brief : goal.returns-in-Ok-clause-brief
returns-in-Ok-clause-brief g c =
    let left = g.I.Source.left in
    let last_read = g.I.Source.last_read in
    GivesAtMost-then c.args.input.now.spare c.take_line.new.input.spare (left c.args.source.now) (left c.take_line.new.source)
    (left c.take_text.new.source) (last_read c.args.source.now) (last_read c.take_line.new.source) (last_read c.take_text.new.source)
    (omega (arith, c.in_ok-cut.ensures.taken.1.uses.counted)) c.in_ok-cut.ensures.brief c.in-Ok.ensures.brief

pub returns-in-Err-clause-asked : goal.returns-in-Err-clause-asked
returns-in-Err-clause-asked g c =
    let most_asked = g.I.Source.most_asked in
    asked_then c.args.input.now.spare c.take_line.new.input.spare (most_asked c.args.source.now) (most_asked c.take_line.new.source)
    (most_asked c.take_text.new.source) (omega (arith, c.in_ok-cut.ensures.taken.1.uses.counted)) c.in_ok-cut.ensures.asked c.in-Err.ensures.asked

pub returns-in-Ok-clause-asked : goal.returns-in-Ok-clause-asked
returns-in-Ok-clause-asked g c =
    let most_asked = g.I.Source.most_asked in
    asked_then c.args.input.now.spare c.take_line.new.input.spare (most_asked c.args.source.now) (most_asked c.take_line.new.source)
    (most_asked c.take_text.new.source) (omega (arith, c.in_ok-cut.ensures.taken.1.uses.counted)) c.in_ok-cut.ensures.asked c.in-Ok.ensures.asked
