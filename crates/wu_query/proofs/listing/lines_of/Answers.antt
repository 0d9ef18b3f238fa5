use Rattle.std.proofs.Common.{map}
use Rattle.wu_rank.specs.declared.results.Ranked.{Ranked}
use Rattle.wu_query.specs.Answer.{line_of}
use Rattle.wu_query.specs.Units.{in_its_file}
use Rattle.wu_query.specs.View.{shown_of}
use Rattle.wu_query.proofs.AnswerLemmas.{lines_more, lines_all}
use Rattle.wu_query.proofs.listing.lines_of.Goals as goal

pub loop-i-preserved : goal.loop-i-preserved
loop-i-preserved c = λ texts.
    lines_more (λ (r : Ranked). line_of (map (shown_of texts) c.args.view.now) (in_its_file c.args.space.now.ranges c.args.view.now r))
    c.loop-i.lines.items c.push.new.self.items c.args.top.now c.loop-i.i _ c.in_ok-line_of.field-0 c.loop-i-test.true
    (c.loop-i.invariant texts)
    c.in_ok-push.ensures.items (c.in_ok-line_of.ensures texts)

pub returns : goal.returns
returns c = λ texts.
    lines_all (λ (r : Ranked). line_of (map (shown_of texts) c.args.view.now) (in_its_file c.args.space.now.ranges c.args.view.now r))
    c.loop-i.lines.items c.args.top.now c.loop-i.i c.loop-i-test.false (c.loop-i.invariant texts)
