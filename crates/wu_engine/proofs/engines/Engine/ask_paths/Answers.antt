use Rattle.std.proofs.Common.{inl, inr, refl}
use Rattle.wu_engine.proofs.CallEnds.{had_ended}
use Rattle.wu_engine.proofs.ListedPaths.{listed_for}
use Rattle.wu_engine.proofs.QueryStands.{goes_asked}
use Rattle.wu_engine.proofs.StandLemmas.{stands_still}
use Rattle.wu_engine.proofs.engines.Engine.ask_paths.Goals as goal

pub keep_view-requires : goal.keep_view-requires
keep_view-requires c = (c.args.self.now.sound c.in_default.is).frames

pub returns-in-Ok-clause-answer : goal.returns-in-Ok-clause-answer
returns-in-Ok-clause-answer c = λ holds s stands. (
  listed_for s c.args.uid c.keep_view.new.kept c.args.self.now.tree stands.index.tree c.in-Ok.ensures.view,
  stands_still c.args.self.now _ s refl holds stands refl refl refl refl refl,
)

pub returns-in-Ok-clause-same : goal.returns-in-Ok-clause-same
returns-in-Ok-clause-same c = record { tree = refl; files = refl; space = refl; parts = refl; checkpoint = refl }

pub returns-in-Err-clause-same : goal.returns-in-Err-clause-same
returns-in-Err-clause-same c =
    let same = c.end_with.ensures.same in
    record { tree = same.tree; files = same.files; space = same.space; parts = same.parts; checkpoint = same.checkpoint }

pub returns-in-Ok-clause-ends : goal.returns-in-Ok-clause-ends
returns-in-Ok-clause-ends c = record {
  goes_on = refl;
  goes = λ holds start goes. goes_asked c.args.self.now _ start holds holds refl refl refl refl refl refl goes;
  ends = tt;
  again = λ trouble e. had_ended e c.in_default.is;
  cause = tt;
}

pub returns-in-Err-clause-ends : goal.returns-in-Err-clause-ends
returns-in-Err-clause-ends c = rw c.end_with.ensures.trouble (record {
  goes_on = tt;
  goes = λ holds start goes. tt;
  ends = c.end_with.ensures.ended;
  again = λ trouble e. had_ended e c.in_default.is;
  cause = inr refl;
})

pub returns-in-Some-clause-ends : goal.returns-in-Some-clause-ends
returns-in-Some-clause-ends c = record {
  goes_on = tt;
  goes = λ holds start goes. tt;
  ends = c.in-Some.is;
  again = λ trouble e. (cc (c.in-Some.is, e), refl);
  cause = inl c.in-Some.is;
}
