use Rattle.std.proofs.Common.{◌≡◌, ◌∙◌, arith}
use Rattle.wu_rank.specs.Bm25.{weigh}
use Rattle.wu_rank.proofs.Weights.{weigh-le, weigh-zero}
use Rattle.wu_rank.proofs.bm25.Ranker.weigh.Goals as goal

pub returns : goal.returns
returns g c =
    let e : c.weigh.result
    ≡ weigh c.args.idf c.args.f c.args.l c.args.self.now.n c.args.self.now.t =
    c.requires.weigher.answers _ _ _ _ c.requires.range c.weigh.ensures in
    record {
      value = e;
      bound = omega (arith, weigh-le c.args.idf c.args.f c.args.l c.args.self.now.n c.args.self.now.t);
      zero = λ h. e ∙ weigh-zero _ _ _ _ _ h;
    }
