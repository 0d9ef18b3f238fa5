use Rattle.std.proofs.Common.{◌≡◌, true, ap, sym, ◌∙◌, arith}
use Rattle.wu_view.specs.Views.{is_open}
use Rattle.wu_view.proofs.LinkPaths.{root_open}
use Rattle.wu_access.specs.declared.Want.TheVariants.{Execute}
use Rattle.wu_view.specs.Views.{may}
use Rattle.wu_frames.specs.Permissions.{user_in}
use Rattle.wu_frames.proofs.OpenDirectories.{depth-above, open-above, open-alone, open-closed}
use Rattle.wu_frames.proofs.links.is_open.Goals as goal

pub returns-then-current-eq-ROOT : goal.returns-then-current-eq-ROOT
returns-then-current-eq-ROOT c =
    let root = c.if-current-eq-ROOT.true in
    let passed : may c.args.tree.now (user_in c.args.tree.now c.args.uid) Execute 1 ≡ true =
    ap (λ q. may c.args.tree.now (user_in c.args.tree.now c.args.uid) Execute q) (sym root)
    ∙ sym c.may_pass.ensures ∙ c.loop-uid-test.true in
    sym
    (c.loop-uid.invariant.1 ∙ ap (λ q. is_open c.args.tree.now (user_in c.args.tree.now c.args.uid) q) root
    ∙ root_open c.args.tree.now c.keeps_the_rules.ensures (user_in c.args.tree.now c.args.uid) passed)

pub loop-uid-smaller : goal.loop-uid-smaller
loop-uid-smaller c =
    omega (
      arith,
      depth-above c.args.tree.now c.keeps_the_rules.ensures (user_in c.args.tree.now c.args.uid) c.loop-uid.current c.in-Some.parent
          c.loop-uid.invariant.0
          (sym c.parent.ensures.parent ∙ c.in-Some.is),
    )

pub loop-uid-preserved : goal.loop-uid-preserved
loop-uid-preserved c = (
  c.in-Some.ensures.directory,
  c.loop-uid.invariant.1
      ∙ open-above c.args.tree.now c.keeps_the_rules.ensures (user_in c.args.tree.now c.args.uid) c.loop-uid.current c.in-Some.parent
      c.loop-uid.invariant.0
      (sym c.parent.ensures.parent ∙ c.in-Some.is)
      (sym c.may_pass.ensures ∙ c.loop-uid-test.true),
)

pub returns-in-None : goal.returns-in-None
returns-in-None c =
    sym
    (c.loop-uid.invariant.1
    ∙ open-alone c.args.tree.now (user_in c.args.tree.now c.args.uid) c.loop-uid.current c.if-current-eq-ROOT.false
    (sym c.parent.ensures.parent ∙ c.in-None.is) (sym c.may_pass.ensures ∙ c.loop-uid-test.true))

pub returns : goal.returns
returns c =
    sym
    (c.loop-uid.invariant.1
    ∙ open-closed c.args.tree.now (user_in c.args.tree.now c.args.uid) c.loop-uid.current (sym c.may_pass.ensures ∙ c.loop-uid-test.false))
