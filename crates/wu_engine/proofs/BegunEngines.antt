-- An engine that was opened is that of the checkpoint that the root names.
use Rattle.std.proofs.Common.{◌≡◌, refl, sym, ◌∙◌, subst}
use Rattle.std.specs.Prelude.{Option, Some, None, IfSome}
use Rattle.wu_outside.specs.Content.{Content}
use Rattle.wu_parts.specs.Contents.{Contents}
use Rattle.wu_image.specs.declared.checkpoints.Checkpoint.{Checkpoint}
use Rattle.wu_image.specs.declared.roots.Root.{Root}
use Rattle.wu_engine.specs.declared.engines.Engine.{Engine}
use Rattle.wu_engine.specs.Opened.{FindsRoot, IsEngineFor, IsEngineSaved}
use Rattle.wu_engine.specs.Opening.{HasCheckpoint, HasRoot}
use Rattle.wu_engine.proofs.EarlierBlobs.{root_again}

pub saved_engine : (holds : Option Content) (root : Root) (checkpoint : Checkpoint) (parts : Contents) (engine : Engine)
    → IfSome holds (λ content. HasCheckpoint content root checkpoint) → IsEngineFor root.checkpoint checkpoint parts engine
    → IfSome holds (λ content. IsEngineSaved content root engine)
saved_engine None root checkpoint parts engine has is = tt
saved_engine (Some content) root checkpoint parts engine has is = record {
  checkpoint = checkpoint;
  saved = has;
  its = record {
    tree = is.tree;
    space = is.space;
    files = is.files;
    parts_kept = refl;
    frames = is.frames;
    of_blob = is.of_blob;
    goes_on = is.goes_on;
  };
}

pub saved_by_root : (holds : Option Content) (root : Root) (engine : Engine) → IfSome holds (FindsRoot (Some root))
    → IfSome holds (λ content. IsEngineSaved content root engine)
    → IfSome holds (λ content. (other : Root) → HasRoot content other → IsEngineSaved content other engine)
saved_by_root None root engine found is = tt
saved_by_root (Some content) root engine found is = λ other has.
    subst (λ (r : Root). IsEngineSaved content r engine) (root_again content root other found.has has) is

pub saved_without : (holds : Option Content) (engine : Engine) → IfSome holds (FindsRoot None)
    → IfSome holds (λ content. (root : Root) → HasRoot content root → IsEngineSaved content root engine)
saved_without None engine found = tt
saved_without (Some content) engine found = λ root has. let never : None ≡ Some has.code = sym found ∙ has.there in absurd cc
