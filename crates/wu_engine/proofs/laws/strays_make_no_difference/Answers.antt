use Rattle.wu_outside.proofs.Survival.{put_leaves, remove_leaves, strays, sync_leaves}
use Rattle.wu_engine.specs.Crashes.{IsImageOf}
use Rattle.wu_engine.specs.Naming.{IsNamed}
use Rattle.wu_engine.proofs.LeftImages.{image_strays}
use Rattle.wu_engine.proofs.laws.strays_make_no_difference.Goals as goal

pub returns : goal.returns
returns c = record {
  strays = image_strays;
  put = λ s old new blob bytes result stray wrote now.
      put_leaves old new blob bytes result (IsImageOf s) wrote (strays (IsNamed s.layout) (IsImageOf s) blob (image_strays s) stray) now;
  removal = λ s old new blob result stray did now.
      remove_leaves old new blob result (IsImageOf s) did (strays (IsNamed s.layout) (IsImageOf s) blob (image_strays s) stray) now;
  sync = λ s old new result synced now. sync_leaves old new result (IsImageOf s) synced now;
}
