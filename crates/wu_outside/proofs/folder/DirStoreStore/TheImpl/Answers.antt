use Rattle.std.proofs.Common.{refl}
use Rattle.wu_outside.specs.Crash.{settle}
use Rattle.wu_outside.proofs.Untold.{untold_step, untold_write, untold_sync}
use Rattle.wu_outside.proofs.folder.DirStoreStore.TheImpl.Goals as goal

pub put-tells : goal.put-tells
put-tells g c = search (untold_write) depth 4

pub remove-tells : goal.remove-tells
remove-tells g c = search (untold_step) depth 4

pub sync-tells : goal.sync-tells
sync-tells g c = record { same = refl; unread = refl; settled = untold_sync settle c.result; cause = c.ensures.cause }
