use Rattle.std.proofs.Common.{◌≡◌, [], ◌∷◌, sym, subst}
use Rattle.wu_layout.proofs.EntryLemmas.{IfSome-found, IfSome-map}
use Rattle.wu_part.specs.Directories.{PartDirectory}
use Rattle.wu_parts.specs.Loading.{IsLoadCause}
use Rattle.wu_parts.specs.OpenedParts.{IsDirectoryRead}
use Rattle.wu_parts.proofs.Asking.{answered}
use Rattle.wu_parts.proofs.OpenedLemmas.{cause-damaged, untold-or-none}
use Rattle.wu_parts.proofs.loading.open_part.Goals as goal

pub as_recorded-requires : goal.as_recorded-requires
as_recorded-requires g c =
    let recorded = c.args.recorded.now in
    IfSome-map
    (IsDirectoryRead (g.D.Store.holds c.args.store.now) recorded (g.D.Store.reads c.args.store.now)
    (g.D.Store.reads c.directory_in.new.store))
    (λ (directory : PartDirectory). directory.size ≡ recorded.size) c.in_ok-found.found
    (λ directory read. read.found.size) c.in_ok-found.ensures.found

pub returns-clause-opened : goal.returns-clause-opened
returns-clause-opened g c =
    let part = c.in_ok-as_recorded.ensures.ok in
    let read = IfSome-found
    (IsDirectoryRead (g.D.Store.holds c.args.store.now) c.args.recorded.now (g.D.Store.reads c.args.store.now)
    (g.D.Store.reads c.directory_in.new.store))
    c.in_ok-found.found c.in_ok-as_recorded.field-0.directory part.1 c.in_ok-found.ensures.found in
    record {
      same = part.0;
      spelled = read.found.spelled;
      directory_length = read.directory_length;
      opened = record { told = part.2; own = read.found.own };
      read = read.read;
    }

pub returns-in_err-as_recorded-clause-cause : goal.returns-in_err-as_recorded-clause-cause
returns-in_err-as_recorded-clause-cause g c =
    let recorded = c.args.recorded.now in
    let holds = g.D.Store.holds c.args.store.now in
    let before = g.D.Store.faults c.args.store.now in
    let now = g.D.Store.faults c.directory_in.new.store in
    let reads = g.D.Store.reads c.args.store.now in
    let reads_now = g.D.Store.reads c.directory_in.new.store in
    let err = c.in_err-as_recorded.ensures.err in
    answered (IsLoadCause holds (recorded ∷ []) before now reads reads_now) c.from_residual-in_err-as_recorded.result c.in_err-as_recorded.field-0.0
    c.from_residual-in_err-as_recorded.ensures.1
    (subst (IsLoadCause holds (recorded ∷ []) before now reads reads_now) (sym err.0)
    (cause-damaged holds recorded before now reads reads_now c.in_ok-found.ensures.calm c.in_ok-found.ensures.read
    (untold-or-none holds recorded reads reads_now c.in_ok-found.found
    c.in_ok-found.ensures.found c.in_ok-found.ensures.none err.1)))
