use Rattle.std.proofs.Common.{◌≡◌, ℕ, List, length, rules}
use Rattle.std.specs.Prelude.{IfSome}
use Rattle.wu_layout.proofs.EntryLemmas.{IfSome-map}
use Rattle.wu_part.specs.declared.headers.TheConstants.{HEADER_LEN}
use Rattle.wu_parts.specs.OpenedParts.{CannotBeOpened, HasBytesAt, IsDirectoryIn}
use Rattle.wu_parts.proofs.OpenedLemmas.{directory-in, no-directory-in, none-map}
use Rattle.wu_parts.proofs.loading.directory_after.Goals as goal

pub returns-in_ok-keep_directory-in-Some-clause-found : goal.returns-in_ok-keep_directory-in-Some-clause-found
returns-in_ok-keep_directory-in-Some-clause-found g c =
    let holds = g.D.Store.holds c.args.store.now in
    let recorded = c.args.recorded.now in
    let bytes : List ℕ = c.in-Some.bytes.items in
    let long : length bytes ≡ c.args.length = search rules in
    let has : IfSome holds (λ content. HasBytesAt (content.blobs recorded.blob) HEADER_LEN bytes) = search rules in
    IfSome-map _ (λ directory. IsDirectoryIn holds recorded directory c.args.length) c.in_ok-keep_directory-in-Some.field-0
    (λ directory s.
    directory-in holds recorded c.args.length bytes long c.requires.header.told has directory c.requires.size s.0 s.1)
    c.in_ok-keep_directory-in-Some.ensures.found

pub returns-in_ok-keep_directory-in-Some-clause-none : goal.returns-in_ok-keep_directory-in-Some-clause-none
returns-in_ok-keep_directory-in-Some-clause-none g c =
    let holds = g.D.Store.holds c.args.store.now in
    let recorded = c.args.recorded.now in
    let bytes : List ℕ = c.in-Some.bytes.items in
    let long : length bytes ≡ c.args.length = search rules in
    let has : IfSome holds (λ content. HasBytesAt (content.blobs recorded.blob) HEADER_LEN bytes) = search rules in
    none-map c.in_ok-keep_directory-in-Some.field-0 _ (CannotBeOpened holds recorded)
    (λ none. no-directory-in holds recorded c.args.length bytes long c.requires.header.told has none)
    c.in_ok-keep_directory-in-Some.ensures.none
