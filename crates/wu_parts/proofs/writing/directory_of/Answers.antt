use Rattle.std.proofs.Common.{◌≡◌, ℕ, List, Option, None, Some, length, take, refl, sym, subst}
use Rattle.std.specs.Prelude.{IfNone, IfSome, IsSome}
use Rattle.wu_part.specs.Directories.{PartDirectory, SpellsDirectory}
use Rattle.wu_part.specs.Headers.{SpellsHeader}
use Rattle.wu_parts.proofs.ReadingBack.{code_spelled, directory_is}
use Rattle.wu_parts.proofs.writing.directory_of.Goals as goal

of_some : {X : Type 0} (o : Option X) (x : X) (P : X → Type 0) → o ≡ Some x → IfSome o P → P x
of_some o x P e h = subst (λ o. IfSome o P) e h

pub unwrap-requires : goal.unwrap-requires
unwrap-requires c =
    let bytes : List ℕ = c.args.bytes.now in
    let header : List ℕ = c.split_at.result.0.now in
    let rest : List ℕ = c.split_at.result.1.now in
    let n : ℕ = c.unwrap-length.result in
    let s : SpellsHeader n header =
    of_some c.read_header.result n (λ length. SpellsHeader length header) c.unwrap-length.ensures c.read_header.ensures.found in
    elim c.in_ok-read.read as
    (λ read. IfNone read ((d : PartDirectory) → SpellsDirectory d (take n rest) → d.size ≡ length bytes → ⊥) → IsSome read) [
      | None ↦ λ none.
          absurd
          (none c.requires.0 (code_spelled bytes c.requires.0 c.requires.1 header rest n c.split_at.ensures.front c.split_at.ensures.back s)
          (sym c.requires.1.size))
      | Some read ↦ λ none. refl
    ] c.in_ok-read.ensures.none

pub returns : goal.returns
returns c =
    let bytes : List ℕ = c.args.bytes.now in
    let header : List ℕ = c.split_at.result.0.now in
    let rest : List ℕ = c.split_at.result.1.now in
    let n : ℕ = c.unwrap-length.result in
    let s : SpellsHeader n header =
    of_some c.read_header.result n (λ length. SpellsHeader length header) c.unwrap-length.ensures c.read_header.ensures.found in
    let read = of_some c.in_ok-read.read c.unwrap.result
    (λ (d : PartDirectory). SpellsDirectory d (take n rest) × (d.size ≡ length bytes)) c.unwrap.ensures c.in_ok-read.ensures.found in
    directory_is bytes c.requires.0 c.requires.1 header rest n c.split_at.ensures.front c.split_at.ensures.back s c.unwrap.result read.0
    read.1
