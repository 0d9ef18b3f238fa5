use Rattle.std.proofs.Common.{◌≡◌, List, ℕ, ap, sym, subst, ◌∙◌}
use Rattle.wu_part.specs.Directories.{PartDirectory}
use Rattle.wu_part.specs.Parts.{IsDirectoryOf, SpellsPart}
use Rattle.wu_part.proofs.LawLemmas.{one_directory}
use Rattle.wu_parts.specs.Flushing.{put_into}
use Rattle.wu_parts.proofs.writing.put_part.Goals as goal

pub returns-clause-put : goal.returns-clause-put
returns-clause-put g c =
    let bytes : List ℕ = c.in_ok-bytes.bytes.items in
    let made = c.in_ok-bytes.ensures.part in
    let put = c.in_ok-put_bytes.ensures.put in
    let directory : PartDirectory = c.in_ok-put_bytes.field-0.directory in
    let read : IsDirectoryOf directory bytes = subst (IsDirectoryOf directory) c.deref.ensures.value put.own in
    let same : directory ≡ made.0 = one_directory directory made.0 bytes read made.2.own in
    record {
      bytes = bytes;
      blob_of = put.blob_of;
      told = put.told;
      new = ap (λ (d : PartDirectory). d.generation) same ∙ made.1;
      spelled = subst (λ (d : PartDirectory). SpellsPart d c.args.lists.lists bytes) (sym same) made.2;
      stored =
          put.stored
          ∙ ap (λ (l : List ℕ). put_into c.args.blob l (g.D.Store.holds c.args.store.now, g.D.Store.moments c.args.store.now))
          c.deref.ensures.value;
    }
