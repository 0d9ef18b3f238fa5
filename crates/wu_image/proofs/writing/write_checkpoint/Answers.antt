use Rattle.std.proofs.Common.{ℕ, List, ◌++◌, ap, ◌∙◌}
use Rattle.std.specs.Prelude.{codes}
use Rattle.wu_image.proofs.WritingLemmas.{items_written}
use Rattle.wu_image.proofs.writing.write_checkpoint.Goals as goal

pub returns : goal.returns
returns c = λ files layout. record {
  holds = record { tree = c.keeps_the_rules.ensures; files = files; layout = layout };
  spelled = items_written
      (record {
        next_address = c.args.next_address;
        next_blob = c.args.next_blob;
        flushes = c.args.flushes;
        tree = c.args.tree.now;
        files = c.args.files.now;
        parts = c.args.parts.now;
      })
      _ _ _ _ _ _ _ (c.in_ok-extend_from_slice.ensures.items ∙ ap (λ (l : List ℕ). l ++ codes "WUMPUSC2") c.new-out.ensures.items)
      c.in_ok-put_numbers.ensures c.in_ok-put_users.ensures c.in_ok-put_nodes.ensures c.in_ok-put_links.ensures c.in_ok-put_parts.ensures
      c.in_ok-put_acls.ensures;
}
