use Rattle.std.proofs.Common.{◌-◌, ◌^◌, ◌++◌, ℕ, List, filter, drop, ap, sym, ◌∙◌, subst, arith, append-nil}
use Rattle.std.specs.List.Sorted.{IsNonDecreasingBy}
use Rattle.std.proofs.lemmas.List.{take_rest}
use Rattle.wu_base.specs.declared.addresses.Range.{Range}
use Rattle.wu_layout.specs.Postings.{is_live}
use Rattle.wu_lists.specs.Gathering.{Leaves}
use Rattle.wu_lists.specs.declared.blocks.Block.{Block}
use Rattle.wu_lists.proofs.Copies.{cut_rest, first_ascend, first_copied, lasts_rise, later_copied, left_ascend, left_copied, left_same}
use Rattle.wu_lists.proofs.Copies.{none_in, rest_ascend}
use Rattle.wu_lists.proofs.gathering.put_blocks.Goals as goal

abbrev none : Block
none = record { blob = 0; low = 0; count = 0; first = 0; last = 0; at = 0; len = 0 }

pub put_block-requires-clause-copied : goal.put_block-requires-clause-copied
put_block-requires-clause-copied c =
    first_copied c.args.bytes.now (2 ^ 64 - 1) c.loop-rest.rest.now none (omega arith) c.loop-rest.invariant.copied

pub put_block-requires-clause-ascend : goal.put_block-requires-clause-ascend
put_block-requires-clause-ascend c =
    first_ascend c.args.bytes.now (2 ^ 64 - 1) c.loop-rest.rest.now none (omega arith) c.loop-rest.invariant.ascend

pub blocks_for-rest-requires-clause-rise : goal.blocks_for-rest-requires-clause-rise
blocks_for-rest-requires-clause-rise c =
    lasts_rise c.args.bytes.now 0 (2 ^ 64 - 1) c.args.blocks.now c.requires.copied c.requires.ascend

pub blocks_for-rest-requires-in-len1-up-clause-rise : goal.blocks_for-rest-requires-in-len1-up-clause-rise
blocks_for-rest-requires-in-len1-up-clause-rise c =
    let bytes : List ℕ = c.args.bytes.now in
    let rest : List Block = c.loop-rest.rest.now in
    subst (IsNonDecreasingBy (λ (block : Block). block.last)) (sym (take_rest rest 1))
    (lasts_rise bytes 0 (2 ^ 64 - 1) (drop 1 rest) (later_copied bytes (2 ^ 64 - 1) rest c.loop-rest.invariant.copied)
    (rest_ascend bytes (2 ^ 64 - 1) rest none (omega arith) c.loop-rest.invariant.copied c.loop-rest.invariant.ascend))

pub loop-rest-init : goal.loop-rest-init
loop-rest-init c =
    let bytes : List ℕ = c.args.bytes.now in
    let frames : List Range = c.args.frames.now in
    let blocks : List Block = c.args.blocks.now in
    let left : List Block = c.blocks_for-rest.result.now in
    record {
      made =
          ap (λ (l : List ℕ). c.args.found.now.items ++ l)
          (left_same bytes (2 ^ 64 - 1) frames blocks left c.blocks_for-rest.ensures c.requires.copied);
      copied = left_copied bytes (2 ^ 64 - 1) frames blocks left c.blocks_for-rest.ensures c.requires.copied;
      ascend = left_ascend bytes (2 ^ 64 - 1) frames blocks left c.blocks_for-rest.ensures c.requires.ascend;
      order = c.requires.order;
    }

pub loop-rest-preserved : goal.loop-rest-preserved
loop-rest-preserved c =
    let bytes : List ℕ = c.args.bytes.now in
    let rest : List Block = c.loop-rest.rest.now in
    let nearer : List Range = c.frames_from-left.result.now in
    let later : List Block = drop 1 rest in
    let left : List Block = c.blocks_for-rest-in-len1-up.result.now in
    let copied = later_copied bytes (2 ^ 64 - 1) rest c.loop-rest.invariant.copied in
    let leaves : Leaves nearer later left =
    subst (λ (blocks : List Block). Leaves nearer blocks left) (take_rest rest 1) c.blocks_for-rest-in-len1-up.ensures in
    record {
      made =
          ap (λ (l : List ℕ). c.put_block.new.found.items ++ l)
          (left_same bytes (2 ^ 64 - 1) nearer later left leaves copied)
          ∙ cut_rest bytes (2 ^ 64 - 1) rest none (omega arith) c.loop-rest.invariant.copied c.loop-rest.invariant.ascend
          c.loop-rest.left.now nearer c.loop-rest.found.items c.put_block.new.found.items
          c.frames_from-left.ensures.live c.in_ok-put_block.ensures
          ∙ c.loop-rest.invariant.made;
      copied = left_copied bytes (2 ^ 64 - 1) nearer later left leaves copied;
      ascend =
          left_ascend bytes (2 ^ 64 - 1) nearer later left leaves
          (rest_ascend bytes (2 ^ 64 - 1) rest none (omega arith) c.loop-rest.invariant.copied c.loop-rest.invariant.ascend);
      order = c.frames_from-left.ensures.order;
    }

pub returns : goal.returns
returns c =
    sym (append-nil c.loop-rest.found.items)
    ∙ ap (λ (l : List ℕ). c.loop-rest.found.items ++ filter (is_live c.loop-rest.left.now) l)
    (sym (none_in c.args.bytes.now (2 ^ 64 - 1) c.loop-rest.rest.now (omega arith)))
    ∙ c.loop-rest.invariant.made
