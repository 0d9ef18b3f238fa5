use Rattle.std.proofs.Common.{sym, ◌∙◌, arith}
use Rattle.wu_image.proofs.RootLemmas.{eight_bytes_of_one, numbers_stand, root_read}
use Rattle.wu_image.proofs.roots.read_root.Goals as goal

pub returns-then-may_name-clause-found : goal.returns-then-may_name-clause-found
returns-then-may_name-clause-found c =
    root_read c.args.bytes.now _ (omega (arith, c.if-bytes-ne-ROOT_LEN.false))
    c.in-Some.ensures.found.0 c.in-Some.ensures.found.1
    c.number_at.ensures c.number_at-2.ensures c.number_at-3.ensures c.number_at-4.ensures c.if-may_name.ensures.0 c.if-may_name.ensures.1
    (omega arith) (omega arith) (omega arith)

pub returns-else-may_name-clause-none : goal.returns-else-may_name-clause-none
returns-else-may_name-clause-none c root s =
    let st = numbers_stand root c.args.bytes.now s in
    let drawn = s.drawn in
    let fits = s.blob_fits in
    let checkpoint = eight_bytes_of_one c.number_at.result root.checkpoint (omega arith) (omega arith)
    (c.number_at.ensures ∙ st.checkpoint) in
    let blob = eight_bytes_of_one c.number_at-4.result root.next_blob (omega arith) fits (c.number_at-4.ensures ∙ st.next_blob) in
    let some = s.some in
    c.if-may_name.ensures (omega arith) (omega arith)

pub returns-in_default-clause-none : goal.returns-in_default-clause-none
returns-in_default-clause-none c root s =
    let st = numbers_stand root c.args.bytes.now s in
    c.in_default.ensures.none root.version s.version (sym st.mark)
