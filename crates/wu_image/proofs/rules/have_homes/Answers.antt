use Rattle.std.proofs.Common.{ℕ, ◌-◌, ◌<◌, get_or, set, refl, ap, ◌∙◌, arith}
use Rattle.wu_image.specs.declared.records.FileRec.{FileRec}
use Rattle.wu_image.proofs.RuleLemmas.{all_has_at, no_file, no_part}
use Rattle.wu_image.proofs.HomeLemmas.{all_files_asked, get_or_any, homeless, one_file_asked, stored_at, too_long}
use Rattle.wu_image.proofs.rules.have_homes.Goals as goal

pub loop-file-init : goal.loop-file-init
loop-file-init c = stored_at c.args.files.now c.args.parts.now _ c.in_ok-room.ensures

pub home_of-requires-clause-filled : goal.home_of-requires-clause-filled
home_of-requires-clause-filled c =
    all_has_at (λ (f : FileRec). 0 < f.range.len) c.args.files.now c.loop-file.file-index no_file c.requires.filled c.loop-file-test.true

pub returns-in_default : goal.returns-in_default
returns-in_default c = λ h.
    homeless c.args.files.now c.args.parts.now c.loop-file.file-index (get_or c.args.files.now c.loop-file.file-index no_file) no_file
    c.loop-file-test.true refl c.in_default.ensures.none h

pub returns-then-index-file : goal.returns-then-index-file
returns-then-index-file c = λ h.
    let long = c.loop-file.invariant.long in
    let inside = c.in-Some.ensures.found.0 in
    let is = c.index.ensures ∙ get_or_any c.loop-file.room.items c.in-Some.place _ 0 (omega arith) in
    too_long c.args.files.now c.args.parts.now c.loop-file.file-index c.in-Some.place
    (get_or c.args.files.now c.loop-file.file-index no_file) no_file no_part _ c.loop-file.invariant c.loop-file-test.true refl inside
    (c.in-Some.ensures.found.1 no_part) (omega arith) h

pub loop-file-preserved : goal.loop-file-preserved
loop-file-preserved c =
    let long = c.loop-file.invariant.long in
    let inside = c.in-Some.ensures.found.0 in
    let file = get_or c.args.files.now c.loop-file.file-index no_file in
    let is = c.index.ensures ∙ get_or_any c.loop-file.room.items c.in-Some.place _ 0 (omega arith) in
    let same = c.index_mut.ensures.value ∙ get_or_any c.loop-file.room.items c.in-Some.place _ 0 (omega arith) in
    let filled = all_has_at (λ (f : FileRec). 0 < f.range.len) c.args.files.now c.loop-file.file-index no_file c.requires.filled
    c.loop-file-test.true in
    one_file_asked c.args.files.now c.args.parts.now c.loop-file.file-index c.requires.spans.0 c.in-Some.place file no_file no_part
    c.loop-file.room.items _ c.loop-file.invariant c.requires.spans.1 c.loop-file-test.true refl filled inside
    (c.in-Some.ensures.found.1 no_part)
    (omega arith) (ap (λ (n : ℕ). set c.loop-file.room.items c.in-Some.place (n - file.range.len)) same)

pub returns : goal.returns
returns c = all_files_asked c.args.files.now c.args.parts.now c.loop-file.file-index _ c.loop-file.invariant c.loop-file-test.false
