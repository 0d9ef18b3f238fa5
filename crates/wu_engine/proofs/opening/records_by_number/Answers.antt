use Rattle.std.proofs.Common.{rules, tests}
use Rattle.std.specs.Cmp.{nat_cmp_total}
use Rattle.std.specs.Ordering.{nat_cmp}
use Rattle.std.specs.BTreeMap.{IsFromIterResult}
use Rattle.std.proofs.lemmas.Iterator.{YieldsList-from_map, YieldsList-from_slice}
use Rattle.std.proofs.lemmas.Iterator.Adapters.{fact_from_collect}
use Rattle.std.proofs.lemmas.Iterator.Consumers.{YieldsList-at}
use Rattle.std.proofs.lemmas.Map.Lookups.{exact_unsigned}
use Rattle.std.proofs.lemmas.Result.{IfOk-at_ok}
use Rattle.wu_tree.proofs.MadeMaps.{made_entries}
use Rattle.wu_image.specs.declared.records.FileRec.{FileRec}
use Rattle.wu_engine.specs.Opened.{numbered}
use Rattle.wu_engine.proofs.OpenedFiles.{records_ascend}
use Rattle.wu_engine.proofs.opening.records_by_number.Goals as goal

pub returns : goal.returns
returns c =
    let files = c.args.files.now in
    let collected : IsFromIterResult nat_cmp (numbered files) c.in_ok-records.records =
    IfOk-at_ok (IsFromIterResult nat_cmp (numbered files)) c.in_ok-records.was
    (fact_from_collect (IsFromIterResult nat_cmp) c.collect.result c.collect.ensures.ran
    (YieldsList-from_map _ (λ (file : FileRec). (file.ino, file))
    (YieldsList-at c.map.ensures.source (YieldsList-from_slice files c.iter.ensures.rest))
    c.map.ensures.closure (λ x r q k. search (rules, tests)))) in
    made_entries nat_cmp_total exact_unsigned (numbered files) c.in_ok-records.records (records_ascend files c.requires) collected
