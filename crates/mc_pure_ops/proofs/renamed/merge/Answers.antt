use Rattle.mc_pure_ops.proofs.RenamedLemmas.Merges.{with_one, null_stays, merge_one_kind, all_merged}
use Rattle.mc_pure_ops.proofs.renamed.merge.Goals as goal

pub rename-requires-clause-null : goal.rename-requires-clause-null
rename-requires-clause-null c =
    let w = with_one c.new-renaming.result c.add.new.self c.args.keep c.args.gone c.in_ok-add.field-0 c.new-renaming.ensures c.in_ok-add.ensures.yes c.in_ok-add.ensures.other in
    null_stays c.add.new.self c.args.keep c.args.gone w c.requires.not_null

pub rename-requires-clause-kinds : goal.rename-requires-clause-kinds
rename-requires-clause-kinds c =
    let w = with_one c.new-renaming.result c.add.new.self c.args.keep c.args.gone c.in_ok-add.field-0 c.new-renaming.ensures c.in_ok-add.ensures.yes c.in_ok-add.ensures.other in
    merge_one_kind c.add.new.self c.args.pure.now.kinds c.args.keep c.args.gone w c.requires.differ c.requires.not_null c.requires.kind

pub returns : goal.returns
returns c =
    let w = with_one c.new-renaming.result c.add.new.self c.args.keep c.args.gone c.in_ok-add.field-0 c.new-renaming.ensures c.in_ok-add.ensures.yes c.in_ok-add.ensures.other in
    all_merged c.add.new.self c.args.pure.now c.in_ok-merged.merged c.args.keep c.args.gone w c.requires.differ c.requires.not_null c.requires.kind c.is_kept.ensures.rise c.in_ok-merged.ensures
