use Rattle.mc_apply_fold.proofs.FoldLemmas.Lists.{rest_whole}
use Rattle.mc_apply_fold.proofs.fold.calls.from.Goals as goal

pub returns : goal.returns
returns c = rest_whole c.args.ids.now c.args.place
