use Rattle.std.proofs.Common.{◌+◌}
use Rattle.mc_apply_fold.proofs.FoldLemmas.Lists.{rest_whole}
use Rattle.mc_apply_fold.proofs.fold.calls.behind.Goals as goal

pub returns : goal.returns
returns c = rest_whole c.args.calls.now (c.args.place + 1)
