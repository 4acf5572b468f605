use Rattle.std.proofs.Common.{◌+◌}
use Rattle.mc_apply_unfold.proofs.Items.{rest_whole}
use Rattle.mc_apply_unfold.proofs.opening.calls_behind.Goals as goal

pub returns : goal.returns
returns c = rest_whole c.args.calls.now (c.args.place + 1)
