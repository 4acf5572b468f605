use Rattle.std.proofs.Common.{rules}
use Rattle.std.proofs.lemmas.Int.{wraps}
use Rattle.mc_apply_steps.proofs.compute.results.wrapped_difference.Goals as goal

pub returns : goal.returns
returns c = search (rules, wraps)
