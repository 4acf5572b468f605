use Rattle.std.proofs.Common.{sym, subst}
use Rattle.mc_pure.specs.Pure.{IsWellFormed}
use Rattle.mc_apply_steps.proofs.compute.results.assume_in.Goals as goal

pub assume-requires : goal.assume-requires
assume-requires c = subst (IsWellFormed c.args.s.now.kinds) (sym c.in_ends-atom.ensures) (c.requires, c.args.low.low_end, c.args.high.high_end)
