use Rattle.std.proofs.Common.{None, sym, subst, arith}
use Rattle.mc_pure.specs.Pure.{IsNode}
use Rattle.mc_state.specs.State.{State}
use Rattle.mc_state_io.proofs.RawLemmas.Built.{var_there, vars_step, vars_done}
use Rattle.mc_state_io.proofs.raw.building.put_vars.Goals as goal

pub set_var-requires : goal.set_var-requires
set_var-requires c = λ n e. subst (λ (z : State). IsNode z.kinds n) (sym c.loop-i.invariant) (var_there c.args.state.now.kinds c.args.nodes.now c.loop-i.i None (omega arith) c.requires.there n e)

pub loop-i-preserved : goal.loop-i-preserved
loop-i-preserved c = vars_step c.loop-i.state c.args.state.now c.set_var.new.self c.args.nodes.now c.loop-i.i _ (omega arith) c.requires.long c.loop-i.invariant c.set_var.ensures

pub returns : goal.returns
returns c = vars_done c.loop-i.state c.args.state.now c.args.nodes.now c.loop-i.i (omega arith) c.requires.long c.loop-i.invariant
