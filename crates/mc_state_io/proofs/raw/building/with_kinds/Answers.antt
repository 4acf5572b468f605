use Rattle.std.proofs.Common.{sym, ◌∙◌, arith}
use Rattle.mc_state_io.proofs.RawLemmas.Built.{begun_first, begun_end, kinds_step}
use Rattle.mc_state_io.proofs.raw.building.with_kinds.Goals as goal

pub loop-i-init : goal.loop-i-init
loop-i-init c = record { from = omega arith; is = c.in_ok-state.ensures ∙ sym (begun_first c.args.vars c.args.kinds.now c.requires) }

pub loop-i-preserved : goal.loop-i-preserved
loop-i-preserved c = record {
  from = omega arith;
  is = kinds_step c.args.vars c.args.kinds.now c.loop-i.i _ c.loop-i.state c.add_kind.new.state c.requires c.loop-i.invariant.from (omega arith) c.loop-i.invariant.is c.in_ok-add_kind.ensures;
}

pub returns : goal.returns
returns c = c.loop-i.invariant.is ∙ begun_end c.args.vars c.args.kinds.now c.loop-i.i (omega arith)
