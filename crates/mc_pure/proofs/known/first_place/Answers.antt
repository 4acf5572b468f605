use Rattle.std.proofs.Common.{◌≡◌}
use Rattle.mc_base.specs.declared.ids.NodeId.{NodeId}
use Rattle.mc_pure.proofs.Looping.{more}
use Rattle.mc_pure.proofs.Removing.{first_found, none_found}
use Rattle.mc_pure.proofs.known.first_place.Goals as goal

pub loop-i-preserved : goal.loop-i-preserved
loop-i-preserved c = more c.args.starts.now (λ (x : NodeId). x.0 ≡ c.args.at.0 → ⊥) c.loop-i.i (record { 0 = 0 }) c.loop-i-test.true c.loop-i.invariant c.if-starts-i.false

pub returns-then-starts-i : goal.returns-then-starts-i
returns-then-starts-i c = (c.loop-i-test.true, first_found c.args.starts.now c.args.at c.loop-i.i (record { 0 = 0 }) c.loop-i-test.true c.loop-i.invariant c.if-starts-i.true)

pub returns : goal.returns
returns c = none_found c.args.starts.now c.args.at c.loop-i.i c.loop-i-test.false c.loop-i.invariant
