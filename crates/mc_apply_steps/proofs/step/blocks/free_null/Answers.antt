use Rattle.std.proofs.Common.{◌≡◌, true, false}
use Rattle.mc_base.specs.Nodes.{null}
use Rattle.mc_state.specs.Known.{equal, is_false}
use Rattle.mc_apply_steps.specs.Step.Values.{value_node}
use Rattle.mc_apply_steps.proofs.StepLemmas.Answered.{freed_null}
use Rattle.mc_apply_steps.proofs.step.blocks.free_null.Goals as goal

pub returns-in-Ok : goal.returns-in-Ok
returns-in-Ok c = λ know tells.
    let s = c.args.s in
    let v = c.in-Some.value in
    let no : is_false know ≡ false = let told = c.is_false.ensures.told know tells in cc in
    let node = c.node_of.ensures in
    let zero : equal know (value_node s v) null ≡ true = let told = c.are_equal.ensures.told know tells in let yes = c.if-not-are_equal.false in cc in
    let gives = freed_null know s no c.args.from c.args.q v c.in-Some.ensures.here zero in
    let new = c.in-Ok.ensures.state in
    let moved = c.moved_to.ensures in
    cc
