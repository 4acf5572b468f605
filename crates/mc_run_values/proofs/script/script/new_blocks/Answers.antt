use Rattle.std.proofs.Common.{◌≡◌, ◌∙◌, Some, ap, arith, sym}
use Rattle.std.specs.Prelude.{option_map}
use Rattle.mc_run_values.specs.Script.Models.{block}
use Rattle.mc_run_values.specs.Script.Scripts.{block_in}
use Rattle.mc_run_values.proofs.ScriptLemmas.Blocks.{one_made}
use Rattle.mc_run_values.proofs.script.script.new_blocks.Goals as goal

pub loop-named-preserved : goal.loop-named-preserved
loop-named-preserved c =
    let is : block_in c.args.structs.now c.named-item.result ≡ Some (block c.in-Some.block) = sym c.in_ok-block.ensures ∙ ap (option_map block) c.in-Some.is in
    rw c.in_ok-push.ensures.items (c.loop-named.invariant ∙ one_made c.args.structs.now c.loop-named.made.items c.in-Some.block c.args.blocks.now c.loop-named.named-index c.named-item.result (omega arith) c.named-item.is is)
