use Rattle.std.proofs.Common.{◌≡◌, ◌∙◌, ap, ap₂, map, refl, rules, Some}
use mir.Syntax.{w64}
use mir.Val.{to_z, of_z}
use Rattle.mc_flow.specs.Heap.Heap.{Heap}
use Rattle.mc_semantics.specs.Resolved.Configs.{Tasks, Values, with_variable}
use Rattle.mc_run_values.specs.Script.Models.{block}
use Rattle.mc_run_values.specs.Tasks.Going.{tasks_of, values_of}
use Rattle.mc_run.proofs.Blocks.{free_alone}
use Rattle.mc_run.proofs.Changing.{at_config}
use Rattle.mc_run.proofs.commands.add_shape.Goals as goal

pub returns-then-not-branch : goal.returns-then-not-branch
returns-then-not-branch c = (refl, λ allowed. (let met = c.in_ok-meets_alone.ensures.1 (free_alone c.args.machine.now.heap (map block c.args.given.now.blocks) allowed.0, allowed.1) in let unmet = c.if-not-branch.true in cc))

pub returns-then-not-branch-2 : goal.returns-then-not-branch-2
returns-then-not-branch-2 c = (refl, λ allowed. (let all = rw c.as_slice.ensures at c.in_ok-add_blocks.ensures.free in let free = all.1 allowed.0 in let taken = c.if-not-branch-2.true in cc))

pub returns : goal.returns
returns c =
    let before = c.args.machine.now in
    let free = rw c.as_slice.ensures at c.in_ok-add_blocks.ensures.free in
    let d : to_z w64 (of_z w64 c.args.given.now.value) ≡ c.args.given.now.value = search rules in
    let held = rw d at c.put_value.ensures.values in
    let added = rw c.as_slice.ensures at (c.in_ok-add_blocks.ensures.added c.if-not-branch-2.false) in (
      (free.0 c.if-not-branch-2.false, (c.in_ok-meets_alone.ensures.0 c.if-not-branch.false).1),
      ap₂ (λ (t : Tasks) (v : Values). at_config t v c.add_blocks.new.heap) c.put_value.ensures.tasks held
          ∙ ap (λ (h : Heap). at_config (tasks_of before.work) (with_variable (values_of before.work) c.args.shape.now.variable (Some c.args.given.now.value)) h) added,
    )
