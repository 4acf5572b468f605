use Rattle.std.proofs.Common.{◌≡◌, ◌≤◌, ◌-◌, length}
use Rattle.std.specs.FinMap as maps
use Rattle.mc_run.proofs.Filling.{filled_block}
use Rattle.mc_run.proofs.shapes.add_block.Given as goal

abbrev pub invariant-loop-field : goal.invariant-loop-field
invariant-loop-field l = record {
  within : l.field ≤ length l.fields;
  written : l.heap ≡ maps.insert l.initial.heap l.added.address (filled_block l.added.shape.0 l.field l.fields);
}

abbrev pub decreases-loop-field : goal.decreases-loop-field
decreases-loop-field l = length l.fields - l.field
