use Rattle.std.proofs.Common.{◌+◌, ap, Ok, arith, rules}
use Rattle.mc_run.proofs.Filling.{added_first, added_last, written_next}
use Rattle.mc_run.proofs.shapes.add_block.Goals as goal

pub loop-field-init : goal.loop-field-init
loop-field-init c = record {
  within = omega arith;
  written = added_first c.args.heap.now c.add.new.self c.args.added.now.address c.args.added.now.shape.0 c.as_slice-fields.result.now (c.in_ok-add.ensures.added (ap Ok c.if-not-branch.false));
}

pub loop-field-preserved : goal.loop-field-preserved
loop-field-preserved c = record {
  within = omega (arith, c.loop-field-test.true);
  written =
      written_next c.add.new.self c.loop-field.heap c.write.new.self c.args.added.now.address c.args.added.now.shape.0 c.loop-field.field c.as_slice-fields.result.now _ c.write.result (c.loop-field.field + 1) (omega arith)
      c.loop-field.invariant.written c.loop-field-test.true (search rules) c.write.ensures.there c.write.ensures.written;
}

pub returns-clause-added : goal.returns-clause-added
returns-clause-added c =
    λ yes. (
    let whole = added_last c.args.heap.now c.add.new.self c.loop-field.heap c.args.added.now.address c.args.added.now.shape.0 c.loop-field.field c.as_slice-fields.result.now (c.in_ok-add.ensures.added (ap Ok c.if-not-branch.false)) c.loop-field.invariant.written (omega (arith, c.loop-field-test.false, c.loop-field.invariant.within)) in
    rw c.as_slice-fields.ensures at whole)
