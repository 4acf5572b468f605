use Rattle.std.proofs.Common.{refl, sym, subst, length, List, ◌<◌}
use Rattle.mc_base.specs.declared.ids.NodeId.{NodeId}
use Rattle.mc_pure.specs.Known.{pure_of}
use Rattle.mc_pure.specs.Steps.{StartSettled, StartWithin}
use Rattle.mc_pure.proofs.Asking.{start_node}
use Rattle.mc_pure.proofs.Looping.{start_outside, stepped_map}
use Rattle.mc_pure.proofs.close.recheck_start.Goals as goal

pub row_of-row-requires-clause-there : goal.row_of-row-requires-clause-there
row_of-row-requires-clause-there c =
    let e = c.as_slice-starts.ensures.value in
    start_node (pure_of c.args.known.now) c.args.rows.now c.as_slice-starts.result.now c.args.i _ c.requires.sound e (subst (λ (z : List NodeId). c.args.i < length z) (sym e) c.requires.inside)

pub returns-then-is_within : goal.returns-then-is_within
returns-then-is_within c = stepped_map (pure_of c.args.known.now) c.args.rows.now c.recheck_pairs.new.rows (StartSettled (pure_of c.args.known.now) c.args.rows.now c.args.i) (StartWithin (pure_of c.args.known.now) c.args.rows.now c.args.scope.now c.args.i) c.recheck_pairs.result (λ h a f w. h) c.recheck_pairs.ensures

pub returns-else-is_within : goal.returns-else-is_within
returns-else-is_within c =
    let e = c.as_slice-starts.ensures.value in
    (refl, start_outside (pure_of c.args.known.now) c.args.rows.now c.args.scope.now c.as_slice-starts.result.now c.args.i _ c.row_of-row.result e (subst (λ (z : List NodeId). c.args.i < length z) (sym e) c.requires.inside) c.row_of-row.ensures.is (c.is_within.ensures.no c.if-is_within.false))
