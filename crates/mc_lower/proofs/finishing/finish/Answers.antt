use Rattle.std.proofs.Common.{◌≡◌, List, sym, subst, map}
use Rattle.mc_flow.specs.declared.graph.Point.{Point}
use Rattle.mc_lower_spec.specs.Graphs.{head, merge, stop}
use Rattle.mc_lower_spec.specs.Lowering.{AreThresholds}
use Rattle.mc_lower.specs.declared.builder.Draft.{Draft}
use Rattle.mc_lower.specs.Finished.{AreThose, point_at}
use Rattle.mc_lower.specs.Worlds.{point_in}
use Rattle.mc_lower.proofs.finishing.finish.Goals as goal

pub returns : goal.returns
returns c =
    let table = c.in_ok-table.table.items in
    let points : c.in_ok-points.points ≡ map (point_in (point_at table)) c.args.builder.lines.points.items = rw c.as_slice-5.ensures.value at c.in_ok-points.ensures in
    let known = rw c.as_slice-4.ensures.value at (c.in_ok-thresholds.ensures (point_at table)) in
    record {
      table = table;
      settled = record { marks = c.in_ok-table.ensures.marks; apart = c.in_ok-table.ensures.apart };
      points = points;
      vars = c.in_ok-vars.ensures;
      structs = c.in_ok-structs.ensures;
      heads = subst (λ (ds : List Draft). AreThose ds head c.in_ok-heads.heads) c.as_slice.ensures.value c.in_ok-heads.ensures;
      merges = subst (λ (ds : List Draft). AreThose ds merge c.in_ok-merges.merges) c.as_slice-2.ensures.value c.in_ok-merges.ensures;
      stops = subst (λ (ds : List Draft). AreThose ds stop c.in_ok-stops.stops) c.as_slice-3.ensures.value c.in_ok-stops.ensures;
      thresholds = subst (λ (ps : List Point). AreThresholds ps c.in_ok-thresholds.thresholds) (sym points) known;
    }
