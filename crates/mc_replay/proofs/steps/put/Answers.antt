use Rattle.std.proofs.Common.{◌≡◌, List, ◌++◌, sym, ap, ◌∙◌}
use Rattle.mc_base.specs.declared.ids.EdgeId.{EdgeId}
use Rattle.mc_pure_ops.specs.Join.Joint.{Pairs}
use Rattle.mc_joins.specs.Steps.{edge_for}
use Rattle.mc_replay.proofs.StepLemmas.{put_joins}
use Rattle.mc_replay.proofs.steps.put.Goals as goal

pub returns-clause-joins : goal.returns-clause-joins
returns-clause-joins c =
    let ls : c.extend_from_slice.new.self.items ≡ c.args.join.now.left.used.items ++ c.args.left.used.items =
    c.in_ok-extend_from_slice.ensures.items ∙ ap (λ (z : List EdgeId). c.args.join.now.left.used.items ++ z) c.as_slice-2.ensures.value in
    let rs : c.extend_from_slice-2.new.self.items ≡ c.args.join.now.right.used.items ++ c.args.right.used.items =
    c.in_ok-extend_from_slice-2.ensures.items ∙ ap (λ (z : List EdgeId). c.args.join.now.right.used.items ++ z) c.as_slice-3.ensures.value in
    put_joins c.args.join.now c.args.left c.args.right c.extend_from_slice.new.self.items c.extend_from_slice-2.new.self.items c.put_pairs.new.pairs.items c.push.new.self.items c.in-Some.edge
    c.in_ok-put_pairs.ensures
    (sym c.in-Some.is ∙ (c.in_ok-edge.ensures ∙ ap (λ (z : Pairs). edge_for z c.args.left.edge c.args.right.edge) c.as_slice.ensures.value))
    ls rs c.in_ok-push.ensures.items
