use Rattle.std.proofs.Common.{◌≡◌, List, length, sym, ap, subst, ◌∙◌}
use Rattle.std.specs.List.{AllByRecursion}
use Rattle.mc_state.specs.declared.graph.edge.Edge.{Edge}
use Rattle.mc_state.specs.Fits.{AreNodes}
use Rattle.mc_state.specs.Graph.Edges.{nodes_of}
use Rattle.mc_state.specs.State.{unknown, with_edges}
use Rattle.mc_joins.specs.Steps.{known_for}
use Rattle.mc_replay.specs.Joined.{seen}
use Rattle.mc_replay.proofs.WholeLemmas.Putting.{known_same, env_long, vars_there, edges_there, bare_put}
use Rattle.mc_replay.proofs.whole.bare.Goals as goal
use Rattle.mc_replay.proofs.whole.bare.Goals.{After-as_slice-2}

-- the variables' nodes
env_known : (c : After-as_slice-2) → c.as_slice-2.result.now ≡ known_for c.args.join.now.pairs.items c.args.left.now.env c.args.right.now.env
env_known c = known_same c.as_slice-2.result.now c.in_ok-env.env.items _ _ _ _ _ _ c.as_slice-2.ensures.value c.as_slice.ensures.value c.env.ensures c.env-2.ensures c.in_ok-env.ensures

-- nothing is known at first
begun_unknown : (c : After-as_slice-2) → c.in_ok-out.out ≡ unknown (length c.as_slice-2.result.now)
begun_unknown c = c.in_ok-out.ensures ∙ ap unknown (c.len.ensures ∙ sym c.as_slice-2.ensures.len)

pub put_vars-requires-clause-long : goal.put_vars-requires-clause-long
put_vars-requires-clause-long c =
    env_long c.args.left.now c.args.right.now (seen c.args.join.now) c.requires c.as_slice-2.result.now c.in_ok-out.out c.put_nodes.new.out
    (env_known c) (begun_unknown c) c.in_ok-put_nodes.ensures

pub put_vars-requires-clause-there : goal.put_vars-requires-clause-there
put_vars-requires-clause-there c =
    vars_there c.args.left.now c.args.right.now (seen c.args.join.now) c.requires c.as_slice-2.result.now c.in_ok-out.out c.put_nodes.new.out
    (env_known c) (begun_unknown c) c.in_ok-put_nodes.ensures

pub put_edges-requires : goal.put_edges-requires
put_edges-requires c =
    let b = (goal.at.put_edges-requires c).After-as_slice-2 in
    subst (λ (es : List Edge). AllByRecursion (λ (e : Edge). AreNodes c.put_vars.new.out.kinds (nodes_of e)) es) (sym c.as_slice-3.ensures.value)
    (edges_there c.args.left.now c.args.right.now (seen c.args.join.now) c.requires c.as_slice-2.result.now c.in_ok-out.out c.put_nodes.new.out
    (env_known b) (begun_unknown b) c.in_ok-put_nodes.ensures c.put_vars.new.out c.put_vars.ensures)

pub returns : goal.returns
returns c =
    let b = (goal.at.returns c).After-as_slice-2 in
    bare_put c.args.left.now c.args.right.now (seen c.args.join.now) c.requires c.as_slice-2.result.now c.in_ok-out.out c.put_nodes.new.out
    (env_known b) (begun_unknown b) c.in_ok-put_nodes.ensures c.put_vars.new.out c.put_edges.new.out c.put_vars.ensures
    (subst (λ (es : List Edge). c.put_edges.new.out ≡ with_edges c.put_vars.new.out es) c.as_slice-3.ensures.value c.in_ok-put_edges.ensures)
