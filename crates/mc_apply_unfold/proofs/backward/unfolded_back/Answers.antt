use Rattle.std.proofs.Common.{rules, ◌≡◌, ◌∙◌, ◌∷◌, ap, map}
use Rattle.std.specs.List.{AllByRecursion}
use Rattle.mc_rules_logic.specs.Back.Unfolded.{new_nodes, body_behind, atoms_behind}
use Rattle.mc_flow.specs.Defs.Instances.{node_of, atom_of}
use Rattle.mc_state.specs.Graph.Graph.{without}
use Rattle.mc_pure.specs.Pure.{IsWellFormed}
use Rattle.mc_state.specs.Fits.{AreNodes}
use Rattle.mc_state.specs.State.{State, with_atoms, with_edges, with_nodes, with_only_edges}
use Rattle.mc_rules_logic.specs.Unfold.Unfolded.{equal_atoms}
use Rattle.mc_apply_unfold.proofs.Items.{at_nodes}
use Rattle.mc_apply_unfold.proofs.backward.unfolded_back.Goals as goal

pub add_behind-requires : goal.add_behind-requires
add_behind-requires c =
    let s = c.args.s.now in
    let seg = c.args.seg.now in
    let rule = c.args.rule.now in
    let call = c.args.call.now in
    let names : c.as_slice.result.now ≡ rule.names = search rules in
    let kinds = ap (λ (t : State). t.kinds) c.in_ok-next.ensures.state ∙ ap (λ ks. (with_nodes s ks).kinds) names in
    let nodes : c.as_slice-2.result.now ≡ new_nodes s rule = search rules in
    record {
      nodes = at_nodes (λ k ns. AreNodes k ns) _ _ _ _ kinds nodes c.requires.rule.nodes;
      start = at_nodes (λ k ns. AreNodes k (seg.at ∷ seg.args.now)) _ _ _ _ kinds nodes c.requires.rule.start;
      atoms = at_nodes (λ k ns. AllByRecursion (IsWellFormed k) (map (atom_of ns) rule.atoms)) _ _ _ _ kinds nodes c.requires.rule.atoms;
      ends = at_nodes (λ k ns. AllByRecursion (IsWellFormed k) (equal_atoms (node_of ns call.at ∷ map (node_of ns) call.args) (seg.stop ∷ seg.ends.now))) _ _ _ _ kinds nodes
          (c.requires.rule.ends c.args.place call c.requires.call c.requires.own);
      call = c.requires.call;
      inside = c.requires.inside;
    }

pub returns : goal.returns
returns c =
    let s = c.args.s.now in
    let seg = c.args.seg.now in
    let rule = c.args.rule.now in
    let place = c.args.place in
    let names : c.as_slice.result.now ≡ rule.names = search rules in
    let nodes : c.as_slice-2.result.now ≡ new_nodes s rule = search rules in
    let base = with_only_edges (with_nodes s rule.names) (without s.graph.edges c.args.edge) in
    let list = c.as_slice-2.result.now in
    c.in_ok-add_behind.ensures
    ∙ ap (λ (t : State). with_atoms (with_edges t (body_behind seg.at seg.args.now seg.pred list rule place)) (atoms_behind list seg.stop seg.ends.now rule place))
    (c.in_ok-next.ensures.state ∙ ap (λ ks. with_only_edges (with_nodes s ks) (without s.graph.edges c.args.edge)) names)
    ∙ ap (λ ns. with_atoms (with_edges base (body_behind seg.at seg.args.now seg.pred ns rule place)) (atoms_behind ns seg.stop seg.ends.now rule place)) nodes
