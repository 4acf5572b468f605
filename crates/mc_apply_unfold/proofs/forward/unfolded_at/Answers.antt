use Rattle.std.proofs.Common.{rules, ◌≡◌, ◌∙◌, ap}
use Rattle.mc_state.specs.Graph.Graph.{without}
use Rattle.mc_state.specs.Bodies.{body_to}
use Rattle.mc_state.specs.State.{State, with_atoms, with_edges, with_nodes, with_only_edges}
use Rattle.mc_flow.specs.Defs.Instances.{atom_of}
use Rattle.std.specs.Prelude.{map}
use Rattle.mc_rules_logic.specs.Unfold.Unfolded.{new_kinds, rule_nodes}
use Rattle.mc_apply_unfold.proofs.Items.{same_formed}
use Rattle.mc_apply_unfold.proofs.forward.unfolded_at.Goals as goal

pub add_atoms-requires : goal.add_atoms-requires
add_atoms-requires c =
    let rule = c.args.rule.now in
    let wide = with_nodes c.args.s.now (new_kinds c.args.seg.now.args.now rule) in
    let list = rule_nodes c.args.s.now c.args.seg.now.at c.args.seg.now.args.now rule in
    let kinds : c.add_body_to.new.s.kinds ≡ wide.kinds = ap (λ (t : State). t.kinds) c.in_ok-add_body_to.ensures ∙ ap (λ (t : State). t.kinds) c.in_ok-next.ensures.state in
    let nodes : c.as_slice-2.result.now ≡ list = search rules in
    same_formed c.add_body_to.new.s.kinds wide.kinds c.as_slice-2.result.now list rule.atoms kinds nodes c.requires.0.1

pub returns : goal.returns
returns c =
    let rule = c.args.rule.now in
    let s = c.args.s.now in
    let list = rule_nodes s c.args.seg.now.at c.args.seg.now.args.now rule in
    let base = with_only_edges (with_nodes s (new_kinds c.args.seg.now.args.now rule)) (without s.graph.edges c.args.edge) in
    let first : c.as_slice.result.now ≡ list = search rules in
    let second : c.as_slice-2.result.now ≡ list = search rules in
    let body : c.add_body_to.new.s ≡ with_edges base (body_to list c.args.seg.now.stop c.args.seg.now.ends.now c.args.place rule.block rule.contents rule.calls) =
    c.in_ok-add_body_to.ensures
    ∙ ap (λ t. with_edges t (body_to c.as_slice.result.now c.args.seg.now.stop c.args.seg.now.ends.now c.args.place rule.block rule.contents rule.calls)) c.in_ok-next.ensures.state
    ∙ ap (λ ns. with_edges base (body_to ns c.args.seg.now.stop c.args.seg.now.ends.now c.args.place rule.block rule.contents rule.calls)) first in
    c.in_ok-add_atoms.ensures
    ∙ ap (λ t. with_atoms t (map (atom_of c.as_slice-2.result.now) rule.atoms)) body
    ∙ ap (λ ns. with_atoms (with_edges base (body_to list c.args.seg.now.stop c.args.seg.now.ends.now c.args.place rule.block rule.contents rule.calls)) (map (atom_of ns) rule.atoms)) second
