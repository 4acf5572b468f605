use Rattle.std.proofs.Common.{◌∙◌, ◌++◌, ◌∷◌, ap, map, subst, sym}
use Rattle.std.specs.List.{AllByRecursion}
use Rattle.mc_rules_logic.specs.Back.Unfolded.{body_behind, call_is_end}
use Rattle.mc_flow.specs.Defs.Instances.{node_of, atom_of}
use Rattle.mc_pure.specs.Pure.{IsWellFormed}
use Rattle.mc_state.specs.State.{State, with_atoms, with_edges}
use Rattle.mc_rules_logic.specs.Unfold.Unfolded.{equal_atoms}
use Rattle.mc_apply_unfold.proofs.After.{behind_atoms}
use Rattle.mc_apply_unfold.proofs.backward.add_behind.Goals as goal

pub add_atoms-requires : goal.add_atoms-requires
add_atoms-requires c =
    subst (λ (t : State). AllByRecursion (IsWellFormed t.kinds) (map (atom_of c.args.nodes.now) c.args.rule.now.atoms)) (sym c.in_ok-add_body_behind.ensures) c.requires.atoms

pub assume_call_is_end-requires : goal.assume_call_is_end-requires
assume_call_is_end-requires c =
    let nodes = c.args.nodes.now in
    let seg = c.args.seg.now in
    let call = c.args.call.now in
    let same = c.in_ok-add_atoms.ensures ∙ ap (λ (t : State). with_atoms t (map (atom_of nodes) c.args.rule.now.atoms)) c.in_ok-add_body_behind.ensures in
    subst (λ (t : State). AllByRecursion (IsWellFormed t.kinds) (equal_atoms (node_of nodes call.at ∷ map (node_of nodes) call.args) (seg.stop ∷ seg.ends.now))) (sym same) c.requires.ends

pub returns : goal.returns
returns c =
    let nodes = c.args.nodes.now in
    let seg = c.args.seg.now in
    let rule = c.args.rule.now in
    let call = c.args.call.now in
    let s = c.args.s.now in
    let body = body_behind seg.at seg.args.now seg.pred nodes rule c.args.place in
    let atoms = map (atom_of nodes) rule.atoms in
    let more = equal_atoms (node_of nodes call.at ∷ map (node_of nodes) call.args) (seg.stop ∷ seg.ends.now) in
    behind_atoms s c.add_body_behind.new.s c.add_atoms.new.s c.assume_call_is_end.new.s body atoms more
    c.in_ok-add_body_behind.ensures c.in_ok-add_atoms.ensures c.in_ok-assume_call_is_end.ensures
    ∙ ap (λ o. with_atoms (with_edges s body) (atoms ++ call_is_end nodes seg.stop seg.ends.now o)) (sym c.requires.call)
