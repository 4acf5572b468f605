use Rattle.std.proofs.Common.{List, sym, ap, subst, ◌∙◌}
use Rattle.std.specs.List.{AllByRecursion}
use Rattle.mc_base.specs.declared.ids.NodeId.{NodeId}
use Rattle.mc_base.specs.declared.plain.Atom.{Atom}
use Rattle.mc_pure.specs.Pure.{IsNode, IsWellFormed}
use Rattle.mc_state.specs.State.{with_atoms}
use Rattle.mc_replay.specs.Joined.{seen}
use Rattle.mc_replay.specs.Whole.{MayBeMade}
use Rattle.mc_replay.proofs.WholeLemmas.Ended.{known_true, next_is_new, atoms_fit, has_atoms}
use Rattle.mc_replay.proofs.whole.joined_state.Goals as goal
use Rattle.mc_replay.proofs.whole.joined_state.Goals.{After-derived_is_renamed}

ready : (c : After-derived_is_renamed) → MayBeMade c.args.left.now c.args.right.now (seen c.args.join.now)
ready c = c.reached_may_be_made.ensures c.args.left.now c.args.right.now (seen c.args.join.now) c.requires.reached c.requires.done

pub bare-requires : goal.bare-requires
bare-requires c = ready (goal.at.bare-requires c).After-derived_is_renamed

pub joint-requires-clause-left_true : goal.joint-requires-clause-left_true
joint-requires-clause-left_true c = (ready (goal.at.joint-requires-clause-left_true c).After-derived_is_renamed).left_consistent

pub joint-requires-clause-right_true : goal.joint-requires-clause-right_true
joint-requires-clause-right_true c = (ready (goal.at.joint-requires-clause-right_true c).After-derived_is_renamed).right_consistent

pub joint-requires-clause-joinable : goal.joint-requires-clause-joinable
joint-requires-clause-joinable c = (ready (goal.at.joint-requires-clause-joinable c).After-derived_is_renamed).joinable

pub whole_list-requires-clause-consistent : goal.whole_list-requires-clause-consistent
whole_list-requires-clause-consistent c =
    known_true c.args.left.now c.args.right.now (seen c.args.join.now) (ready (goal.at.whole_list-requires-clause-consistent c).After-derived_is_renamed)
    c.args.round c.args.thresholds.now c.in_ok-known.known c.in_ok-known.ensures c.derived_is_renamed.ensures.is_false

pub whole_list-requires-clause-new : goal.whole_list-requires-clause-new
whole_list-requires-clause-new c =
    subst (λ (n : NodeId). IsNode c.in_ok-known.known.kinds n → ⊥) (sym c.next_node.ensures)
    (next_is_new c.args.left.now c.args.right.now (seen c.args.join.now) (ready (goal.at.whole_list-requires-clause-new c).After-derived_is_renamed)
    c.args.round c.args.thresholds.now c.in_ok-known.known c.in_ok-known.ensures c.nodes_are_there.ensures.below c.in_ok-out.out c.in_ok-out.ensures)

pub put_atoms-requires : goal.put_atoms-requires
put_atoms-requires c =
    subst (λ (atoms : List Atom). AllByRecursion (IsWellFormed c.in_ok-out.out.kinds) atoms) (sym c.as_slice.ensures.value)
    (atoms_fit c.args.left.now c.args.right.now (seen c.args.join.now) (ready (goal.at.put_atoms-requires c).After-derived_is_renamed)
    c.args.round c.args.thresholds.now c.in_ok-known.known c.in_ok-known.ensures c.in_ok-out.out c.in_ok-atoms.atoms.items c.in_ok-out.ensures c.in_ok-atoms.ensures)

pub returns-clause-atoms : goal.returns-clause-atoms
returns-clause-atoms c =
    has_atoms c.args.left.now c.args.right.now (seen c.args.join.now) (ready (goal.at.returns-clause-atoms c).After-derived_is_renamed)
    c.args.round c.args.thresholds.now c.in_ok-known.known c.in_ok-known.ensures c.in_ok-out.out c.put_atoms.new.out c.put_whole.new.fresh c.in_ok-atoms.atoms.items c.is_whole.result
    c.in_ok-out.ensures c.in_ok-atoms.ensures (c.in_ok-put_atoms.ensures ∙ ap (λ (atoms : List Atom). with_atoms c.in_ok-out.out atoms) c.as_slice.ensures.value) c.is_whole.ensures c.put_whole.ensures
