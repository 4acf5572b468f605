use Rattle.std.proofs.Common.{subst, ap, ◌∙◌}
use Rattle.mc_pure.specs.Nodes.{RiseFrom}
use Rattle.mc_state.specs.State.{State}
use Rattle.mc_joins.proofs.AnewLemmas.Putting.{vars_long, vars_fit, atoms_fit, edges_fit, all_put}
use Rattle.mc_joins.proofs.anew.numbered.anew.Goals as goal

pub put_vars-requires : goal.put_vars-requires
put_vars-requires c =
    let s = c.args.state.now in
    let rise = subst (RiseFrom 1) c.known.ensures.kinds c.is_kept.ensures.rise in
    let kinds = ap (λ (z : State). z.kinds) c.in_ok-nodes.ensures.nodes in
    record {
      long = vars_long s c.in_ok-nodes.nodes.state c.env.result.now c.in_ok-nodes.ensures.nodes c.env.ensures;
      there = vars_fit s rise c.in_ok-nodes.nodes.renaming c.in_ok-nodes.ensures.renaming c.in_ok-nodes.nodes.state.kinds c.env.result.now kinds c.env.ensures c.is_bounded.ensures.bounded;
    }

pub put_atoms-requires : goal.put_atoms-requires
put_atoms-requires c =
    let s = c.args.state.now in
    let rise = subst (RiseFrom 1) c.known.ensures.kinds c.is_kept.ensures.rise in
    let kinds = ap (λ (z : State). z.kinds) c.put_vars.ensures ∙ ap (λ (z : State). z.kinds) c.in_ok-nodes.ensures.nodes in
    atoms_fit s rise c.in_ok-nodes.nodes.renaming c.in_ok-nodes.ensures.renaming c.put_vars.new.fresh.kinds c.atoms.result.now kinds c.atoms.ensures c.is_bounded.ensures.atoms

pub put_edges-requires : goal.put_edges-requires
put_edges-requires c =
    let s = c.args.state.now in
    let rise = subst (RiseFrom 1) c.known.ensures.kinds c.is_kept.ensures.rise in
    let kinds = ap (λ (z : State). z.kinds) c.in_ok-put_atoms.ensures ∙ (ap (λ (z : State). z.kinds) c.put_vars.ensures ∙ ap (λ (z : State). z.kinds) c.in_ok-nodes.ensures.nodes) in
    edges_fit s rise c.in_ok-nodes.nodes.renaming c.in_ok-nodes.ensures.renaming c.put_atoms.new.fresh.kinds c.edges.result.now kinds c.edges.ensures c.is_bounded.ensures.bounded

pub put_whole-requires : goal.put_whole-requires
put_whole-requires c =
    ap (λ (z : State). z.whole) c.in_ok-put_edges.ensures
    ∙ (ap (λ (z : State). z.whole) c.in_ok-put_atoms.ensures ∙ (ap (λ (z : State). z.whole) c.put_vars.ensures ∙ ap (λ (z : State). z.whole) c.in_ok-nodes.ensures.nodes))

pub returns : goal.returns
returns c =
    let s = c.args.state.now in
    let rise = subst (RiseFrom 1) c.known.ensures.kinds c.is_kept.ensures.rise in
    record {
      state =
          all_put s rise c.in_ok-nodes.nodes.renaming c.in_ok-nodes.ensures.renaming
          c.in_ok-nodes.nodes.state c.put_vars.new.fresh c.put_atoms.new.fresh c.put_edges.new.fresh c.put_whole.new.fresh
          c.env.result.now c.atoms.result.now c.edges.result.now c.is_whole.result
          c.is_bounded.ensures.bounded c.env.ensures c.atoms.ensures c.edges.ensures c.is_whole.ensures
          c.in_ok-nodes.ensures.nodes c.put_vars.ensures c.in_ok-put_atoms.ensures c.in_ok-put_edges.ensures c.put_whole.ensures;
      renaming = c.in_ok-nodes.ensures.renaming;
    }
