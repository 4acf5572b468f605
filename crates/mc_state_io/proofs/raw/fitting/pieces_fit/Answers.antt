use Rattle.std.proofs.Common.{◌≡◌, List, Option, true, false, map, refl, sym, subst}
use Rattle.mc_base.specs.declared.ids.NodeId.{NodeId}
use Rattle.mc_base.specs.declared.plain.Atom.{Atom}
use Rattle.mc_base.specs.declared.plain.VarInfo.{VarInfo}
use Rattle.mc_state.specs.declared.graph.edge.Edge.{Edge}
use Rattle.mc_state.specs.Fits.{MayHaveKinds}
use Rattle.mc_state_io.specs.Raw.Raw.{AllEdgesFit, AllAtomsFit}
use Rattle.mc_state_io.proofs.raw.fitting.pieces_fit.Goals as goal

pub returns-then-not-all_edges_fit : goal.returns-then-not-all_edges_fit
returns-then-not-all_edges_fit c = (
  λ t. let w : false ≡ true = t in absurd (cc w),
  λ p.
      let w : false ≡ true = c.if-not-all_edges_fit.ensures.1 (subst (λ (z : List Edge). AllEdgesFit c.args.defs.now c.args.structs.now c.args.state.now.kinds z) (sym c.as_slice-2.ensures) p.edges_fit) in
      absurd (cc w),
)

pub returns : goal.returns
returns c = (
  λ t. record {
    vars_fit = subst (λ (z : List (Option NodeId)). MayHaveKinds c.args.state.now.kinds (map (λ (x : VarInfo). x.kind) c.args.vars.now) z) c.as_slice.ensures (c.if-not-all_vars_fit.ensures.0 refl);
    edges_fit = subst (λ (z : List Edge). AllEdgesFit c.args.defs.now c.args.structs.now c.args.state.now.kinds z) c.as_slice-2.ensures (c.if-not-all_edges_fit.ensures.0 refl);
    atoms_fit = subst (λ (z : List Atom). AllAtomsFit c.args.state.now.kinds z) c.as_slice-3.ensures (c.all_atoms_fit.ensures.0 t);
  },
  λ p. c.all_atoms_fit.ensures.1 (subst (λ (z : List Atom). AllAtomsFit c.args.state.now.kinds z) (sym c.as_slice-3.ensures) p.atoms_fit),
)
