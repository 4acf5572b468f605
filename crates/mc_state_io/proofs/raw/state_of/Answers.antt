use Rattle.std.proofs.Common.{◌≡◌, true, false, refl, sym, subst, ap, ◌∙◌}
use Rattle.mc_state.specs.Graph.Edges.{known_nodes}
use Rattle.mc_pure.specs.Pure.{Kinds}
use Rattle.mc_base.specs.declared.plain.VarInfo.{VarInfo}
use Rattle.mc_state.specs.State.{State}
use Rattle.mc_state.specs.Fits.{AreNodes}
use Rattle.mc_state.specs.RawStates.{kinds_from, BeginsWithZero}
use Rattle.mc_state_io.specs.Raw.Raw.{PiecesFit}
use Rattle.mc_state_io.proofs.RawLemmas.Built.{begun_kinds, built_from}
use Rattle.mc_state_io.proofs.RawLemmas.Whole.{pieces_fit, vars_there, edges_there, well_formed}
use Rattle.mc_state_io.proofs.raw.state_of.Goals as goal

pub returns-then-not-pieces_fit : goal.returns-then-not-pieces_fit
returns-then-not-pieces_fit c = λ w.
    let same = begun_kinds c.in_ok-state.state c.len.result c.as_slice-2.result.now c.args.raw.now.kinds c.in_ok-state.ensures c.as_slice-2.ensures in
    let q : false ≡ true = c.if-not-pieces_fit.ensures.1 (subst (λ (z : Kinds). PiecesFit c.args.defs.now c.args.vars.now c.args.structs.now z c.args.raw.now) (sym same) (pieces_fit c.args.defs.now c.args.vars.now c.args.structs.now c.args.raw.now w)) in
    absurd (cc q)

pub fill-requires-clause-vars : goal.fill-requires-clause-vars
fill-requires-clause-vars c = vars_there c.args.defs.now c.args.vars.now c.args.structs.now c.in_ok-state.state.kinds c.args.raw.now (c.if-not-pieces_fit.ensures.0 refl)

pub fill-requires-clause-edges : goal.fill-requires-clause-edges
fill-requires-clause-edges c = edges_there c.in_ok-state.state.kinds c.args.defs.now c.args.structs.now c.args.raw.now.edges (c.if-not-pieces_fit.ensures.0 refl).edges_fit

pub returns : goal.returns
returns c =
    let same = begun_kinds c.in_ok-state.state c.len.result c.as_slice-2.result.now c.args.raw.now.kinds c.in_ok-state.ensures c.as_slice-2.ensures in
    let fit = subst (λ (z : Kinds). PiecesFit c.args.defs.now c.args.vars.now c.args.structs.now z c.args.raw.now) same (c.if-not-pieces_fit.ensures.0 refl) in
    let begins = subst BeginsWithZero c.as_slice.ensures (c.if-not-begins_with_zero.ensures.0 refl) in (
      well_formed c.args.defs.now c.args.vars.now c.args.structs.now c.args.raw.now begins fit,
      built_from c.len.result c.args.raw.now c.as_slice-2.result.now c.in_ok-state.state c.fill.new.state c.in_ok-state.ensures c.as_slice-2.ensures c.in_ok-fill.ensures,
    )
