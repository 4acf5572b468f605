use Rattle.std.proofs.Common.{◌≤◌, ℕ, List, inl, inr, length, refl, subst, sym}
use Rattle.mc_c_syntax.specs.Ast.Views.{unit_of}
use Rattle.mc_flow.specs.declared.defs.rules.Def.{Def}
use Rattle.mc_load.specs.Inputs.Texts.{IsWellFormed}
use Rattle.mc_load.specs.Lowered.Graphs.{IsGraphOf, IsLong}
use Rattle.mc_lower.specs.declared.lowering.Lowered.{Lowered}
use Rattle.mc_app.specs.Demo.Seen.{IsSeenOf}
use Rattle.mc_app.proofs.Seeing.{at_long}
use Rattle.mc_app.proofs.demo.seen.of_bound.Goals as goal
use Rattle.mc_load.proofs.InputsLemmas.Picking.{only_ok}

pub graph-requires : goal.graph-requires
graph-requires c = subst (λ (s : List ℕ). IsWellFormed s (unit_of c.args.bound.now.typed.unit)) (sym c.requires.start) c.requires.well_formed

pub returns-in_ok-seen-in-Ok : goal.returns-in_ok-seen-in-Ok
returns-in_ok-seen-in-Ok c =
    let bound = c.args.bound.now in
    let unit = unit_of bound.typed.unit in
    let x = c.in-Ok.lowered in
    let flow = x.flow in
    let made = only_ok c.in_ok-lowered.field-0 x (λ (y : Lowered). IsGraphOf bound.typed.entry unit bound.defs y.flow) c.in-Ok.is c.in_ok-lowered.ensures.graph in
    let graph = subst (λ (s : List ℕ). IsGraphOf s unit bound.defs flow) c.requires.start made in
    let short = only_ok c.in_ok-lowered.field-0 x (λ (y : Lowered). length y.flow.points ≤ 10000) c.in-Ok.is c.in_ok-lowered.ensures.short in
    inr (flow, graph, short, subst (λ (ds : List Def). IsSeenOf flow ds c.in_ok-seen-in-Ok.seen) c.defs-defs.ensures.same c.in_ok-seen-in-Ok.ensures)

pub returns-in-Err : goal.returns-in-Err
returns-in-Err c =
    let bound = c.args.bound.now in
    let long = at_long c.in_ok-lowered.field-0 c.in-Err.field-0 _ c.in-Err.is c.in_ok-lowered.ensures.long in
    inl (refl, subst (λ (s : List ℕ). IsLong s (unit_of bound.typed.unit) bound.defs) c.requires.start long)
