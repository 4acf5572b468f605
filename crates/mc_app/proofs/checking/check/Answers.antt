use Rattle.std.proofs.Common.{◌≡◌, ◌≤◌, ℕ, List, length, subst, sym}
use Rattle.mc_c_syntax.specs.Ast.Views.{unit_of}
use Rattle.mc_flow.specs.declared.defs.rules.Def.{Def}
use Rattle.mc_flow.specs.Steps.{IsSafeFlow}
use Rattle.mc_flow.specs.Valid.{IsValid}
use Rattle.mc_load.specs.Inputs.Texts.{IsWellFormed}
use Rattle.mc_lower.specs.declared.lowering.Lowered.{Lowered}
use Rattle.mc_judge.specs.declared.judge.verdict.Verdict.TheVariants.{Safe}
use Rattle.mc_app.specs.Checks.{IsSafeUnit}
use Rattle.mc_app.specs.Documents.{AlarmsAreFound, IsVerdictOn}
use Rattle.mc_load.specs.Lowered.Graphs.{IsGraphOf}
use Rattle.mc_app.proofs.Meaning.{verdict_means}
use Rattle.mc_app.proofs.Safe.{graph_faults, has_entry, safe_graph}
use Rattle.mc_app.proofs.checking.check.Goals as goal
use Rattle.mc_load.proofs.InputsLemmas.Picking.{only_ok}

pub graph-requires : goal.graph-requires
graph-requires g c = subst (λ (s : List ℕ). IsWellFormed s (unit_of c.args.bound.now.typed.unit)) (sym c.requires.start) c.requires.well_formed

pub returns-in_ok-verdict-in-Ok-clause-why : goal.returns-in_ok-verdict-in-Ok-clause-why
returns-in_ok-verdict-in-Ok-clause-why g c =
    let bound = c.args.bound.now in
    let unit = unit_of bound.typed.unit in
    let x = c.in-Ok.lowered in
    let flow = x.flow in
    let v = c.in_ok-verdict-in-Ok.verdict in
    let made = only_ok c.in_ok-lowered.field-0 x (λ (y : Lowered). IsGraphOf bound.typed.entry unit bound.defs y.flow) c.in-Ok.is c.in_ok-lowered.ensures.graph in
    let graph = subst (λ (s : List ℕ). IsGraphOf s unit bound.defs flow) c.requires.start made in
    let short = only_ok c.in_ok-lowered.field-0 x (λ (y : Lowered). length y.flow.points ≤ 10000) c.in-Ok.is c.in_ok-lowered.ensures.short in
    let comes = graph_faults c.faults_are_in_flow_graphs.ensures c.ascending_places_differ.ensures c.programs_have_distinct_places.ensures c.args.names.start.now unit bound.defs flow in
    let safe_flow : v ≡ Safe → IsSafeFlow flow bound.defs = λ e. subst (λ (ds : List Def). IsSafeFlow flow ds) c.defs-defs.ensures.same (c.in_ok-verdict-in-Ok.ensures.safe e) in
    let safe : v ≡ Safe → IsSafeUnit c.args.names.start.now unit bound.defs = λ e.
    safe_graph c.safe_flow_graphs_mean_safe_trees.ensures c.ascending_places_differ.ensures c.programs_have_distinct_places.ensures has_entry c.args.names.start.now unit bound.defs flow c.requires.well_formed graph (safe_flow e) in
    let valid = only_ok c.in_ok-lowered.field-0 x (λ (y : Lowered). IsValid y.flow bound.defs) c.in-Ok.is c.in_ok-lowered.ensures.valid in
    record {
      flow = flow;
      graph = graph;
      valid = valid;
      short = short;
      told = λ text h. (
        subst (λ (ds : List Def). IsVerdictOn flow ds text v) c.defs-defs.ensures.same (c.in_ok-verdict-in-Ok.ensures.verdict text h),
        verdict_means c.args.names.start.now unit bound.defs flow (λ stuck only. comes stuck c.requires.well_formed graph only) text v safe
            (subst (λ (ds : List Def). AlarmsAreFound flow ds text v) c.defs-defs.ensures.same (c.in_ok-verdict-in-Ok.ensures.faults text h)),
      );
    }

pub returns-in_ok-verdict-in-Ok-clause-safe : goal.returns-in_ok-verdict-in-Ok-clause-safe
returns-in_ok-verdict-in-Ok-clause-safe g c = λ good.
    let bound = c.args.bound.now in
    let unit = unit_of bound.typed.unit in
    let x = c.in-Ok.lowered in
    let flow = x.flow in
    let made = only_ok c.in_ok-lowered.field-0 x (λ (y : Lowered). IsGraphOf bound.typed.entry unit bound.defs y.flow) c.in-Ok.is c.in_ok-lowered.ensures.graph in
    let graph = subst (λ (s : List ℕ). IsGraphOf s unit bound.defs flow) c.requires.start made in
    let verdict : c.in_ok-verdict-in-Ok.verdict ≡ Safe = cc in
    let safe = subst (λ (ds : List Def). IsSafeFlow flow ds) c.defs-defs.ensures.same (c.in_ok-verdict-in-Ok.ensures.safe verdict) in
    safe_graph c.safe_flow_graphs_mean_safe_trees.ensures c.ascending_places_differ.ensures c.programs_have_distinct_places.ensures has_entry c.args.names.start.now unit bound.defs flow c.requires.well_formed graph safe
