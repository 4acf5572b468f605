use Rattle.std.proofs.Common.{◌≡◌, ◌≤◌, ℕ, List, length, subst, sym}
use Rattle.mc_find.specs.declared.analysis.analysis.Analysis.{Analysis}
use Rattle.mc_find.specs.declared.analysis.analysis.Analysis.TheVariants.{Safe}
use Rattle.mc_find.specs.declared.analysis.analysis.Findings.{Findings}
use Rattle.mc_find.specs.Analysis.Findings.{IsAnalysis}
use Rattle.mc_c_syntax.specs.Ast.Views.{unit_of}
use Rattle.mc_flow.specs.Valid.{IsValid}
use Rattle.mc_load.specs.Inputs.Texts.{IsWellFormed}
use Rattle.mc_lower.specs.declared.lowering.Lowered.{Lowered}
use Rattle.mc_load.specs.Lowered.Graphs.{IsGraphOf}
use Rattle.mc_app.specs.Checks.{IsSafeUnit}
use Rattle.mc_app.proofs.Meaning.{found_here, found_means}
use Rattle.mc_app.proofs.Real.{RealLaws, are_real}
use Rattle.mc_app.proofs.Safe.{graph_faults, has_entry, safe_graph}
use Rattle.mc_app.proofs.analysing.analyse_bound.Goals as goal
use Rattle.mc_load.proofs.InputsLemmas.Picking.{only_ok}

pub graph-requires : goal.graph-requires
graph-requires c = subst (λ (s : List ℕ). IsWellFormed s (unit_of c.args.bound.now.typed.unit)) (sym c.requires.start) c.requires.well_formed

pub returns-in_ok-found-in-Ok-clause-why : goal.returns-in_ok-found-in-Ok-clause-why
returns-in_ok-found-in-Ok-clause-why c =
    let bound = c.args.bound.now in
    let unit = unit_of bound.typed.unit in
    let x = c.in-Ok.lowered in
    let flow = x.flow in
    let made = only_ok c.in_ok-lowered.field-0 x (λ (y : Lowered). IsGraphOf bound.typed.entry unit bound.defs y.flow) c.in-Ok.is c.in_ok-lowered.ensures.graph in
    let graph = subst (λ (s : List ℕ). IsGraphOf s unit bound.defs flow) c.requires.start made in
    let short = only_ok c.in_ok-lowered.field-0 x (λ (y : Lowered). length y.flow.points ≤ 10000) c.in-Ok.is c.in_ok-lowered.ensures.short in
    let found = c.in_ok-found-in-Ok.found in
    let is = found_here flow bound.defs c.defs-defs.result.now c.args.names.merge c.settings.result.merge found c.defs-defs.ensures.same c.settings.ensures c.in_ok-found-in-Ok.ensures in
    let valid = only_ok c.in_ok-lowered.field-0 x (λ (y : Lowered). IsValid y.flow bound.defs) c.in-Ok.is c.in_ok-lowered.ensures.valid in
    let comes = graph_faults c.faults_are_in_flow_graphs.ensures c.ascending_places_differ.ensures c.programs_have_distinct_places.ensures c.args.names.start.now unit bound.defs flow in
    let safe : (f : Findings) → found ≡ Safe f → IsSafeUnit c.args.names.start.now unit bound.defs = λ f e.
    let proved = subst (λ (a : Analysis). IsAnalysis flow bound.defs c.args.names.merge a) e is in
    safe_graph c.safe_flow_graphs_mean_safe_trees.ensures c.ascending_places_differ.ensures c.programs_have_distinct_places.ensures has_entry c.args.names.start.now unit bound.defs flow c.requires.well_formed graph
    (c.certificates_are_safe.ensures flow bound.defs proved.lines valid proved.valid) in
    let laws : RealLaws = record {
      differ = c.ascending_places_differ.ensures;
      apart = c.programs_have_distinct_places.ensures;
      exact = c.marks_are_exact.ensures;
      marked = c.closed_alarms_are_marked.ensures;
      real = c.marked_alarms_are_real.ensures;
      closed = c.closed_programs_ask_for_malloc_alone.ensures;
    } in
    let real = are_real laws c.args.names.start.now unit bound.defs flow c.requires.well_formed graph valid short c.args.names.merge in
    let means = found_means c.args.names.start.now unit bound.defs flow (λ stuck only. comes stuck c.requires.well_formed graph only) c.last_pass_finds_faults.ensures valid c.args.names.merge real found safe is in
    (flow, graph, short, (is, means))

pub returns-in_ok-found-in-Ok-clause-safe : goal.returns-in_ok-found-in-Ok-clause-safe
returns-in_ok-found-in-Ok-clause-safe c = λ f good.
    let bound = c.args.bound.now in
    let unit = unit_of bound.typed.unit in
    let x = c.in-Ok.lowered in
    let flow = x.flow in
    let made = only_ok c.in_ok-lowered.field-0 x (λ (y : Lowered). IsGraphOf bound.typed.entry unit bound.defs y.flow) c.in-Ok.is c.in_ok-lowered.ensures.graph in
    let graph = subst (λ (s : List ℕ). IsGraphOf s unit bound.defs flow) c.requires.start made in
    let valid = only_ok c.in_ok-lowered.field-0 x (λ (y : Lowered). IsValid y.flow bound.defs) c.in-Ok.is c.in_ok-lowered.ensures.valid in
    let is : c.in_ok-found-in-Ok.found ≡ Safe f = cc in
    let found = found_here flow bound.defs c.defs-defs.result.now c.args.names.merge c.settings.result.merge c.in_ok-found-in-Ok.found c.defs-defs.ensures.same c.settings.ensures c.in_ok-found-in-Ok.ensures in
    let proved = subst (λ (a : Analysis). IsAnalysis flow bound.defs c.args.names.merge a) is found in
    let safe = c.certificates_are_safe.ensures flow bound.defs proved.lines valid proved.valid in
    safe_graph c.safe_flow_graphs_mean_safe_trees.ensures c.ascending_places_differ.ensures c.programs_have_distinct_places.ensures has_entry c.args.names.start.now unit bound.defs flow c.requires.well_formed graph safe
