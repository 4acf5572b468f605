use Rattle.std.proofs.Common.{◌≡◌}
use Rattle.mc_c_syntax.specs.Ast.Views.{unit_of}
use Rattle.mc_c_types.specs.Tables.{struct_infos}
use Rattle.mc_load.proofs.LoweredLemmas.Lowered.{Laws, graph_of, is_sound, long_of, well_made}
use Rattle.mc_load.proofs.lowered.graphs.graph.Goals as goal

pub lower-requires : goal.lower-requires
lower-requires c =
    let bound = c.args.bound.now in
    let infos : c.structs.result.now.list ≡ struct_infos (unit_of bound.typed.unit) = rw c.typed.ensures at c.structs.ensures.infos in
    let laws : Laws = record {
      apart = c.programs_have_distinct_places.ensures;
      differ = c.ascending_places_differ.ensures;
      known = c.typedefs_are_known.ensures;
      small = c.numbers_are_small.ensures;
      made = c.resolved_programs_are_well_made.ensures;
      scoped = c.resolved_programs_are_scoped.ensures;
      lowerable = c.resolved_programs_are_lowerable.ensures;
      ranks = c.calls_have_ranks.ensures;
      ranked = c.resolved_programs_have_ranks.ensures;
      exist = c.flow_graphs_exist.ensures;
    } in
    is_sound bound.typed.entry (unit_of bound.typed.unit) bound.defs c.in_ok-program.program c.structs.result.now c.in_ok-program.ensures infos laws c.requires c.defs.ensures.fit.bound c.defs.ensures.fit.fit

pub returns-in-Ok-clause-graph : goal.returns-in-Ok-clause-graph
returns-in-Ok-clause-graph c =
    let bound = c.args.bound.now in
    let infos : c.structs.result.now.list ≡ struct_infos (unit_of bound.typed.unit) = rw c.typed.ensures at c.structs.ensures.infos in
    graph_of bound.typed.entry (unit_of bound.typed.unit) bound.defs c.in_ok-program.program c.structs.result.now c.in_ok-program.ensures infos c.in-Ok.lowered c.in-Ok.ensures.flow

pub returns-in-Ok-clause-valid : goal.returns-in-Ok-clause-valid
returns-in-Ok-clause-valid c =
    let bound = c.args.bound.now in
    let infos : c.structs.result.now.list ≡ struct_infos (unit_of bound.typed.unit) = rw c.typed.ensures at c.structs.ensures.infos in
    let laws : Laws = record {
      apart = c.programs_have_distinct_places.ensures;
      differ = c.ascending_places_differ.ensures;
      known = c.typedefs_are_known.ensures;
      small = c.numbers_are_small.ensures;
      made = c.resolved_programs_are_well_made.ensures;
      scoped = c.resolved_programs_are_scoped.ensures;
      lowerable = c.resolved_programs_are_lowerable.ensures;
      ranks = c.calls_have_ranks.ensures;
      ranked = c.resolved_programs_have_ranks.ensures;
      exist = c.flow_graphs_exist.ensures;
    } in
    let made = well_made bound.typed.entry (unit_of bound.typed.unit) bound.defs c.in_ok-program.program c.structs.result.now c.in_ok-program.ensures infos laws c.requires c.defs.ensures.fit.bound c.defs.ensures.fit.fit in
    c.in-Ok.ensures.valid bound.defs made

pub returns-in-Err-TooLong-clause-long : goal.returns-in-Err-TooLong-clause-long
returns-in-Err-TooLong-clause-long c =
    let bound = c.args.bound.now in
    let infos : c.structs.result.now.list ≡ struct_infos (unit_of bound.typed.unit) = rw c.typed.ensures at c.structs.ensures.infos in
    let laws : Laws = record {
      apart = c.programs_have_distinct_places.ensures;
      differ = c.ascending_places_differ.ensures;
      known = c.typedefs_are_known.ensures;
      small = c.numbers_are_small.ensures;
      made = c.resolved_programs_are_well_made.ensures;
      scoped = c.resolved_programs_are_scoped.ensures;
      lowerable = c.resolved_programs_are_lowerable.ensures;
      ranks = c.calls_have_ranks.ensures;
      ranked = c.resolved_programs_have_ranks.ensures;
      exist = c.flow_graphs_exist.ensures;
    } in
    long_of bound.typed.entry (unit_of bound.typed.unit) bound.defs c.in_ok-program.program c.structs.result.now c.in_ok-program.ensures infos laws c.requires c.defs.ensures.fit.bound c.defs.ensures.fit.fit
    (c.in-Err-TooLong.ensures.long c.in-Err-TooLong.field-0-is)
