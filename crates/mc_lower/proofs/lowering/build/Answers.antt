use Rattle.std.proofs.Common.{◌≡◌, ◌<◌, Some, length, subst, sym}
use Rattle.std.specs.Prelude.{slice_get}
use Rattle.mc_semantics.specs.Resolved.Views.{function_of}
use Rattle.mc_lower.specs.Ready.{functions_in}
use Rattle.mc_lower.proofs.Readying.{entry_alone, entry_there}
use Rattle.mc_lower.proofs.Worlding.{flow_there, valid_there}
use Rattle.mc_lower.proofs.lowering.build.Goals as goal

pub returns-clause-flow : goal.returns-clause-flow
returns-clause-flow c =
    let there = subst (λ k. slice_get (functions_in k.source) c.args.program.now.entry ≡ Some (function_of c.function-entry.result.now)) c.new-builder.ensures.known c.function-entry.ensures.there in
    let alone : c.function-entry.result.now.parameters ≡ 0 = entry_alone (record { program = c.args.program.now; structs = c.args.structs.now }) (function_of c.function-entry.result.now) c.requires there in
    flow_there c.args.program.now c.args.structs.now c.new-builder.result c.make_entry.new.self c.in_ok-lowered.lowered c.function-entry.result.now
    c.new-builder.ensures.program c.new-builder.ensures.structs c.function-entry.ensures.seen alone c.in_ok-make_entry.ensures c.in_ok-lowered.ensures

pub returns-clause-valid : goal.returns-clause-valid
returns-clause-valid c =
    let there = subst (λ k. slice_get (functions_in k.source) c.args.program.now.entry ≡ Some (function_of c.function-entry.result.now)) c.new-builder.ensures.known c.function-entry.ensures.there in
    let alone : c.function-entry.result.now.parameters ≡ 0 = entry_alone (record { program = c.args.program.now; structs = c.args.structs.now }) (function_of c.function-entry.result.now) c.requires there in
    valid_there c.args.program.now c.args.structs.now c.in_ok-lowered.lowered c.lowerings_are_valid.ensures
    (flow_there c.args.program.now c.args.structs.now c.new-builder.result c.make_entry.new.self c.in_ok-lowered.lowered c.function-entry.result.now
    c.new-builder.ensures.program c.new-builder.ensures.structs c.function-entry.ensures.seen alone c.in_ok-make_entry.ensures c.in_ok-lowered.ensures)

pub function-entry-requires : goal.function-entry-requires
function-entry-requires c =
    subst (λ k. c.args.program.now.entry < length (functions_in k.source)) (sym c.new-builder.ensures.known) (entry_there (record { program = c.args.program.now; structs = c.args.structs.now }) c.requires)
