use Rattle.std.proofs.Common.{sym, subst}
use Rattle.mc_c_syntax.specs.Ast.Views.{unit_of}
use Rattle.mc_lines.specs.Cert.Lines.{lines_of}
use Rattle.mc_semantics.specs.Steps.{Step, program_of, start}
use Rattle.mc_run.specs.declared.outcome.Outcome.{Outcome}
use Rattle.mc_run.specs.Runs.{RunsTo}
use Rattle.mc_c_types.specs.Tables.{struct_infos}
use Rattle.mc_semantics.specs.Waiting.Trees.{Asks}
use Rattle.mc_run.proofs.InterpretLemmas.Entries.{has_entry}
use Rattle.mc_run.proofs.InterpretLemmas.Runs.{goes_on, program_runs}
use Rattle.mc_run.proofs.interpret.running.interpret.Goals as goal

pub ending_of-requires : goal.ending_of-requires
ending_of-requires c = λ stuck.
    let bound = c.args.bound.now in
    goes_on c.resolved_programs_run_alike.ensures.steps c.resolved_programs_run_alike.ensures.runs c.resolved_programs_stand_alike.ensures.values c.resolved_programs_stand_alike.ensures.arrivals
    c.programs_step_end_or_wait.ensures (unit_of bound.typed.unit) bound.typed.entry bound.defs (lines_of c.args.script.now) c.args.fuel c.in_ok-outcome.outcome bound.typed.well_typed c.in_ok-outcome.ensures stuck

pub returns : goal.returns
returns c =
    let bound = c.args.bound.now in
    let unit = unit_of bound.typed.unit in
    let p = program_of unit bound.defs in
    let script = lines_of c.args.script.now in
    let f = has_entry unit bound.typed.entry bound.typed.well_typed in
    let runs = program_runs c.resolved_programs_run_alike.ensures.steps c.resolved_programs_run_alike.ensures.runs c.resolved_programs_stand_alike.ensures.values c.resolved_programs_stand_alike.ensures.arrivals
    unit bound.typed.entry bound.defs script c.args.fuel c.in_ok-outcome.outcome f.0 f.1 c.in_ok-outcome.ensures in
    (f.0, f.1, subst (λ (o : Outcome). RunsTo (Step p) (Asks p) (struct_infos unit) (start p f.0) script c.args.fuel o) (sym c.ending_of.ensures) runs)
