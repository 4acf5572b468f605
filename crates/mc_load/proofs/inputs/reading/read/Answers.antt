use Rattle.mc_c_syntax.specs.Ast.Views.{unit_of}
use Rattle.mc_c_check.specs.declared.typed.Typed.{Typed}
use Rattle.mc_load.specs.Inputs.Inputs.{IsProgramIn}
use Rattle.mc_load.specs.Inputs.Texts.{IsWellFormed}
use Rattle.mc_load.proofs.InputsLemmas.Joining.{inputs_of, well_formed_too}
use Rattle.mc_load.proofs.InputsLemmas.Picking.{at_err, at_ok, only_ok}
use Rattle.mc_load.proofs.inputs.reading.read.Goals as goal

pub returns-in-Err-clause-read : goal.returns-in-Err-clause-read
returns-in-Err-clause-read g c = λ text h. at_err c.in_ok-cause.field-0 c.in-Err.cause _ _ c.in-Err.is (c.in_ok-cause.ensures.told text h)

pub returns-in_ok-inputs-in-Ok-clause-read : goal.returns-in_ok-inputs-in-Ok-clause-read
returns-in_ok-inputs-in-Ok-clause-read g c =
    let old = g.F.Files.holds c.args.files.now in
    let new = g.F.Files.holds c.program_in.new.files in
    let typed = c.in-Ok.typed in
    let program : IsProgramIn old c.args.sources (unit_of typed.unit) = λ text h. at_ok c.in_ok-cause.field-0 typed _ _ c.in-Ok.is (c.in_ok-cause.ensures.told text h) in
    inputs_of old new c.args.sources typed c.program_in.ensures.same c.in_ok-inputs-in-Ok.inputs program c.in_ok-inputs-in-Ok.ensures.read

pub returns-in_ok-inputs-in-Ok-clause-well_formed : goal.returns-in_ok-inputs-in-Ok-clause-well_formed
returns-in_ok-inputs-in-Ok-clause-well_formed g c =
    let old = g.F.Files.holds c.args.files.now in
    let new = g.F.Files.holds c.program_in.new.files in
    let typed = c.in-Ok.typed in
    let start = c.args.sources.start.now in
    let sound = only_ok c.in_ok-cause.field-0 typed (λ (t : Typed). IsWellFormed start (unit_of t.unit)) c.in-Ok.is c.in_ok-cause.ensures.well_formed in
    well_formed_too old new c.args.sources typed c.program_in.ensures.same start c.in_ok-inputs-in-Ok.inputs sound c.in_ok-inputs-in-Ok.ensures.read
