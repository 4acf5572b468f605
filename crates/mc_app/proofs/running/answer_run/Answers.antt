use Rattle.mc_c_syntax.specs.Ast.Views.{unit_of}
use Rattle.mc_app.proofs.Whys.{stay_ran}
use Rattle.mc_app.specs.declared.words.words.Request.TheVariants as request
use Rattle.mc_app.proofs.running.answer_run.Goals as goal
use Rattle.mc_load.proofs.InputsLemmas.Picking.{at_err, at_ok}

pub returns-in-Err-clause-why : goal.returns-in-Err-clause-why
returns-in-Err-clause-why g c = λ words asks. (request.Run c.args.names, asks, at_err c.in_ok-refusal.field-0 c.in-Err.refusal _ _ c.in-Err.is c.in_ok-refusal.ensures.read)

pub returns-in_ok-found-in-Ok-clause-why : goal.returns-in_ok-found-in-Ok-clause-why
returns-in_ok-found-in-Ok-clause-why g c = λ words asks.
    let old = g.F.Files.holds c.args.files.now in
    let new = g.F.Files.holds c.read.new.files in
    let bound = c.in-Ok.bound in
    let unit = unit_of bound.typed.unit in
    let inputs = at_ok c.in_ok-refusal.field-0 bound _ _ c.in-Ok.is c.in_ok-refusal.ensures.read in
    (c.args.names, asks, (unit, bound.defs, inputs, stay_ran old new c.args.names unit bound.defs c.in_ok-found-in-Ok.found c.read.ensures.same c.in_ok-found-in-Ok.ensures.why))
