use Rattle.std.proofs.Common.{◌≡◌, subst, arith}
use Rattle.std.proofs.lemmas.Grind.{common_steps}
use Rattle.mc_base.specs.declared.text.place.Place.{Place}
use Rattle.mc_c_syntax.specs.Ast.Views.{unit_of}
use Rattle.mc_lines.specs.Cert.Lines.{lines_of}
use Rattle.mc_run.specs.Interpret.Programs.{ProgramRuns}
use Rattle.mc_run.specs.declared.interpret.ending.Ending.{Ending}
use Rattle.mc_run.specs.declared.interpret.ending.Ending.TheVariants.{Fault}
use Rattle.mc_tries.proofs.Fuel.{faults_on}
use Rattle.mc_tries.proofs.found.kind_of.Goals as goal

pub returns-then-eq : goal.returns-then-eq
returns-then-eq c =
    let bound = c.args.bound.now in
    let Comes : Ending → Type 0 = ProgramRuns (unit_of bound.typed.unit) bound.typed.entry bound.defs (lines_of c.args.script.now) 2000 in
    let same : c.in-Fault.at ≡ c.args.place = grind (arith, common_steps) in
    faults_on c.faults_are_one.ensures bound.typed.entry (unit_of bound.typed.unit) bound.defs c.in-Fault.kind c.args.place
    c.args.script.now bound.typed.well_typed
    (subst (λ (p : Place). Comes (Fault c.in-Fault.kind p)) same (subst Comes c.in-Fault.is c.in_ok-kind.ensures))
