use Rattle.std.proofs.Common.{◌∙◌, ℕ, List, subst}
use Rattle.mc_c_syntax.specs.Ast.Views.{unit_of}
use Rattle.mc_lines.specs.Cert.Lines.{lines_of}
use Rattle.mc_run.specs.Interpret.Programs.{ProgramRuns}
use Rattle.mc_app.proofs.running.run.Goals as goal
use Rattle.mc_load.proofs.InputsLemmas.Picking.{at_some}

pub returns-in_ok-ending-in-Some-clause-why : goal.returns-in_ok-ending-in-Some-clause-why
returns-in_ok-ending-in-Some-clause-why g c = λ bytes h.
    let bound = c.args.bound.now in
    let unit = unit_of bound.typed.unit in
    let ending = c.in_ok-ending-in-Some.ending in
    let fuel = c.args.names.fuel in
    let got = at_some c.in_ok-text.field-0 c.in-Some.script _ _ c.in-Some.is (c.in_ok-text.ensures.told bytes h) in
    let same = c.deref.ensures.value ∙ got.0 in
    let runs = subst (λ (s : List ℕ). ProgramRuns unit s bound.defs (lines_of c.deref.result.now) fuel ending) c.requires c.in_ok-ending-in-Some.ensures in
    (got.1, subst (λ (bs : List ℕ). ProgramRuns unit c.args.names.start.now bound.defs (lines_of bs) fuel ending) same runs)
