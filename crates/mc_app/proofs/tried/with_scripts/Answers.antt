use Rattle.std.proofs.Common.{◌≡◌, ◌∙◌, ap, subst, sym}
use Rattle.std.specs.Prelude.{IfOk}
use Rattle.mc_c_syntax.specs.Ast.Views.{unit_of}
use Rattle.mc_find.specs.declared.analysis.analysis.Analysis.{Analysis}
use Rattle.mc_find.specs.declared.analysis.analysis.Analysis.TheVariants.{Alarms}
use Rattle.mc_app.specs.Analyses.{IsWhyAnalysed}
use Rattle.mc_app.specs.declared.analysing.Analysed.{Analysed}
use Rattle.mc_app.specs.declared.analysing.Analysed.TheVariants.{Found}
use Rattle.mc_app.proofs.tried.with_scripts.Goals as goal

pub returns-in-Found-Alarms-clause-why : goal.returns-in-Found-Alarms-clause-why
returns-in-Found-Alarms-clause-why c =
    let unit = unit_of c.args.bound.now.typed.unit in
    let defs = c.args.bound.now.defs in
    let is : c.args.found ≡ Found (Alarms c.in-Found-Alarms.findings c.in-Found-Alarms.count) =
    c.in-Found-Alarms.is ∙ ap (λ (x : Analysis). Found x) c.in-Found-Alarms.field-0-is in
    subst (λ (x : Analysed). IfOk c.alarms_with_scripts.result (λ a. IsWhyAnalysed c.args.names unit defs x → IsWhyAnalysed c.args.names unit defs a)) (sym is) c.alarms_with_scripts.ensures.why
