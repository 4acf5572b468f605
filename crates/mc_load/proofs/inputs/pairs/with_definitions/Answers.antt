use Rattle.std.proofs.Common.{List, subst, sym}
use Rattle.mc_c_syntax.specs.Ast.Views.{unit_of}
use Rattle.mc_c_types.specs.Shapes.{IsBound}
use Rattle.mc_flow.specs.declared.defs.rules.Def.{Def}
use Rattle.mc_load.specs.Inputs.Texts.{AreDefinitions}
use Rattle.mc_load.proofs.InputsLemmas.Picking.{at_err, at_ok}
use Rattle.mc_load.proofs.inputs.pairs.with_definitions.Goals as goal

pub returns-in-Err : goal.returns-in-Err
returns-in-Err c = at_err c.in_ok-cause.field-0 c.in-Err.cause _ _ c.in-Err.is c.in_ok-cause.ensures.read

pub returns-in-Err-2 : goal.returns-in-Err-2
returns-in-Err-2 c = (
  c.in-Ok.defs,
  at_ok c.in_ok-cause.field-0 c.in-Ok.defs _ _ c.in-Ok.is c.in_ok-cause.ensures.read,
  at_err c.in_ok-fault-in-Ok.field-0 c.in-Err-2.fault _ _ c.in-Err-2.is c.in_ok-fault-in-Ok.ensures,
)

pub returns-in-Ok-2 : goal.returns-in-Ok-2
returns-in-Ok-2 c =
    let unit = unit_of c.args.typed.unit in
    let binds = at_ok c.in_ok-fault-in-Ok.field-0 c.in-Ok-2.bound _ _ c.in-Ok-2.is c.in_ok-fault-in-Ok.ensures in
    let read = at_ok c.in_ok-cause.field-0 c.in-Ok.defs _ _ c.in-Ok.is c.in_ok-cause.ensures.read in (
      binds.0.same_typed,
      subst (λ (ds : List Def). AreDefinitions unit ds c.args.definitions.now) (sym binds.0.same_defs) read,
      subst (λ (ds : List Def). IsBound unit ds) (sym binds.0.same_defs) binds.1,
    )
