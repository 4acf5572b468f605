use Rattle.std.proofs.Common.{not}
use Rattle.std.specs.List.{list_any}
use Rattle.mc_c_syntax.specs.Ast.Views.{function_of}
use Rattle.mc_c_types.specs.Faults.{is_other}
use Rattle.mc_c_types.specs.Held.{tables_held}
use Rattle.mc_c_types.specs.declared.faults.Fault.{Fault}
use Rattle.mc_c_types.specs.declared.faults.FaultName.TheVariants.{Mismatch}
use Rattle.mc_c_check.proofs.Alike.{behind_all}
use Rattle.mc_c_check.proofs.prototypes.check_prototype.Goals as goal

pub returns-then-is_behind : goal.returns-then-is_behind
returns-then-is_behind c =
    let fault : Fault = record { name = Mismatch; place = c.args.function.now.name.place } in
    behind_all c.args.told.now.fault fault (not (list_any (λ f. is_other (tables_held c.args.tables.now) (function_of c.args.function.now) (function_of f.now)) c.args.others.now)) (c.is_behind.ensures.0 c.if-is_behind.true)
