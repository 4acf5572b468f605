use Rattle.std.proofs.Common.{◌-◌, length}
use Rattle.mc_c_syntax.specs.Ast.Views.{function_of}
use Rattle.mc_c_types.specs.Held.{tables_held}
use Rattle.mc_c_check.proofs.Alike.{repeats_one}
use Rattle.mc_c_check.proofs.prototypes.is_repeat.Goals as goal

pub returns-in-Some : goal.returns-in-Some
returns-in-Some c =
    λ e. repeats_one (tables_held c.args.tables.now) (function_of c.args.function.now) c.args.others.now (length c.args.others.now - 1) c.in-Some.other.now c.in-Some.ensures.value (c.are_alike.ensures e)
