use Rattle.mc_c_syntax.specs.Ast.Views.{left_of}
use Rattle.mc_c_types.specs.Faults.{left_faults, left_type, unless}
use Rattle.mc_c_types.specs.Held.{tables_held, variables_held}
use Rattle.mc_c_types.specs.Types.{is_int}
use Rattle.mc_c_types.specs.declared.faults.FaultName.TheVariants.{Mismatch}
use Rattle.mc_c_types.specs.declared.types.ValueType.TheVariants.{Typed}
use Rattle.mc_c_types.proofs.Orders.{told_then}
use Rattle.mc_c_types.proofs.expressions.VisibleNames.check_changed.Goals as goal

pub returns : goal.returns
returns c =
    rw c.unless.ensures
    (rw c.is_int.ensures
    (rw c.left_type.ensures
    (rw c.check_left.ensures
    (told_then c.args.told.now.fault (left_faults (tables_held c.args.self.now.tables.now) (variables_held c.args.self.now.scope.now) (left_of c.args.left.now)) (unless (is_int (Typed (left_type (tables_held c.args.self.now.tables.now) (variables_held c.args.self.now.scope.now) (left_of c.args.left.now)))) Mismatch c.args.left.now.name.place)))))
