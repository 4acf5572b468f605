use Rattle.std.proofs.Common.{flat_map}
use Rattle.mc_c_syntax.specs.Ast.Views.{aliased_of}
use Rattle.mc_c_types.specs.Faults.{alias_faults, aliased_base, aliased_faults}
use Rattle.mc_c_types.specs.Held.{tables_held}
use Rattle.mc_c_check.proofs.Rows.{noted_two}
use Rattle.mc_c_check.proofs.structs.check_typedef.Goals as goal

pub returns : goal.returns
returns c =
    noted_two c.args.told.now.fault c.check_aliased.new.told.fault c.check_aliases.new.told.fault
    (aliased_faults (tables_held c.args.tables.now) (aliased_of c.args.typedef.now.aliased))
    (flat_map (alias_faults (tables_held c.args.tables.now) (aliased_base (aliased_of c.args.typedef.now.aliased))) c.args.typedef.now.declarators.items)
    c.in_ok-check_aliased.ensures
    (rw c.as_slice.ensures.value at c.check_aliases.ensures)
