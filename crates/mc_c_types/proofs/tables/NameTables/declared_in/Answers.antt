use Rattle.std.proofs.Common.{Some, None, ap}
use Rattle.mc_c_syntax.specs.Ast.Names.{is_same}
use Rattle.mc_c_types.specs.Tables.{variable_of}
use Rattle.mc_c_types.specs.Held.{tables_held}
use Rattle.mc_c_types.proofs.Finds.{find-read}
use Rattle.mc_c_types.proofs.tables.NameTables.declared_in.Goals as goal

pub returns-in-None : goal.returns-in-None
returns-in-None c =
    find-read (λ v. v.type) (λ v. is_same v.name c.args.name.now) (variable_of (tables_held c.args.self.now) c.args.base.now) c.args.declarators.now None c.in-None.ensures

pub returns-in-Some : goal.returns-in-Some
returns-in-Some c =
    rw c.declared.ensures
    (find-read (λ v. v.type) (λ v. is_same v.name c.args.name.now) (variable_of (tables_held c.args.self.now) c.args.base.now) c.args.declarators.now (Some c.in-Some.found.now) c.in-Some.ensures)
