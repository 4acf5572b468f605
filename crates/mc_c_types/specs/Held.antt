-- What the code holds, as data.
use Rattle.std.specs.Prelude.{List, map, flat_map, reverse}
use denote.Bor.{Bor}
use Rattle.mc_c_syntax.specs.declared.ast.trees.Condition.{Condition}
use Rattle.mc_c_syntax.specs.declared.ast.trees.Expression.{Expression}
use Rattle.mc_c_syntax.specs.Ast.Views.{condition_of, expression_of, struct_of, function_of}
use Rattle.mc_c_types.specs.Tables.{Tables, Alias, Variable}
use Rattle.mc_c_types.specs.Faults.{condition_faults, expression_faults}
use Rattle.mc_c_types.specs.declared.faults.Fault.{Fault}
use Rattle.mc_c_types.specs.declared.scope.Named.{Named}
use Rattle.mc_c_types.specs.declared.tables.Meaning.{Meaning}
use Rattle.mc_c_types.specs.declared.tables.NameTables.{NameTables}

-- the variables, of which the code has the innermost last
abbrev pub variable_held : Named → Variable
variable_held v = record { name = v.name.now; place = v.place; type = v.variable_type }

abbrev pub variables_held : List Named → List Variable
variables_held vs = map variable_held (reverse vs)

-- the tables
abbrev pub alias_held : Meaning → Alias
alias_held a = record { name = a.name.now; meaning = a.meaning }

abbrev pub tables_held : NameTables → Tables
tables_held t = record {
  structs = map (λ s. struct_of s.now) t.structs;
  aliases = map alias_held t.aliases;
  functions = map
      (λ f. function_of f.now) t.functions;
}

-- the faults of expressions that wait
abbrev pub expressions_faults : Tables → List Variable → List (Bor Expression) → List Fault
expressions_faults t vs es = flat_map (λ e. expression_faults t vs (expression_of e.now)) es

abbrev pub conditions_faults : Tables → List Variable → List (Bor Condition) → List Fault
conditions_faults t vs cs = flat_map (λ c. condition_faults t vs (condition_of c.now)) cs
