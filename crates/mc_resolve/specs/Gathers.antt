-- Statements of which the variables are still to be listed, the next first.
use Rattle.std.specs.Prelude.{ℕ, ◌+◌, List, [], ◌∷◌, ◌++◌, map}
use Rattle.mc_c_syntax.specs.Ast.Trees.{stmts_of}
use Rattle.mc_c_syntax.specs.Ast.Views.{statement_of}
use Rattle.mc_c_types.specs.Tables.{Tables, Variable}
use Rattle.mc_semantics.specs.Resolved.Resolving.{statement_variables, statements_variables}
use Rattle.mc_c_walk.specs.Tasks.{statement_steps, statements_steps}
use Rattle.mc_resolve.specs.declared.gather.Rest.{Rest}

-- the variables that they declare
abbrev pub left_variables : Tables → List Rest → List Variable
left_variables t [] = []
left_variables t (Rest.One a ∷ rest) = statement_variables t (statement_of a.now) ++ left_variables t rest
left_variables t (Rest.Several ss ∷ rest) = statements_variables t (stmts_of (map statement_of ss.now)) ++ left_variables t rest

-- how many steps it takes
abbrev pub rest_steps : List Rest → ℕ
rest_steps [] = 0
rest_steps (Rest.One a ∷ rest) = statement_steps (statement_of a.now) + rest_steps rest
rest_steps (Rest.Several ss ∷ rest) = statements_steps (stmts_of (map statement_of ss.now)) + rest_steps rest
