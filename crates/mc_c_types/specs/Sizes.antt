-- How large trees are.
use denote.Bor.{Bor}
use Rattle.std.specs.Prelude.{ℕ, ◌+◌, suc, List, [], ◌∷◌}
use Rattle.mc_c_syntax.specs.declared.ast.trees.Condition.{Condition}
use Rattle.mc_c_syntax.specs.declared.ast.trees.Expression.{Expression}
use Rattle.mc_c_syntax.specs.Ast.Views.{condition_of, expression_of}
use Rattle.mc_c_syntax.specs.Ast.Trees.{Expr, number, null, input, value, minus, parens, times, plus, difference, Cond, plain, compare, negation, enclosed, both, either}

abbrev pub expression_size : Expr → ℕ
expression_size (number n p) = 1
expression_size (null p) = 1
expression_size (input p) = 1
expression_size (value l) = 1
expression_size (minus p e) = suc (expression_size e)
expression_size (parens p e) = suc (expression_size e)
expression_size (times a b) = suc (expression_size a + expression_size b)
expression_size (plus a b) = suc (expression_size a + expression_size b)
expression_size (difference a b) = suc (expression_size a + expression_size b)

abbrev pub condition_size : Cond → ℕ
condition_size (plain e) = 1
condition_size (compare c a b) = 1
condition_size (negation p c) = suc (condition_size c)
condition_size (enclosed p c) = suc (condition_size c)
condition_size (both c d) = suc (condition_size c + condition_size d)
condition_size (either c d) = suc (condition_size c + condition_size d)

-- those that wait
abbrev pub expressions_size : List (Bor Expression) → ℕ
expressions_size [] = 0
expressions_size (e ∷ es) = expression_size (expression_of e.now) + expressions_size es

abbrev pub conditions_size : List (Bor Condition) → ℕ
conditions_size [] = 0
conditions_size (c ∷ cs) = condition_size (condition_of c.now) + conditions_size cs
