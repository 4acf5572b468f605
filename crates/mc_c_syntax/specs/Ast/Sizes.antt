-- How many trees stand in a tree, itself among them.
use Rattle.std.specs.Prelude.{ℕ, ◌+◌, box_value, sum}
use Rattle.mc_c_syntax.specs.declared.ast.trees.Expression.{Expression, fold-Expression}
use Rattle.mc_c_syntax.specs.declared.ast.trees.Expression.TheOpen.{Expression-F}
use Rattle.mc_c_syntax.specs.declared.ast.trees.Condition.{Condition, fold-Condition}
use Rattle.mc_c_syntax.specs.declared.ast.trees.Condition.TheOpen.{Condition-F}
use Rattle.mc_c_syntax.specs.declared.ast.trees.Statement.{Statement, fold-Statement}
use Rattle.mc_c_syntax.specs.declared.ast.trees.Statement.TheOpen.{Statement-F}

abbrev expression_step : Expression-F ℕ → ℕ
expression_step (Expression-F.Minus p e) = box_value e + 1
expression_step (Expression-F.Parens p e) = box_value e + 1
expression_step (Expression-F.Times a b) = box_value a + box_value b + 1
expression_step (Expression-F.Plus a b) = box_value a + box_value b + 1
expression_step (Expression-F.Difference a b) = box_value a + box_value b + 1
expression_step _ = 1

abbrev pub expression_size : Expression → ℕ
expression_size = fold-Expression ℕ expression_step

abbrev condition_step : Condition-F ℕ → ℕ
condition_step (Condition-F.Not p c) = box_value c + 1
condition_step (Condition-F.Parens p c) = box_value c + 1
condition_step (Condition-F.Both a b) = box_value a + box_value b + 1
condition_step (Condition-F.Either a b) = box_value a + box_value b + 1
condition_step _ = 1

abbrev pub condition_size : Condition → ℕ
condition_size = fold-Condition ℕ condition_step

abbrev statement_step : Statement-F ℕ → ℕ
statement_step (Statement-F.Block p ss) = sum ss.items + 1
statement_step (Statement-F.If p c s) = box_value s + 1
statement_step (Statement-F.IfElse p c s t) = box_value s + box_value t + 1
statement_step (Statement-F.While p c s) = box_value s + 1
statement_step (Statement-F.Do p s c) = box_value s + 1
statement_step (Statement-F.For h s) = box_value s + 1
statement_step _ = 1

abbrev pub statement_size : Statement → ℕ
statement_size = fold-Statement ℕ statement_step
