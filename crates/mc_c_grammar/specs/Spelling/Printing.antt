-- What is still to be printed: the last part is printed first.
use Rattle.std.specs.Prelude.{ℕ, ◌+◌, List, [], ◌∷◌, map, codes}
use Rattle.mc_c_grammar.specs.declared.spelling.print_expression.ExpressionPart.{ExpressionPart}
use Rattle.mc_c_grammar.specs.declared.spelling.print_expression.ExpressionPart.TheVariants as Expression
use Rattle.mc_c_grammar.specs.declared.spelling.print_condition.ConditionPart.{ConditionPart}
use Rattle.mc_c_grammar.specs.declared.spelling.print_condition.ConditionPart.TheVariants as Condition
use Rattle.mc_c_grammar.specs.declared.spelling.print_statement.StatementPart.{StatementPart}
use Rattle.mc_c_grammar.specs.declared.spelling.print_statement.StatementPart.TheVariants as Statement
use Rattle.mc_c_syntax.specs.Ast.Trees.{Stmt, declaration, block, empty, simple, free, assert, assume, assume_shape}
use Rattle.mc_c_syntax.specs.Ast.Trees.{assert_shape, assert_empty, if_only, if_else, while_loop, do_loop, for_loop}
use Rattle.mc_c_syntax.specs.Ast.Trees.{break_loop, continue_loop, returns, Stmts, no_more, then, stmts_of}
use Rattle.mc_c_syntax.specs.Ast.Trees.{Expr, number, null, input, value, minus, parens, times, plus, difference, Cond, plain, compare, negation, enclosed, both, either}
use Rattle.mc_c_syntax.specs.Ast.Views.{expression_of, condition_of, statement_of}
use Rattle.mc_c_grammar.specs.Spelling.Words.{Words, expression_words, condition_words, statement_words, statements_words}

abbrev pub expression_part_words : ExpressionPart → Words → Words
expression_part_words (Expression.Whole e) more = expression_words (expression_of e.now) more
expression_part_words (Expression.Mark mark) more = mark.now ∷ more

abbrev pub expression_parts_words : List ExpressionPart → Words → Words
expression_parts_words [] more = more
expression_parts_words (part ∷ parts) more = expression_parts_words parts (expression_part_words part more)

-- how many steps it takes to print an expression
abbrev pub expression_steps : Expr → ℕ
expression_steps (number n p) = 1
expression_steps (null p) = 1
expression_steps (input p) = 1
expression_steps (value l) = 1
expression_steps (minus p e) = expression_steps e + 1
expression_steps (parens p e) = expression_steps e + 2
expression_steps (times a b) = expression_steps a + expression_steps b + 2
expression_steps (plus a b) = expression_steps a + expression_steps b + 2
expression_steps (difference a b) = expression_steps a + expression_steps b + 2

abbrev pub expression_part_steps : ExpressionPart → ℕ
expression_part_steps (Expression.Whole e) = expression_steps (expression_of e.now)
expression_part_steps (Expression.Mark mark) = 1

abbrev pub expression_parts_steps : List ExpressionPart → ℕ
expression_parts_steps [] = 0
expression_parts_steps (part ∷ parts) = expression_part_steps part + expression_parts_steps parts

abbrev pub condition_part_words : ConditionPart → Words → Words
condition_part_words (Condition.Whole c) more = condition_words (condition_of c.now) more
condition_part_words (Condition.Mark mark) more = mark.now ∷ more

abbrev pub condition_parts_words : List ConditionPart → Words → Words
condition_parts_words [] more = more
condition_parts_words (part ∷ parts) more = condition_parts_words parts (condition_part_words part more)

-- how many steps it takes to print a condition
abbrev pub condition_steps : Cond → ℕ
condition_steps (plain e) = 1
condition_steps (compare mark a b) = 1
condition_steps (negation p c) = condition_steps c + 1
condition_steps (enclosed p c) = condition_steps c + 2
condition_steps (both a b) = condition_steps a + condition_steps b + 2
condition_steps (either a b) = condition_steps a + condition_steps b + 2

abbrev pub condition_part_steps : ConditionPart → ℕ
condition_part_steps (Condition.Whole c) = condition_steps (condition_of c.now)
condition_part_steps (Condition.Mark mark) = 1

abbrev pub condition_parts_steps : List ConditionPart → ℕ
condition_parts_steps [] = 0
condition_parts_steps (part ∷ parts) = condition_part_steps part + condition_parts_steps parts

abbrev pub statement_part_words : StatementPart → Words → Words
statement_part_words (Statement.Whole s) more = statement_words (statement_of s.now) more
statement_part_words (Statement.Several ss) more = statements_words (stmts_of (map statement_of ss.now)) more
statement_part_words (Statement.Mark mark) more = mark.now ∷ more
statement_part_words (Statement.Until c) more = codes "while"
    ∷ codes "(" ∷ condition_words (condition_of c.now) (codes ")" ∷ codes ";" ∷ more)

abbrev pub statement_parts_words : List StatementPart → Words → Words
statement_parts_words [] more = more
statement_parts_words (part ∷ parts) more = statement_parts_words parts (statement_part_words part more)

-- how many steps it takes to print a statement
abbrev mutual
  pub statement_steps : Stmt → ℕ
  statement_steps (declaration d) = 1
  statement_steps (block p ss) = statements_steps ss + 2
  statement_steps (empty p) = 1
  statement_steps (simple s) = 1
  statement_steps (free p e) = 1
  statement_steps (assert p c) = 1
  statement_steps (assume p c) = 1
  statement_steps (assume_shape p predicate variable args) = 1
  statement_steps (assert_shape p predicate start args) = 1
  statement_steps (assert_empty p) = 1
  statement_steps (if_only p c s) = statement_steps s + 1
  statement_steps (if_else p c s t) = statement_steps s + statement_steps t + 2
  statement_steps (while_loop p c s) = statement_steps s + 1
  statement_steps (do_loop p s c) = statement_steps s + 2
  statement_steps (for_loop h s) = statement_steps s + 1
  statement_steps (break_loop p) = 1
  statement_steps (continue_loop p) = 1
  statement_steps (returns p r) = 1

  pub statements_steps : Stmts → ℕ
  statements_steps no_more = 1
  statements_steps (then s ss) = statement_steps s + statements_steps ss + 1

abbrev pub statement_part_steps : StatementPart → ℕ
statement_part_steps (Statement.Whole s) = statement_steps (statement_of s.now)
statement_part_steps (Statement.Several ss) = statements_steps (stmts_of (map statement_of ss.now))
statement_part_steps (Statement.Mark mark) = 1
statement_part_steps (Statement.Until c) = 1

abbrev pub statement_parts_steps : List StatementPart → ℕ
statement_parts_steps [] = 0
statement_parts_steps (part ∷ parts) = statement_part_steps part + statement_parts_steps parts
