-- What stands on the stacks of printing, with one part more.
use Rattle.std.proofs.Common.{◌≡◌, ◌+◌, List, [], ◌∷◌, ◌++◌, refl, arith}
use Rattle.mc_c_grammar.specs.declared.spelling.print_expression.ExpressionPart.{ExpressionPart}
use Rattle.mc_c_grammar.specs.declared.spelling.print_condition.ConditionPart.{ConditionPart}
use Rattle.mc_c_grammar.specs.declared.spelling.print_statement.StatementPart.{StatementPart}
use Rattle.mc_c_grammar.specs.Spelling.Printing.{expression_part_steps, expression_part_words, expression_parts_steps, expression_parts_words, condition_part_steps, condition_part_words, condition_parts_steps, condition_parts_words, statement_part_steps, statement_part_words, statement_parts_steps, statement_parts_words}
use Rattle.mc_c_grammar.specs.Spelling.Words.{Words}

pub expression_words_pushed : (parts : List ExpressionPart) (part : ExpressionPart) (more : Words) → expression_parts_words (parts ++ part ∷ []) more ≡ expression_part_words part (expression_parts_words parts more)
expression_words_pushed [] part more = refl
expression_words_pushed (first ∷ parts) part more = expression_words_pushed parts part (expression_part_words first more)

pub expression_steps_pushed : (parts : List ExpressionPart) (part : ExpressionPart) → expression_parts_steps (parts ++ part ∷ []) ≡ expression_parts_steps parts + expression_part_steps part
expression_steps_pushed [] part = omega arith
expression_steps_pushed (first ∷ parts) part = omega (arith, expression_steps_pushed parts part)

pub condition_words_pushed : (parts : List ConditionPart) (part : ConditionPart) (more : Words) → condition_parts_words (parts ++ part ∷ []) more ≡ condition_part_words part (condition_parts_words parts more)
condition_words_pushed [] part more = refl
condition_words_pushed (first ∷ parts) part more = condition_words_pushed parts part (condition_part_words first more)

pub condition_steps_pushed : (parts : List ConditionPart) (part : ConditionPart) → condition_parts_steps (parts ++ part ∷ []) ≡ condition_parts_steps parts + condition_part_steps part
condition_steps_pushed [] part = omega arith
condition_steps_pushed (first ∷ parts) part = omega (arith, condition_steps_pushed parts part)

pub statement_words_pushed : (parts : List StatementPart) (part : StatementPart) (more : Words) → statement_parts_words (parts ++ part ∷ []) more ≡ statement_part_words part (statement_parts_words parts more)
statement_words_pushed [] part more = refl
statement_words_pushed (first ∷ parts) part more = statement_words_pushed parts part (statement_part_words first more)

pub statement_steps_pushed : (parts : List StatementPart) (part : StatementPart) → statement_parts_steps (parts ++ part ∷ []) ≡ statement_parts_steps parts + statement_part_steps part
statement_steps_pushed [] part = omega arith
statement_steps_pushed (first ∷ parts) part = omega (arith, statement_steps_pushed parts part)
