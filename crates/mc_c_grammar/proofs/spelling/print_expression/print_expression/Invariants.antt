use Rattle.mc_c_grammar.specs.Spelling.Printing.{expression_parts_words, expression_parts_steps}
use Rattle.mc_c_syntax.specs.Ast.Views.{expression_of}
use Rattle.mc_c_grammar.specs.Spelling.Words.{Continues, expression_words}
use Rattle.mc_c_grammar.proofs.spelling.print_expression.print_expression.Given as goal

abbrev pub invariant-loop-part : goal.invariant-loop-part
invariant-loop-part l = Continues l.fn.out.items (expression_words (expression_of l.expression)) l.out.items (expression_parts_words l.parts.items)

abbrev pub decreases-loop-part : goal.decreases-loop-part
decreases-loop-part l = expression_parts_steps l.parts.items
