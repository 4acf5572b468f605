use Rattle.std.proofs.Common.{drop, map}
use Rattle.mc_c_syntax.specs.Ast.Views.{expression_of}
use Rattle.mc_c_grammar.specs.Spelling.Words.{Continues, more_words, expression_words}
use Rattle.mc_c_grammar.proofs.spelling.print_right.print_more_expressions.Given as goal

abbrev pub invariant-loop-expression : goal.invariant-loop-expression
invariant-loop-expression l = Continues l.initial.out.items (more_words expression_words (map expression_of l.expressions)) l.out.items (more_words expression_words (map expression_of (drop l.expression-index l.expressions)))
