use Rattle.std.proofs.Common.{map}
use Rattle.mc_c_syntax.specs.Ast.Trees.{stmts_of}
use Rattle.mc_c_grammar.specs.Spelling.Printing.{statement_parts_words, statement_parts_steps}
use Rattle.mc_c_syntax.specs.Ast.Views.{statement_of}
use Rattle.mc_c_grammar.specs.Spelling.Words.{Continues, statements_words}
use Rattle.mc_c_grammar.proofs.spelling.print_statement.print_statements.Given as goal

abbrev pub invariant-loop-part : goal.invariant-loop-part
invariant-loop-part l = Continues l.fn.out.items (statements_words (stmts_of (map statement_of l.statements))) l.out.items (statement_parts_words l.parts.items)

abbrev pub decreases-loop-part : goal.decreases-loop-part
decreases-loop-part l = statement_parts_steps l.parts.items
