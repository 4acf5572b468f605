use Rattle.mc_c_grammar.specs.Spelling.Printing.{condition_parts_words, condition_parts_steps}
use Rattle.mc_c_syntax.specs.Ast.Views.{condition_of}
use Rattle.mc_c_grammar.specs.Spelling.Words.{Continues, condition_words}
use Rattle.mc_c_grammar.proofs.spelling.print_condition.print_condition.Given as goal

abbrev pub invariant-loop-part : goal.invariant-loop-part
invariant-loop-part l = Continues l.fn.out.items (condition_words (condition_of l.condition)) l.out.items (condition_parts_words l.parts.items)

abbrev pub decreases-loop-part : goal.decreases-loop-part
decreases-loop-part l = condition_parts_steps l.parts.items
