use Rattle.std.proofs.Common.{drop}
use Rattle.mc_c_grammar.specs.Spelling.Words.{Continues, more_words, declarator_words}
use Rattle.mc_c_grammar.proofs.spelling.print_struct.print_more_declarators.Given as goal

abbrev pub invariant-loop-declarator : goal.invariant-loop-declarator
invariant-loop-declarator l = Continues l.initial.out.items (more_words declarator_words l.declarators) l.out.items (more_words declarator_words (drop l.declarator-index l.declarators))
