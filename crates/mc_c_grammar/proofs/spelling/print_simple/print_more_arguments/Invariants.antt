use Rattle.std.proofs.Common.{drop}
use Rattle.mc_c_grammar.specs.Spelling.Words.{Continues, more_words, argument_words}
use Rattle.mc_c_grammar.proofs.spelling.print_simple.print_more_arguments.Given as goal

abbrev pub invariant-loop-argument : goal.invariant-loop-argument
invariant-loop-argument l = Continues l.initial.out.items (more_words argument_words l.arguments) l.out.items (more_words argument_words (drop l.argument-index l.arguments))
