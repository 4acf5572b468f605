use Rattle.std.proofs.Common.{drop}
use Rattle.mc_c_grammar.specs.Spelling.Words.{Continues, more_words, parameter_words}
use Rattle.mc_c_grammar.proofs.spelling.print.print_more_parameters.Given as goal

abbrev pub invariant-loop-parameter : goal.invariant-loop-parameter
invariant-loop-parameter l = Continues l.initial.out.items (more_words parameter_words l.parameters) l.out.items (more_words parameter_words (drop l.parameter-index l.parameters))
