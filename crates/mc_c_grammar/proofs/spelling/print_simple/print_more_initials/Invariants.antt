use Rattle.std.proofs.Common.{drop, map}
use Rattle.mc_c_syntax.specs.Ast.Views.{initial_of}
use Rattle.mc_c_grammar.specs.Spelling.Words.{Continues, more_words, initial_words}
use Rattle.mc_c_grammar.proofs.spelling.print_simple.print_more_initials.Given as goal

abbrev pub invariant-loop-initial : goal.invariant-loop-initial
invariant-loop-initial l = Continues l.initial.out.items (more_words initial_words (map initial_of l.initials)) l.out.items (more_words initial_words (map initial_of (drop l.initial-index l.initials)))
