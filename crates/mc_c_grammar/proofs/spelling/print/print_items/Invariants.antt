use Rattle.std.proofs.Common.{drop, map}
use Rattle.mc_c_syntax.specs.Ast.Views.{item_of}
use Rattle.mc_c_grammar.specs.Spelling.Words.{Continues, all_words, item_words}
use Rattle.mc_c_grammar.proofs.spelling.print.print_items.Given as goal

abbrev pub invariant-loop-item : goal.invariant-loop-item
invariant-loop-item l = Continues l.initial.out.items (all_words item_words (map item_of l.items)) l.out.items (all_words item_words (map item_of (drop l.item-index l.items)))
