use Rattle.std.proofs.Common.{drop, map}
use Rattle.mc_c_syntax.specs.Ast.Views.{field_of}
use Rattle.mc_c_grammar.specs.Spelling.Words.{Continues, all_words, field_list_words}
use Rattle.mc_c_grammar.proofs.spelling.print_struct.print_field_lists.Given as goal

abbrev pub invariant-loop-field : goal.invariant-loop-field
invariant-loop-field l = Continues l.initial.out.items (all_words field_list_words (map field_of l.fields)) l.out.items (all_words field_list_words (map field_of (drop l.field-index l.fields)))
