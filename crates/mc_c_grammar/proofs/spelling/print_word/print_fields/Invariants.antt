use Rattle.std.proofs.Common.{drop}
use Rattle.mc_c_grammar.specs.Spelling.Words.{Continues, field_words}
use Rattle.mc_c_grammar.proofs.spelling.print_word.print_fields.Given as goal

abbrev pub invariant-loop-field : goal.invariant-loop-field
invariant-loop-field l = Continues l.initial.out.items (field_words l.fields) l.out.items (field_words (drop l.field-index l.fields))
