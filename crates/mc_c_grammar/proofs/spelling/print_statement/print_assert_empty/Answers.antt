use Rattle.std.proofs.Common.{◌∷◌, ◌∙◌, codes}
use Rattle.mc_c_grammar.proofs.spelling.print_statement.print_assert_empty.Goals as goal

pub returns : goal.returns
returns c = λ more. c.in_ok-print_opening.ensures (codes ")" ∷ codes ";" ∷ more) ∙ c.in_ok-print_ending.ensures more
