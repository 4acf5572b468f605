use Rattle.std.proofs.Common.{◌∷◌, ◌∙◌, codes}
use Rattle.mc_c_grammar.proofs.spelling.print_right.print_size.Goals as goal

pub returns-in_ok-print_word-in-OfParens-2 : goal.returns-in_ok-print_word-in-OfParens-2
returns-in_ok-print_word-in-OfParens-2 c = λ more. rw c.in-OfParens.is (
    c.in_ok-print_opening-in-OfParens.ensures (codes "*" ∷ c.in-OfParens.name.text ∷ codes ")" ∷ more)
    ∙ (c.in_ok-print_word-in-OfParens.ensures (c.in-OfParens.name.text ∷ codes ")" ∷ more)
    ∙ (c.in_ok-print_name-in-OfParens.ensures (codes ")" ∷ more)
    ∙ c.in_ok-print_word-in-OfParens-2.ensures more)))
