use Rattle.std.proofs.Common.{◌∷◌, ◌∙◌, codes}
use Rattle.mc_c_grammar.specs.Spelling.Words.{more_words, argument_words}
use Rattle.mc_c_grammar.proofs.spelling.print_statement.print_assume_shape.Goals as goal

pub returns : goal.returns
returns c = λ more.
    let rest = codes "," ∷ c.args.shape.now.variable.text ∷ more_words argument_words c.args.shape.now.arguments.items (codes ")" ∷ codes ";" ∷ more) in
    c.in_ok-print_opening.ensures (c.args.shape.now.predicate.text ∷ rest) ∙ (c.in_ok-print_name.ensures rest ∙ c.in_ok-print_variable.ensures more)
