use Rattle.std.proofs.Common.{◌≡◌, [], ◌∷◌, ◌++◌}
use Rattle.mc_c_grammar.proofs.SpellingLemmas.Parts.{expression_words_pushed, expression_steps_pushed}
use Rattle.mc_c_grammar.proofs.spelling.print_expression.push.Goals as goal

pub returns : goal.returns
returns c =
    let e : c.push.new.self.items ≡ c.args.parts.now.items ++ c.args.part ∷ [] = c.in_ok-push.ensures.items in
    rw e record { words = expression_words_pushed c.args.parts.now.items c.args.part; steps = expression_steps_pushed c.args.parts.now.items c.args.part }
