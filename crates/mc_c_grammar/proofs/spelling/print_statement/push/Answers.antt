use Rattle.std.proofs.Common.{◌≡◌, [], ◌∷◌, ◌++◌}
use Rattle.mc_c_grammar.proofs.SpellingLemmas.Parts.{statement_words_pushed, statement_steps_pushed}
use Rattle.mc_c_grammar.proofs.spelling.print_statement.push.Goals as goal

pub returns : goal.returns
returns c =
    let e : c.push.new.self.items ≡ c.args.parts.now.items ++ c.args.part ∷ [] = c.in_ok-push.ensures.items in
    rw e record { words = statement_words_pushed c.args.parts.now.items c.args.part; steps = statement_steps_pushed c.args.parts.now.items c.args.part }
