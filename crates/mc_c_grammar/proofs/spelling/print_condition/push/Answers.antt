use Rattle.std.proofs.Common.{◌≡◌, [], ◌∷◌, ◌++◌}
use Rattle.mc_c_grammar.proofs.SpellingLemmas.Parts.{condition_words_pushed, condition_steps_pushed}
use Rattle.mc_c_grammar.proofs.spelling.print_condition.push.Goals as goal

pub returns : goal.returns
returns c =
    let e : c.push.new.self.items ≡ c.args.parts.now.items ++ c.args.part ∷ [] = c.in_ok-push.ensures.items in
    rw e record { words = condition_words_pushed c.args.parts.now.items c.args.part; steps = condition_steps_pushed c.args.parts.now.items c.args.part }
