use Rattle.std.proofs.Common.{◌≡◌, [], ◌∷◌, ◌++◌, append_assoc}
use Rattle.mc_c_grammar.specs.Spelling.Words.{text_of}
use Rattle.mc_c_grammar.proofs.spelling.print_word.print_word.Goals as goal

pub returns : goal.returns
unfolding text_of
returns c = λ more.
    let p : c.push.new.self.items ≡ c.extend_from_slice.new.self.items ++ c.gap.result ∷ [] = c.in_ok-push.ensures.items in
    let e : c.extend_from_slice.new.self.items ≡ c.args.out.now.items ++ c.args.word.now = c.in_ok-extend_from_slice.ensures.items in
    rw (p, e, c.gap.ensures) (simp append_assoc)
