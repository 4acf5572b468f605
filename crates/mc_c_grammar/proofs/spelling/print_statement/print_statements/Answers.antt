use Rattle.std.proofs.Common.{◌≡◌, [], ◌∷◌, ◌++◌, ◌∙◌, arith}
use Rattle.mc_c_grammar.specs.Spelling.Printing.{statement_parts_words}
use Rattle.mc_c_grammar.proofs.SpellingLemmas.Parts.{statement_words_pushed, statement_steps_pushed}
use Rattle.mc_c_grammar.proofs.spelling.print_statement.print_statements.Goals as goal

pub loop-part-smaller-in-Continue-branch-2 : goal.loop-part-smaller-in-Continue-branch-2
loop-part-smaller-in-Continue-branch-2 c =
    let i : c.loop-part.parts.items ≡ c.pop.new.self.items ++ c.in-Some.part ∷ [] = c.in-Some.ensures.items in
    let s = statement_steps_pushed c.pop.new.self.items c.in-Some.part in
    rw (i, s, c.in-Mark.is) (omega arith)

pub loop-part-preserved-in-Continue-branch-2 : goal.loop-part-preserved-in-Continue-branch-2
loop-part-preserved-in-Continue-branch-2 c = λ more.
    let i : c.loop-part.parts.items ≡ c.pop.new.self.items ++ c.in-Some.part ∷ [] = c.in-Some.ensures.items in
    let h = rw i at (c.loop-part.invariant more) in
    let w = statement_words_pushed c.pop.new.self.items c.in-Some.part more in
    (rw (w, c.in-Mark.is) at h) ∙ c.in_ok-print_word-in-Mark.ensures (statement_parts_words c.pop.new.self.items more)

pub loop-part-smaller-in-Continue-branch-3 : goal.loop-part-smaller-in-Continue-branch-3
loop-part-smaller-in-Continue-branch-3 c =
    let i : c.loop-part.parts.items ≡ c.pop.new.self.items ++ c.in-Some.part ∷ [] = c.in-Some.ensures.items in
    let s = statement_steps_pushed c.pop.new.self.items c.in-Some.part in
    rw (i, s, c.in-Whole.is) c.in_ok-print_first-in-Whole.ensures.steps

pub loop-part-preserved-in-Continue-branch-3 : goal.loop-part-preserved-in-Continue-branch-3
loop-part-preserved-in-Continue-branch-3 c = λ more.
    let i : c.loop-part.parts.items ≡ c.pop.new.self.items ++ c.in-Some.part ∷ [] = c.in-Some.ensures.items in
    let h = rw i at (c.loop-part.invariant more) in
    let w = statement_words_pushed c.pop.new.self.items c.in-Some.part more in
    (rw (w, c.in-Whole.is) at h) ∙ c.in_ok-print_first-in-Whole.ensures.prints more

pub loop-part-smaller-in-Continue-branch-4 : goal.loop-part-smaller-in-Continue-branch-4
loop-part-smaller-in-Continue-branch-4 c =
    let i : c.loop-part.parts.items ≡ c.pop.new.self.items ++ c.in-Some.part ∷ [] = c.in-Some.ensures.items in
    let s = statement_steps_pushed c.pop.new.self.items c.in-Some.part in
    rw (i, s, c.in-Several.is) c.in_ok-push_several-in-Several.ensures.steps

pub loop-part-preserved-in-Continue-branch-4 : goal.loop-part-preserved-in-Continue-branch-4
loop-part-preserved-in-Continue-branch-4 c = λ more.
    let i : c.loop-part.parts.items ≡ c.pop.new.self.items ++ c.in-Some.part ∷ [] = c.in-Some.ensures.items in
    let h = rw i at (c.loop-part.invariant more) in
    let w = statement_words_pushed c.pop.new.self.items c.in-Some.part more in
    let e = c.in_ok-push_several-in-Several.ensures.words more in
    rw e (rw (w, c.in-Several.is) at h)

pub loop-part-smaller : goal.loop-part-smaller
loop-part-smaller c =
    let i : c.loop-part.parts.items ≡ c.pop.new.self.items ++ c.in-Some.part ∷ [] = c.in-Some.ensures.items in
    let s = statement_steps_pushed c.pop.new.self.items c.in-Some.part in
    rw (i, s, c.in-Until.is) (omega arith)

pub loop-part-preserved : goal.loop-part-preserved
loop-part-preserved c = λ more.
    let i : c.loop-part.parts.items ≡ c.pop.new.self.items ++ c.in-Some.part ∷ [] = c.in-Some.ensures.items in
    let h = rw i at (c.loop-part.invariant more) in
    let w = statement_words_pushed c.pop.new.self.items c.in-Some.part more in
    (rw (w, c.in-Until.is) at h) ∙ c.in_ok-print_checked-in-Until.ensures (statement_parts_words c.pop.new.self.items more)
