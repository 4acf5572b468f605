use Rattle.std.proofs.Common.{◌≡◌, ◌∙◌, Some, None, sym}
use Rattle.mc_find_paths.proofs.next.asked.at_instruction.Goals as goal

pub returns-in-Some-2-clause-none : goal.returns-in-Some-2-clause-none
returns-in-Some-2-clause-none c = λ know tells none. (let gap = c.in-Some-2.field-0 in absurd (none (gap, (c.in_ok-lacking_at.ensures gap).0 c.in-Some-2.is)))

pub returns-in-None-clause-gap : goal.returns-in-None-clause-gap
returns-in-None-clause-gap c = λ has. (let two : Some has.0 ≡ None = sym ((c.in_ok-lacking_at.ensures has.0).1 has.1) ∙ c.in-None.is in absurd (cc two))
