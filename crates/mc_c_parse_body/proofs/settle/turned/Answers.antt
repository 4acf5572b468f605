use Rattle.std.proofs.lemmas.List.{map-append}
use Rattle.mc_c_parse_body.proofs.FrameTurns.{agree_here}
use Rattle.mc_c_parse_body.proofs.settle.turned.Goals as goal

pub returns-in_ok-push-in-Block : goal.returns-in_ok-push-in-Block
returns-in_ok-push-in-Block c = λ aliases frames body. rw (c.in-Block.is, c.in_ok-push-in-Block.ensures.items, map-append) agree_here

pub returns-in-If : goal.returns-in-If
returns-in-If c = rw c.in-If.is c.first_part.ensures

pub returns-in_ok-whole-in-Else : goal.returns-in_ok-whole-in-Else
returns-in_ok-whole-in-Else c = λ aliases frames body. rw (c.in-Else.is, c.in_ok-whole-in-Else.ensures) agree_here

pub returns-in_ok-whole-in-While : goal.returns-in_ok-whole-in-While
returns-in_ok-whole-in-While c = λ aliases frames body. rw (c.in-While.is, c.in_ok-whole-in-While.ensures) agree_here

pub returns-in-Do : goal.returns-in-Do
returns-in-Do c = λ aliases frames body. rw c.in-Do.is agree_here

pub returns-in_ok-whole-in-For : goal.returns-in_ok-whole-in-For
returns-in_ok-whole-in-For c = λ aliases frames body. rw (c.in-For.is, c.in_ok-whole-in-For.ensures) agree_here
