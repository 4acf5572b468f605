use Rattle.mc_c_syntax.specs.Ast.Views.{simple_of}
use Rattle.mc_c_parse_simple.proofs.Phrases.{ended_finds}
use Rattle.mc_c_parse_simple.proofs.simple.SimpleReader.moved.Goals as goal

pub returns-in-Start : goal.returns-in-Start
returns-in-Start c = λ aliases. rw c.in-Start.is (c.start.ensures aliases)

pub returns-in-First : goal.returns-in-First
returns-in-First c = λ aliases. rw c.in-First.is (c.first.ensures aliases)

pub returns-in-FirstLeft : goal.returns-in-FirstLeft
returns-in-FirstLeft c = λ aliases. rw c.in-FirstLeft.is (c.first_left.ensures aliases)

pub returns-in-FirstArrow : goal.returns-in-FirstArrow
returns-in-FirstArrow c = λ aliases. rw c.in-FirstArrow.is (c.first_arrow.ensures aliases)

pub returns-in-Named : goal.returns-in-Named
returns-in-Named c = λ aliases. rw c.in-Named.is (c.behind_name.ensures aliases)

pub returns-in-Left : goal.returns-in-Left
returns-in-Left c = λ aliases. rw c.in-Left.is (c.behind_left.ensures aliases)

pub returns-in-Arrow : goal.returns-in-Arrow
returns-in-Arrow c = λ aliases. rw c.in-Arrow.is (c.behind_arrow.ensures aliases)

pub unreachable-requires : goal.unreachable-requires
unreachable-requires c = c.requires.beside (rw c.in-Assign.is tt)

pub unreachable-requires-in-ChangeBy : goal.unreachable-requires-in-ChangeBy
unreachable-requires-in-ChangeBy c = c.requires.beside (rw c.in-ChangeBy.is tt)

pub returns-in-Call : goal.returns-in-Call
returns-in-Call c = λ aliases. rw c.in-Call.is (c.in_call.ensures aliases)

pub returns-in-Done : goal.returns-in-Done
returns-in-Done c = λ aliases. rw c.in-Done.is (ended_finds (simple_of c.in-Done.simple))
