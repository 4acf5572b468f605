use Rattle.mc_c_syntax.specs.Ast.Views.{right_of}
use Rattle.mc_c_parse_simple.proofs.Phrases.{ended_finds}
use Rattle.mc_c_parse_simple.proofs.right.RightReader.moved.Goals as goal

pub returns-in-Start : goal.returns-in-Start
returns-in-Start c = λ aliases e. rw c.in-Start.is (c.start.ensures aliases)

pub returns-in-Named : goal.returns-in-Named
returns-in-Named c = λ aliases e. rw c.in-Named.is (c.behind_name.ensures aliases)

pub returns-in-Opened : goal.returns-in-Opened
returns-in-Opened c = λ aliases e. rw c.in-Opened.is (c.opened.ensures aliases e)

pub returns-in-OpenedAlias : goal.returns-in-OpenedAlias
returns-in-OpenedAlias c = λ aliases e. rw c.in-OpenedAlias.is (c.opened_alias.ensures aliases)

pub returns-in-OpenedStar : goal.returns-in-OpenedStar
returns-in-OpenedStar c = λ aliases e. rw c.in-OpenedStar.is (c.opened_star.ensures aliases)

pub returns-in-Enclosed : goal.returns-in-Enclosed
returns-in-Enclosed c = λ aliases e. rw c.in-Enclosed.is (c.enclosed.ensures aliases)

pub returns-in-Parens : goal.returns-in-Parens
returns-in-Parens c = λ aliases e. rw c.in-Parens.is (c.in_parens.ensures aliases)

pub unreachable-requires : goal.unreachable-requires
unreachable-requires c = c.requires.beside (rw c.in-Sum.is tt)

pub returns-in-Call : goal.returns-in-Call
returns-in-Call c = λ aliases e. rw c.in-Call.is (c.in_call.ensures aliases)

pub returns-in-Allocation : goal.returns-in-Allocation
returns-in-Allocation c = λ aliases e. rw c.in-Allocation.is (c.in_allocation.ensures aliases e)

pub returns-in-Done : goal.returns-in-Done
returns-in-Done c = λ aliases e. rw c.in-Done.is (ended_finds (right_of c.in-Done.right))
