use Rattle.mc_c_parse_simple.proofs.size.SizeReader.step.Goals as goal

pub returns-in-Start : goal.returns-in-Start
returns-in-Start c = λ aliases e. rw c.in-Start.is (c.start.ensures aliases)

pub returns-in-Sizeof : goal.returns-in-Sizeof
returns-in-Sizeof c = λ aliases e. rw c.in-Sizeof.is (c.behind_sizeof.ensures aliases)

pub returns-in-Parens : goal.returns-in-Parens
returns-in-Parens c = λ aliases e. rw c.in-Parens.is (c.behind_parens.ensures aliases e)

pub returns-in-Base : goal.returns-in-Base
returns-in-Base c = λ aliases e. rw c.in-Base.is (c.in_base.ensures aliases e)

pub returns-in-ParensStar : goal.returns-in-ParensStar
returns-in-ParensStar c = λ aliases e. rw c.in-ParensStar.is (c.behind_parens_star.ensures aliases)

pub returns-in-Star : goal.returns-in-Star
returns-in-Star c = λ aliases e. rw c.in-Star.is (c.behind_star.ensures aliases)

pub returns-in-Close : goal.returns-in-Close
returns-in-Close c = λ aliases e. rw c.in-Close.is (c.close.ensures aliases)
