use Rattle.mc_c_parse_simple.proofs.allocation.AllocationReader.step.Goals as goal

pub returns-in-Base : goal.returns-in-Base
returns-in-Base c = λ aliases e. rw c.in-Base.is (c.in_base.ensures aliases e)

pub returns-in-CastBase : goal.returns-in-CastBase
returns-in-CastBase c = λ aliases e. rw c.in-CastBase.is (c.behind_base.ensures aliases)

pub returns-in-CastEnd : goal.returns-in-CastEnd
returns-in-CastEnd c = λ aliases e. rw c.in-CastEnd.is (c.cast_end.ensures aliases)

pub returns-in-Cast : goal.returns-in-Cast
returns-in-Cast c = λ aliases e. rw c.in-Cast.is (c.behind_cast.ensures aliases)

pub returns-in-Malloc : goal.returns-in-Malloc
returns-in-Malloc c = λ aliases e. rw c.in-Malloc.is (c.behind_malloc.ensures aliases)

pub returns-in-Size : goal.returns-in-Size
returns-in-Size c = λ aliases e. rw c.in-Size.is (c.in_size.ensures aliases e)

pub returns-in-Close : goal.returns-in-Close
returns-in-Close c = λ aliases e. rw c.in-Close.is (c.close.ensures aliases)
