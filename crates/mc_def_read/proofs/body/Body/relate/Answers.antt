use Rattle.mc_def_read.proofs.body.Body.relate.Goals as goal

pub returns-in-Fixes : goal.returns-in-Fixes
returns-in-Fixes c = λ context guarded. rw c.in-Fixes.is (c.fix.ensures context guarded)

pub returns-in-Equals : goal.returns-in-Equals
returns-in-Equals c = λ context guarded. rw c.in-Equals.is (c.equal.ensures context guarded)

pub returns-in-Differs : goal.returns-in-Differs
returns-in-Differs c = λ context guarded. rw c.in-Differs.is (c.differ.ensures context guarded)
