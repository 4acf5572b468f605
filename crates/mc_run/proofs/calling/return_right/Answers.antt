use Rattle.mc_run.proofs.calling.return_right.Goals as goal

pub returns-in_ok-stepped-in-Expression : goal.returns-in_ok-stepped-in-Expression
returns-in_ok-stepped-in-Expression c = rw c.in-Expression.is c.in_ok-stepped-in-Expression.ensures

pub returns-in_ok-stepped-in-Call : goal.returns-in_ok-stepped-in-Call
returns-in_ok-stepped-in-Call c = rw c.in-Call.is c.in_ok-stepped-in-Call.ensures

pub returns-in_ok-stepped-in-Malloc : goal.returns-in_ok-stepped-in-Malloc
returns-in_ok-stepped-in-Malloc c = rw c.in-Malloc.is c.in_ok-stepped-in-Malloc.ensures
