use Rattle.mc_pure.specs.Known.{pure_of}
use Rattle.mc_pure.proofs.Looping.{has_ties, all_looked_at, closed_by}
use Rattle.mc_pure.proofs.close.finish.Goals as goal

pub settle-requires-clause-rest : goal.settle-requires-clause-rest
settle-requires-clause-rest c = all_looked_at (pure_of c.args.known.now) c.enforce_starts.new.rows (has_ties (pure_of c.args.known.now) c.args.rows.now c.enforce_written.new.rows c.enforce_starts.new.rows c.requires.kinds (c.enforce_written.ensures.yes c.if-not-enforce_written.false) (c.enforce_starts.ensures.yes c.if-not-enforce_starts.false))

pub returns-then-not-enforce_written : goal.returns-then-not-enforce_written
returns-then-not-enforce_written c = c.enforce_written.ensures.no c.if-not-enforce_written.true

pub returns-then-not-enforce_starts : goal.returns-then-not-enforce_starts
returns-then-not-enforce_starts c = c.enforce_starts.ensures.no c.if-not-enforce_starts.true

pub returns : goal.returns
returns c = closed_by (pure_of c.args.known.now) c.settle.new.rows c.settle.result c.settle.ensures.yes c.settle.ensures.no
