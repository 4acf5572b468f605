use Rattle.mc_pure.specs.Known.{pure_of}
use Rattle.mc_pure.proofs.Looping.{all_done}
use Rattle.mc_pure.proofs.close.recheck_all.Goals as goal

pub returns-in-Same : goal.returns-in-Same
returns-in-Same c = all_done (pure_of c.args.known.now) c.args.rows.now c.recheck_written.new.rows c.recheck_starts.new.rows c.args.scope.now c.recheck_starts.result c.requires.rest c.in-Same.ensures c.recheck_starts.ensures
