use Rattle.std.proofs.Common.{vec_len}
use Rattle.mc_c_check.proofs.levels.Search.close.Given as goal

abbrev pub decreases-loop-last : goal.decreases-loop-last
decreases-loop-last l = vec_len l.self.waiting
