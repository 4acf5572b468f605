use Rattle.std.proofs.Common.{take}
use Rattle.mc_c_parse.specs.Units.{CompletesUnit, KnowsTypes}
use Rattle.mc_c_parse.proofs.WholeLemmas.{Behind}
use Rattle.mc_c_parse.proofs.parser.parse.Given as goal

abbrev pub invariant-loop-index : goal.invariant-loop-index
invariant-loop-index l = record { known : KnowsTypes l.reader; behind : Behind (take l.index l.tokens) (CompletesUnit l.reader) }
