use Rattle.std.proofs.Common.{take}
use Rattle.mc_c_parse.specs.Units.{CompletesUnit, KnowsTypes, GoesThrough}
use Rattle.mc_c_parse.proofs.prefix.behind.Given as goal

abbrev pub invariant-loop-token : goal.invariant-loop-token
invariant-loop-token l = record { known : KnowsTypes l.reader; through : GoesThrough (CompletesUnit l.initial.reader) (CompletesUnit l.reader) (take l.token-index l.tokens) }
