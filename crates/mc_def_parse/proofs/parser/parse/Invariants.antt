use Rattle.std.proofs.Common.{take}
use Rattle.mc_def_parse.specs.Files.{CompletesFile}
use Rattle.mc_def_parse.proofs.WholeLemmas.{Behind}
use Rattle.mc_def_parse.proofs.parser.parse.Given as goal

abbrev pub invariant-loop-token : goal.invariant-loop-token
invariant-loop-token l = Behind (take l.token-index l.tokens) (CompletesFile l.reader)
