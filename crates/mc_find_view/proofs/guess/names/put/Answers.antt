use Rattle.std.proofs.Common.{arith}
use Rattle.mc_find_view.proofs.GuessLemmas.Given.{set_past}
use Rattle.mc_find_view.proofs.guess.names.put.Goals as goal

pub returns-else-place-len : goal.returns-else-place-len
returns-else-place-len c = set_past c.args.names.now.items c.args.name c.args.new (omega arith)
