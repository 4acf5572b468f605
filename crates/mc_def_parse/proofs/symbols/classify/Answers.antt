use Rattle.std.proofs.Common.{rules}
use Rattle.mc_def_parse.specs.Symbols.{mark_symbol}
use Rattle.mc_def_parse.proofs.symbols.classify.Goals as goal

pub returns-in-Mark : goal.returns-in-Mark
unfolding mark_symbol
returns-in-Mark c = search rules
