use Rattle.std.proofs.Common.{length}
use Rattle.mc_c_syntax.specs.Lex.Spots.{HasRoom}
use Rattle.mc_c_syntax.specs.Lex.Readings.{Reading, Reads, Lexes}
use Rattle.mc_c_syntax.proofs.LexLemmas.Prefixes.{all_onto}
use Rattle.mc_c_syntax.proofs.lex.lexer.lex.Given as goal

abbrev pub invariant-pieces : goal.invariant-pieces
invariant-pieces l = record {
  so_far : (reading : Reading) → Reads l.spot l.rest reading → Lexes l.fn.bytes (all_onto l.tokens.items reading);
  room : HasRoom l.spot (length l.rest);
}

abbrev pub decreases-pieces : goal.decreases-pieces
decreases-pieces l = length l.rest
