use Rattle.std.proofs.Common.{◌≡◌, ◌-◌, length, take}
use Rattle.mc_c_syntax.specs.Lex.Spots.{behind, HasRoom}
use Rattle.mc_c_syntax.proofs.lex.spot.behind.Given as goal

abbrev pub invariant-loop-byte : goal.invariant-loop-byte
invariant-loop-byte l = record {
  so_far : l.spot ≡ behind l.initial.spot (take l.byte-index l.bytes);
  room : HasRoom l.spot (length l.bytes - l.byte-index);
}
