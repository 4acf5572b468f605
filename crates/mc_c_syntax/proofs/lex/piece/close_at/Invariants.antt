use Rattle.std.proofs.Common.{ℕ, ◌+◌, ◌<◌}
use Rattle.mc_c_syntax.specs.Lex.Pieces.{Closes}
use Rattle.mc_c_syntax.proofs.lex.piece.close_at.Given as goal

abbrev pub invariant-loop-end : goal.invariant-loop-end
invariant-loop-end l = (k : ℕ) → k + 1 < l.end → ¬ Closes l.text k
