use Rattle.std.proofs.Common.{arith}
use Rattle.mc_c_syntax.proofs.LexLemmas.Texts.{reads_at}
use Rattle.mc_c_syntax.proofs.lex.piece.close_at.Goals as goal

pub returns-clause-found : goal.returns-clause-found
returns-clause-found c = λ k e. let r = reads_at c.args.text.now k _ _ e in c.loop-end.invariant k (omega (arith, r.long)) e
