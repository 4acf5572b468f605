use Rattle.mc_c_syntax.specs.Lex.Pieces.{number, bad_number}
use Rattle.mc_c_syntax.proofs.lex.piece.number_piece.Goals as goal

pub returns-in-Some-clause-piece : goal.returns-in-Some-clause-piece
returns-in-Some-clause-piece c = number c.requires c.word_len-len.ensures.value c.in-Some.ensures.0 c.in-Some.ensures.1

pub returns-in-None-clause-piece : goal.returns-in-None-clause-piece
returns-in-None-clause-piece c = let h = c.in-None.ensures in bad_number c.requires (rw c.word_len-len.ensures.value at h)
