use Rattle.std.proofs.Common.{◌<◌, arith, sym, ◌∙◌}
use Rattle.mc_c_syntax.specs.Lex.Pieces.{mark, bad_byte}
use Rattle.mc_c_syntax.proofs.lex.piece.mark_piece.Goals as goal

pub returns-in-0-clause-piece : goal.returns-in-0-clause-piece
returns-in-0-clause-piece c = bad_byte c.requires.some c.requires.separator c.requires.word (sym c.mark_len.ensures.value ∙ c.in-0.is)

pub returns-in_default-clause-piece : goal.returns-in_default-clause-piece
returns-in_default-clause-piece c = mark (let h : 0 < c.mark_len.result = omega arith in h) c.mark_len.ensures.value c.requires.line_comment c.requires.block_comment c.requires.include
