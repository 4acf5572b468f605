use Rattle.std.proofs.Common.{refl}
use Rattle.mc_c_syntax.specs.Lex.Pieces.{block_comment, open_comment}
use Rattle.mc_c_syntax.proofs.LexLemmas.Texts.{reads_two}
use Rattle.mc_c_syntax.proofs.lex.piece.comment_piece.Goals as goal

pub split_at-requires : goal.split_at-requires
split_at-requires c = (reads_two c.args.text.now _ _ c.requires).long

pub returns-in-Some-clause-piece : goal.returns-in-Some-clause-piece
returns-in-Some-clause-piece c = let h = c.in-Some.ensures.found in block_comment c.requires (rw c.split_at.ensures.back at h) refl

pub returns-in-None-clause-piece : goal.returns-in-None-clause-piece
returns-in-None-clause-piece c = let h = c.in-None.ensures.found in open_comment c.requires (rw c.split_at.ensures.back at h)
