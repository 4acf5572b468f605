use Rattle.std.proofs.Common.{◌≡◌, get_or, arith, sym, ◌∙◌}
use Rattle.mc_c_syntax.specs.Lex.Pieces.{end, separator, name, line_comment, include_line}
use Rattle.mc_c_syntax.proofs.LexLemmas.Texts.{begins_two, empty_text}
use Rattle.mc_c_syntax.proofs.lex.piece.first_piece.Goals as goal

pub returns-in-len1-up-clause-piece : goal.returns-in-len1-up-clause-piece
returns-in-len1-up-clause-piece c = let e = c.is_separator.ensures in let f = c.if-is_separator.true in separator (sym e ∙ f)

pub returns-in-len1-up-2-clause-piece : goal.returns-in-len1-up-2-clause-piece
returns-in-len1-up-2-clause-piece c = name (sym c.is_letter.ensures ∙ c.if-is_letter.true) c.word_len.ensures.value

pub returns-in-47-clause-piece : goal.returns-in-47-clause-piece
returns-in-47-clause-piece c =
    let text = c.args.text.now in
    line_comment (begins_two text 47 47 c.in-47.len_at_least (let e : get_or text 0 0 ≡ 47 = omega arith in e) (let e : get_or text 1 0 ≡ 47 = omega arith in e)) c.line_len.ensures.value

pub returns-in-35-clause-piece : goal.returns-in-35-clause-piece
returns-in-35-clause-piece c = include_line c.if-spot.true (c.is_include.ensures.0 c.if-is_include.true) c.line_len-in-35.ensures.value

pub returns-in-empty-clause-piece : goal.returns-in-empty-clause-piece
returns-in-empty-clause-piece c = end (empty_text c.args.text.now c.in-empty.len_below)
