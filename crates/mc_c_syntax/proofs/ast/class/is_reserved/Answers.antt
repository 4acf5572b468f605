use Rattle.std.proofs.Common.{map, ap, ◌∙◌}
use Rattle.std.specs.Option.{is_some}
use Rattle.mc_c_syntax.specs.Ast.Classes.{IsWordOf}
use Rattle.mc_c_syntax.proofs.AstLemmas.Tables.{class_is_found}
use Rattle.mc_c_syntax.proofs.ast.class.is_reserved.Goals as goal

pub returns : goal.returns
returns c =
    let rows = c.words_at.result.now in
    let found = class_is_found IsWordOf c.args.word.now (map (λ row. row.0.now) rows) (map (λ row. row.1) rows) c.words_at.ensures.right in
    c.is_some.ensures ∙ ap is_some c.class_among.ensures ∙ found ∙ c.words_at.ensures.all
