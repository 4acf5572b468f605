use Rattle.std.proofs.Common.{◌≡◌, false, map, sym, ◌∙◌}
use Rattle.mc_c_syntax.specs.Ast.Classes.{IsMarkOf, grammar_marks}
use Rattle.mc_c_syntax.specs.Ast.Names.{is_in}
use Rattle.mc_c_syntax.proofs.AstLemmas.Tables.{class_is_right, no_class_is_right}
use Rattle.mc_c_syntax.proofs.ast.class.mark_class.Goals as goal

pub returns-in-Some : goal.returns-in-Some
returns-in-Some c =
    let t = c.as_slice-text.ensures in
    let rows = c.marks_at.result.now in
    class_is_right IsMarkOf c.as_slice-text.result.now (map (λ row. row.0.now) rows) (map (λ row. row.1) rows) c.marks_at.ensures.right c.in-Some.class c.in-Some.ensures c.args.token.now (record { kind = c.requires; text = sym t })

pub returns-in-None : goal.returns-in-None
returns-in-None c =
    let t = c.as_slice-text.ensures in
    let rows = c.marks_at.result.now in
    let m : is_in grammar_marks c.args.token.now.text ≡ false = rw (← t) (sym c.marks_at.ensures.all ∙ no_class_is_right IsMarkOf c.as_slice-text.result.now (map (λ row. row.0.now) rows) (map (λ row. row.1) rows) c.marks_at.ensures.right c.in-None.ensures) in
    (c.requires, m)
