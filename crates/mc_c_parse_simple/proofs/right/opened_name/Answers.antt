use Rattle.std.proofs.Common.{◌≡◌, subst, sym, ◌∙◌, true, false}
use Rattle.mc_c_syntax.specs.Ast.Names.{IsAlias}
use Rattle.mc_c_syntax.specs.Ast.Readers.{IsSame}
use Rattle.mc_c_parse_expr.specs.Expressions.{CompletesExpression, BehindName}
use Rattle.mc_c_parse_simple.proofs.Phrases.{takes_more, takes_to, then_same}
use Rattle.mc_c_parse_simple.proofs.Rights.{opened_type, opened_variable}
use Rattle.mc_c_parse_simple.proofs.right.opened_name.Goals as goal

pub returns-then-alias : goal.returns-then-alias
returns-then-alias c = λ aliases e. let a : IsAlias aliases c.args.token.now = record { name = c.requires; known = e ∙ c.if-alias.true } in rw c.in_ok-name.ensures (takes_more (opened_type aliases _ a))

pub returns-in_ok-reader : goal.returns-in_ok-reader
returns-in_ok-reader c = λ aliases e. rw c.in_ok-reader.ensures.ok (takes_more (takes_to (opened_variable aliases _ c.requires (λ a. let both : true ≡ false = sym a.known ∙ e ∙ c.if-alias.false in cc)) (then_same (then_same (subst (λ n. IsSame (CompletesExpression c.behind_name-fresh.result) (BehindName n)) c.in_ok-name.ensures c.behind_name-fresh.ensures)))))
