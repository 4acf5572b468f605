use Rattle.std.proofs.Common.{◌≡◌, sym, ◌∙◌, true, false}
use Rattle.mc_c_parse_simple.proofs.Phrases.{takes_to, then_same}
use Rattle.mc_c_parse_body.proofs.LineTurns.{line_alias, line_name}
use Rattle.mc_c_parse_body.proofs.line.at_name.Goals as goal

pub returns-then-alias : goal.returns-then-alias
returns-then-alias c = λ aliases e. rw c.in_ok-name.ensures (line_alias aliases (record { name = c.requires; known = e ∙ c.if-alias.true }))

pub returns-in_ok-line : goal.returns-in_ok-line
returns-in_ok-line c = λ aliases e. takes_to (takes_to (line_name aliases c.requires (λ known. let f : true ≡ false = sym known ∙ e ∙ c.if-alias.false in cc)) (then_same (c.behind_name.ensures aliases c.args.token.now c.requires (sym c.in_ok-name.ensures)))) (c.in_ok-line.ensures aliases)
