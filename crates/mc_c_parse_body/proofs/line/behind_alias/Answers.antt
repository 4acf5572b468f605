use Rattle.std.proofs.Common.{◌∙◌, sym}
use Rattle.mc_c_parse_body.proofs.line.behind_alias.Goals as goal

pub returns-in-Alias : goal.returns-in-Alias
returns-in-Alias c = λ known is aliases e. rw (sym c.replace.ensures.value ∙ c.in-Alias.is) (c.behind_known.ensures aliases e)

pub returns : goal.returns
returns c = λ known is aliases e. absurd (c.in_default.not-Alias known (c.replace.ensures.value ∙ is))
