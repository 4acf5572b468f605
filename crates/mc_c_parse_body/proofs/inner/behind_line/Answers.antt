use Rattle.std.proofs.Common.{refl}
use Rattle.mc_c_parse_simple.proofs.Phrases.{same_same}
use Rattle.mc_c_parse_body.proofs.inner.behind_line.Goals as goal

pub returns-in-Statement : goal.returns-in-Statement
returns-in-Statement c = record { step = refl; same = λ aliases. rw (c.requires, c.in-Statement.is, c.line_statement.ensures) same_same }

pub returns-in-For : goal.returns-in-For
returns-in-For c = record { step = refl; same = λ aliases. rw (c.requires, c.in-For.is) same_same }
