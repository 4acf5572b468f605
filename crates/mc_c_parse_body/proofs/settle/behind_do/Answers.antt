use Rattle.mc_c_parse_simple.proofs.Phrases.{same_at, then_same, turned}
use Rattle.mc_c_parse_body.proofs.StateTurns.{body_step_along}
use Rattle.mc_c_parse_body.proofs.Beginnings.{next_same}
use Rattle.mc_c_parse_body.proofs.settle.behind_do.Goals as goal

pub returns : goal.returns
returns c = λ aliases. body_step_along aliases c.expect.new.reader c.expect.result (same_at c.args.token.now (next_same (next_same (then_same (turned (rw c.in_ok-inner.ensures.ok c.new-fresh.ensures)))))) (c.expect.ensures aliases)
