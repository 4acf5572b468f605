use Rattle.std.proofs.Common.{subst}
use Rattle.mc_c_parse_simple.specs.Calls.{CompletesCall, IsCallStep}
use Rattle.mc_c_parse_simple.proofs.Phrases.{takes_more, then_moves, then_closes, then_stuck}
use Rattle.mc_c_parse_simple.proofs.right.in_call.Goals as goal

pub returns-in-Taken : goal.returns-in-Taken
returns-in-Taken c = λ aliases. takes_more (then_moves (subst (λ s. IsCallStep (CompletesCall c.args.reader) c.args.token.now s) c.in-Taken.is c.in_ok-reader.ensures))

pub returns-in-Closed : goal.returns-in-Closed
returns-in-Closed c = λ aliases. takes_more (then_closes (subst (λ s. IsCallStep (CompletesCall c.args.reader) c.args.token.now s) c.in-Closed.is c.in_ok-reader.ensures))

pub returns-in-Stuck : goal.returns-in-Stuck
returns-in-Stuck c = λ aliases. then_stuck (subst (λ s. IsCallStep (CompletesCall c.args.reader) c.args.token.now s) c.in-Stuck.is c.in_ok-reader.ensures)
