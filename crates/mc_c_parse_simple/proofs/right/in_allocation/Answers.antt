use Rattle.std.proofs.Common.{subst}
use Rattle.mc_c_parse_simple.specs.Allocations.{CompletesAllocation, IsAllocationStep}
use Rattle.mc_c_parse_simple.proofs.Phrases.{takes_more, then_moves, then_closes, then_stuck}
use Rattle.mc_c_parse_simple.proofs.right.in_allocation.Goals as goal

pub returns-in-Taken : goal.returns-in-Taken
returns-in-Taken c = λ aliases e. takes_more (then_moves (subst (λ s. IsAllocationStep aliases (CompletesAllocation aliases c.args.reader) c.args.token.now s) c.in-Taken.is (c.in_ok-reader.ensures aliases e)))

pub returns-in_ok-malloc-in-Closed : goal.returns-in_ok-malloc-in-Closed
returns-in_ok-malloc-in-Closed c = λ aliases e. rw c.in_ok-malloc-in-Closed.ensures.ok (takes_more (then_closes (subst (λ s. IsAllocationStep aliases (CompletesAllocation aliases c.args.reader) c.args.token.now s) c.in-Closed.is (c.in_ok-reader.ensures aliases e))))

pub returns-in-Stuck : goal.returns-in-Stuck
returns-in-Stuck c = λ aliases e. then_stuck (subst (λ s. IsAllocationStep aliases (CompletesAllocation aliases c.args.reader) c.args.token.now s) c.in-Stuck.is (c.in_ok-reader.ensures aliases e))
