use Rattle.std.proofs.Common.{◌≡◌, ℕ, ◌≤◌, length, reverse}
use Rattle.std.specs.Ordering.{nat_cmp}
use Rattle.std.specs.BTreeMap as tree
use Rattle.mc_shape_search.specs.Search.Search.{first, first_try}
use Rattle.mc_shape_search.specs.Tries.Stack.{enough, IsArena, IsStack, tries_of}
use Rattle.mc_shape_search.specs.Tries.Times.{HasTimes}
use Rattle.mc_shape_search.proofs.tries.find_first.Given as goal

abbrev pub invariant-loop-next : goal.invariant-loop-next
invariant-loop-next g l =
    let w = g.P.Problem.space l.problem in
    record {
      arena : IsArena (reverse l.cells.items);
      stack : IsStack w.takes l.log.items (length (reverse l.cells.items)) (length l.log.items) (reverse l.pending.items);
      times : HasTimes w.takes l.log.items (tree.get nat_cmp l.times);
      same : (limit : ℕ) → enough ≤ limit → first (tries_of w limit (reverse l.cells.items) l.log.items (reverse l.pending.items)) ≡ first_try w limit l.fn.goal;
    }

abbrev pub decreases-loop-next : goal.decreases-loop-next
decreases-loop-next g l = length (tries_of (g.P.Problem.space l.problem) enough (reverse l.cells.items) l.log.items (reverse l.pending.items))
