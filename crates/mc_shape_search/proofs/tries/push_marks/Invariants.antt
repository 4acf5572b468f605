use Rattle.std.proofs.Common.{◌≡◌, ℕ, ◌++◌, ◌-◌, ◌≤◌, suc, length, reverse, take}
use Rattle.mc_shape_search.specs.Tries.Stack.{Grows, IsStack, goals_at, tries_of}
use Rattle.mc_shape_search.specs.Tries.Thin.{Thins}
use Rattle.mc_shape_search.proofs.TriesLemmas.Thin.{by}
use Rattle.mc_shape_search.proofs.tries.push_marks.Given as goal

abbrev pub invariant-loop-i : goal.invariant-loop-i
invariant-loop-i g l =
    let w = g.P.Problem.space l.problem in
    let old = reverse l.fn.cells.items in
    let now = reverse l.cells.items in
    record {
      within : l.i ≤ length l.all.items;
      grows : Grows old now;
      stack : IsStack w.takes l.log (length now) (length l.log) (reverse l.pending.items);
      tried : (limit : ℕ) → Thins (by w (limit - suc (length l.log)) l.goal (goals_at old l.next) l.log (take l.i l.all.items) ++ tries_of w limit now l.log (reverse l.pending.items))
          (by w (limit - suc (length l.log)) l.goal (goals_at old l.next) l.log l.all.items ++ tries_of w limit old l.log (reverse l.fn.pending.items));
      high : l.height ≡ length l.log;
    }

abbrev pub decreases-loop-i : goal.decreases-loop-i
decreases-loop-i g l = l.i
