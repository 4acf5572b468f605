use Rattle.std.proofs.Common.{◌≡◌, Bool, List, ◌++◌, ◌∷◌, ◌-◌, ◌<◌, ◌^◌, [], None, reverse, length, arith, ap, sym, ◌∙◌}
use Rattle.std.specs.Ordering.{nat_cmp}
use Rattle.std.specs.BTreeMap as tree
use Rattle.mc_shape_search.specs.Search.Search.{tries}
use Rattle.mc_shape_search.specs.Tries.Stack.{enough, goals_at, tries_of, IsStack, Pushes}
use Rattle.mc_shape_search.specs.Tries.Thin.{Thins}
use Rattle.mc_shape_search.proofs.TriesLemmas.Stack.{popped, first-found, first-started, stepped, first-none, not-ended, within_limit, within_enough}
use Rattle.mc_shape_search.proofs.TriesLemmas.Times.{HasTimes-none}
use Rattle.mc_shape_search.proofs.tries.find_first.Goals as goals

ended : {M : Type 0} {b : Bool} (ends : List M → Bool) {log seen : List M} → ends seen ≡ b → seen ≡ log → ends log ≡ b
ended ends e d = ap ends (sym d) ∙ e

pub loop-next-init : goals.loop-next-init
loop-next-init g c =
    let w = g.P.Problem.space c.args.problem.now in
    let d : c.deref.result.now ≡ c.new-log.result.items = c.deref.ensures.value in
    let n : c.new-log.result.items ≡ [] = c.new-log.ensures.items in
    let m : c.new-cells.result.items ≡ [] = c.new-cells.ensures.items in
    let q : c.new-pending.result.items ≡ [] = c.new-pending.ensures.items in
    let s : IsStack w.takes c.deref.result.now (length (reverse c.expand.new.cells.items)) (length c.deref.result.now) (reverse c.expand.new.pending.items) = c.in_ok-expand.ensures.stack in
    let p : Pushes (c.args.goal ∷ []) (reverse c.new-cells.result.items) (reverse c.push_goal.new.cells.items) 0 c.in_ok-top.top = c.in_ok-top.ensures in
    let none : length c.deref.result.now < 2 ^ 64 = (let e = ap length (d ∙ n) in omega arith) in
    record {
      arena = c.in_ok-expand.ensures.arena;
      stack = rw d at s;
      times = HasTimes-none _ w.takes c.new-log.result.items (tree.get nat_cmp c.new-times.result) n;
      same = λ limit far.
          first-started _ _ w.takes w limit c.args.goal (reverse c.push_goal.new.cells.items) (reverse c.expand.new.cells.items) c.in_ok-top.top c.new-log.result.items (reverse c.new-pending.result.items) (reverse c.expand.new.pending.items) (ap reverse q) n (rw m at p)
          (let t : Thins (None ∷ tries_of w limit (reverse c.expand.new.cells.items) c.deref.result.now (reverse c.expand.new.pending.items)) (tries w (limit - length c.deref.result.now) (goals_at (reverse c.push_goal.new.cells.items) c.in_ok-top.top) c.deref.result.now ++ tries_of w limit (reverse c.push_goal.new.cells.items) c.deref.result.now (reverse c.new-pending.result.items)) = c.in_ok-expand.ensures.tried limit (within_limit (length c.deref.result.now) limit none far) in rw d at t);
    }

pub returns-then-may_end : goals.returns-then-may_end
returns-then-may_end g c = λ limit far.
    let w = g.P.Problem.space c.args.problem.now in
    let cs = reverse c.loop-next.cells.items in
    let p = popped _ _ w.takes w limit cs c.loop-next.log.items c.cut_log.new.log.items c.in-Some.next (reverse c.loop-next.pending.items) (reverse c.take_next.new.pending.items) c.in-Some.ensures c.loop-next.invariant.stack c.in_ok-cut_log.ensures.log in
    sym (first-found _ _ w.takes w limit cs c.loop-next.log.items c.cut_log.new.log.items c.in-Some.next (reverse c.loop-next.pending.items) (reverse c.take_next.new.pending.items) p c.if-next-eq0.true (ended w.ends (sym c.may_end.ensures ∙ c.if-may_end.true) c.deref-then-next-eq0.ensures.value)) ∙ c.loop-next.invariant.same limit far

pub loop-next-smaller-else-may_end : goals.loop-next-smaller-else-may_end
loop-next-smaller-else-may_end g c =
    let w = g.P.Problem.space c.args.problem.now in
    let cs = reverse c.loop-next.cells.items in
    let p = popped _ _ w.takes w enough cs c.loop-next.log.items c.cut_log.new.log.items c.in-Some.next (reverse c.loop-next.pending.items) (reverse c.take_next.new.pending.items) c.in-Some.ensures c.loop-next.invariant.stack c.in_ok-cut_log.ensures.log in
    (stepped _ _ w.takes w enough cs cs c.loop-next.log.items c.cut_log.new.log.items c.in-Some.next (reverse c.loop-next.pending.items) (reverse c.take_next.new.pending.items) (reverse c.take_next.new.pending.items) p
    (not-ended _ _ w.takes w enough cs c.cut_log.new.log.items c.in-Some.next.goals (reverse c.take_next.new.pending.items) c.if-next-eq0.true (ended w.ends (sym c.may_end.ensures ∙ c.if-may_end.false) c.deref-then-next-eq0.ensures.value))).fewer

pub loop-next-preserved-else-may_end : goals.loop-next-preserved-else-may_end
loop-next-preserved-else-may_end g c =
    let w = g.P.Problem.space c.args.problem.now in
    let cs = reverse c.loop-next.cells.items in
    record {
      arena = c.loop-next.invariant.arena;
      stack = (popped _ _ w.takes w enough cs c.loop-next.log.items c.cut_log.new.log.items c.in-Some.next (reverse c.loop-next.pending.items) (reverse c.take_next.new.pending.items) c.in-Some.ensures c.loop-next.invariant.stack c.in_ok-cut_log.ensures.log).stack;
      times = c.in_ok-cut_log.ensures.times;
      same = λ limit far.
          (stepped _ _ w.takes w limit cs cs c.loop-next.log.items c.cut_log.new.log.items c.in-Some.next (reverse c.loop-next.pending.items) (reverse c.take_next.new.pending.items) (reverse c.take_next.new.pending.items)
          (popped _ _ w.takes w limit cs c.loop-next.log.items c.cut_log.new.log.items c.in-Some.next (reverse c.loop-next.pending.items) (reverse c.take_next.new.pending.items) c.in-Some.ensures c.loop-next.invariant.stack c.in_ok-cut_log.ensures.log)
          (not-ended _ _ w.takes w limit cs c.cut_log.new.log.items c.in-Some.next.goals (reverse c.take_next.new.pending.items) c.if-next-eq0.true (ended w.ends (sym c.may_end.ensures ∙ c.if-may_end.false) c.deref-then-next-eq0.ensures.value))).same ∙ c.loop-next.invariant.same limit far;
    }

pub expand-requires-else-next-eq0-clause-stack : goals.expand-requires-else-next-eq0-clause-stack
expand-requires-else-next-eq0-clause-stack g c =
    let w = g.P.Problem.space c.args.problem.now in
    let cs = reverse c.loop-next.cells.items in
    let d : c.deref-else-next-eq0.result.now ≡ c.cut_log.new.log.items = c.deref-else-next-eq0.ensures.value in
    rw d (popped _ _ w.takes w enough cs c.loop-next.log.items c.cut_log.new.log.items c.in-Some.next (reverse c.loop-next.pending.items) (reverse c.take_next.new.pending.items) c.in-Some.ensures c.loop-next.invariant.stack c.in_ok-cut_log.ensures.log).stack

pub loop-next-smaller : goals.loop-next-smaller
loop-next-smaller g c =
    let w = g.P.Problem.space c.args.problem.now in
    let cs = reverse c.loop-next.cells.items in
    let d : c.deref-else-next-eq0.result.now ≡ c.cut_log.new.log.items = c.deref-else-next-eq0.ensures.value in
    let short : length c.deref-else-next-eq0.result.now < 2 ^ 64 = omega (arith, c.deref-else-next-eq0.ensures.len, c.cut_log.new.log.ok.0) in
    (stepped _ _ w.takes w enough cs (reverse c.expand-else-next-eq0.new.cells.items) c.loop-next.log.items c.cut_log.new.log.items c.in-Some.next (reverse c.loop-next.pending.items) (reverse c.take_next.new.pending.items) (reverse c.expand-else-next-eq0.new.pending.items)
    (popped _ _ w.takes w enough cs c.loop-next.log.items c.cut_log.new.log.items c.in-Some.next (reverse c.loop-next.pending.items) (reverse c.take_next.new.pending.items) c.in-Some.ensures c.loop-next.invariant.stack c.in_ok-cut_log.ensures.log)
    (let t : Thins (None ∷ tries_of w enough (reverse c.expand-else-next-eq0.new.cells.items) c.deref-else-next-eq0.result.now (reverse c.expand-else-next-eq0.new.pending.items)) (tries w (enough - length c.deref-else-next-eq0.result.now) (goals_at cs c.in-Some.next.goals) c.deref-else-next-eq0.result.now ++ tries_of w enough cs c.deref-else-next-eq0.result.now (reverse c.take_next.new.pending.items)) = c.in_ok-expand-2.ensures.tried enough (within_enough (length c.deref-else-next-eq0.result.now) short) in rw d at t)).fewer

pub loop-next-preserved : goals.loop-next-preserved
loop-next-preserved g c =
    let w = g.P.Problem.space c.args.problem.now in
    let cs = reverse c.loop-next.cells.items in
    let d : c.deref-else-next-eq0.result.now ≡ c.cut_log.new.log.items = c.deref-else-next-eq0.ensures.value in
    let short : length c.deref-else-next-eq0.result.now < 2 ^ 64 = omega (arith, c.deref-else-next-eq0.ensures.len, c.cut_log.new.log.ok.0) in
    let s : IsStack w.takes c.deref-else-next-eq0.result.now (length (reverse c.expand-else-next-eq0.new.cells.items)) (length c.deref-else-next-eq0.result.now) (reverse c.expand-else-next-eq0.new.pending.items) = c.in_ok-expand-2.ensures.stack in
    record {
      arena = c.in_ok-expand-2.ensures.arena;
      stack = rw d at s;
      times = c.in_ok-cut_log.ensures.times;
      same = λ limit far.
          (stepped _ _ w.takes w limit cs (reverse c.expand-else-next-eq0.new.cells.items) c.loop-next.log.items c.cut_log.new.log.items c.in-Some.next (reverse c.loop-next.pending.items) (reverse c.take_next.new.pending.items) (reverse c.expand-else-next-eq0.new.pending.items)
          (popped _ _ w.takes w limit cs c.loop-next.log.items c.cut_log.new.log.items c.in-Some.next (reverse c.loop-next.pending.items) (reverse c.take_next.new.pending.items) c.in-Some.ensures c.loop-next.invariant.stack c.in_ok-cut_log.ensures.log)
          (let t : Thins (None ∷ tries_of w limit (reverse c.expand-else-next-eq0.new.cells.items) c.deref-else-next-eq0.result.now (reverse c.expand-else-next-eq0.new.pending.items)) (tries w (limit - length c.deref-else-next-eq0.result.now) (goals_at cs c.in-Some.next.goals) c.deref-else-next-eq0.result.now ++ tries_of w limit cs c.deref-else-next-eq0.result.now (reverse c.take_next.new.pending.items)) = c.in_ok-expand-2.ensures.tried limit (within_limit (length c.deref-else-next-eq0.result.now) limit short far) in rw d at t)).same ∙ c.loop-next.invariant.same limit far;
    }

pub returns : goals.returns
returns g c = λ limit far.
    let w = g.P.Problem.space c.args.problem.now in
    let e : reverse c.loop-next.pending.items ≡ [] = c.in_default.ensures in
    sym (first-none _ _ w.takes w limit (reverse c.loop-next.cells.items) c.loop-next.log.items (reverse c.loop-next.pending.items) e) ∙ c.loop-next.invariant.same limit far
