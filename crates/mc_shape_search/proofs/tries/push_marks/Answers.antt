use Rattle.std.proofs.Common.{◌≡◌, ◌++◌, ◌∷◌, ◌-◌, ◌≤◌, ◌<◌, ◌⊎◌, inl, inr, suc, [], None, true, false, reverse, length, take, arith, ap, sym, ◌∙◌, refl}
use Rattle.std.proofs.lemmas.List.{reverse-append}
use Rattle.mc_shape_search.specs.Search.Search.{applies, is_free, tries}
use Rattle.mc_shape_search.specs.declared.tries.Pending.{Pending}
use Rattle.mc_shape_search.specs.Tries.Stack.{Pushes, goals_at, tries_of, branch}
use Rattle.mc_shape_search.specs.Tries.Thin.{Thins, IsSpare}
use Rattle.mc_shape_search.proofs.TriesLemmas.Arena.{Grows-trans}
use Rattle.mc_shape_search.proofs.TriesLemmas.Stack.{tries-more, tries_of-push, IsStack-push}
use Rattle.mc_shape_search.proofs.TriesLemmas.Thin.{by, thin_both, thin_same, thin_front, thin_kept, thin_not, thin_spare, take_last, not_free}
use Rattle.mc_shape_search.proofs.tries.push_marks.Goals as goal

pub loop-i-preserved-in-Continue-branch-4 : goal.loop-i-preserved-in-Continue-branch-4
loop-i-preserved-in-Continue-branch-4 g c =
    let w = g.P.Problem.space c.args.problem.now in
    let old = reverse c.args.cells.now.items in
    let was = reverse c.loop-i.cells.items in
    let now = reverse c.push_calls.new.cells.items in
    let all = c.in_ok-all.all.items in
    let log = c.args.log.now in
    let i = c.loop-i.invariant in
    let m = c.index-mark.result.now in
    let gs = goals_at old c.args.next in
    let p : Pushes (w.calls c.args.goal.now m) was now c.args.next c.in-Some.goals = rw c.in-Some.is at c.in_ok-goals.ensures.pushed in
    let fit : w.fits c.args.goal.now m ≡ true = rw c.in-Some.is at c.in_ok-goals.ensures.fits in
    let same : goals_at was c.args.next ≡ gs = i.grows.same c.args.next c.requires.within in
    let entry : Pending _ = record { mark = m; goals = c.in-Some.goals; height = length log } in
    let qs : reverse c.push.new.self.items ≡ entry ∷ reverse c.loop-i.pending.items = ap reverse c.in_ok-push.ensures.items ∙ reverse-append c.loop-i.pending.items (entry ∷ []) in
    let free : is_free w.takes log m ≡ true = c.is_wanted.ensures.free c.if-is_wanted.true in
    let both : applies w c.args.goal.now log m ≡ true = rw (fit, free) in
    let one : c.loop-i.i ≡ suc (c.loop-i.i - 1) = omega arith in
    let inside : c.loop-i.i - 1 < length all = (let n : c.loop-i.i ≤ length all = i.within in omega arith) in
    let more : take c.loop-i.i all ≡ take (c.loop-i.i - 1) all ++ m ∷ [] = ap (λ n. take n all) one ∙ take_last all (c.loop-i.i - 1) m inside c.index-mark.ensures in
    record {
      within = omega arith;
      grows = Grows-trans _ old was now i.grows p.grows;
      stack = rw qs (IsStack-push _ _ w.takes was now log entry (reverse c.loop-i.pending.items) p.grows p.within refl free i.stack);
      tried = λ limit.
          let n = limit - suc (length log) in
          let pushed : tries_of w limit now log (reverse c.push.new.self.items) ≡ branch w n c.args.goal.now gs log m ++ tries_of w limit was log (reverse c.loop-i.pending.items) =
          ap (tries_of w limit now log) qs ∙ tries_of-push _ _ w.takes w limit log c.args.goal.now gs m was now (reverse c.loop-i.pending.items) c.args.next c.in-Some.goals p i.stack same in
          thin_kept w n c.args.goal.now gs log (take (c.loop-i.i - 1) all) (take c.loop-i.i all) m (tries_of w limit was log (reverse c.loop-i.pending.items)) (tries_of w limit now log (reverse c.push.new.self.items))
          (by w n c.args.goal.now gs log all ++ tries_of w limit old log (reverse c.args.pending.now.items)) more both pushed (i.tried limit);
      high = refl;
    }

pub loop-i-preserved : goal.loop-i-preserved
loop-i-preserved g c =
    let w = g.P.Problem.space c.args.problem.now in
    let old = reverse c.args.cells.now.items in
    let was = reverse c.loop-i.cells.items in
    let all = c.in_ok-all.all.items in
    let log = c.args.log.now in
    let i = c.loop-i.invariant in
    let m = c.index-mark.result.now in
    let gs = goals_at old c.args.next in
    let one : c.loop-i.i ≡ suc (c.loop-i.i - 1) = omega arith in
    let inside : c.loop-i.i - 1 < length all = (let n : c.loop-i.i ≤ length all = i.within in omega arith) in
    let more : take c.loop-i.i all ≡ take (c.loop-i.i - 1) all ++ m ∷ [] = ap (λ n. take n all) one ∙ take_last all (c.loop-i.i - 1) m inside c.index-mark.ensures in
    let why : (is_free w.takes log m ≡ false) ⊎ IsSpare w (take (c.loop-i.i - 1) all) log m = rw c.deref.ensures.value at c.is_wanted.ensures.spare c.if-is_wanted.false in
    record {
      within = omega arith;
      grows = i.grows;
      stack = i.stack;
      tried = λ limit.
          let n = limit - suc (length log) in
          let left = tries_of w limit was log (reverse c.loop-i.pending.items) in
          let first = by w n c.args.goal.now gs log all ++ tries_of w limit old log (reverse c.args.pending.now.items) in
          elim why [
            | inl used ↦ thin_not w n c.args.goal.now gs log (take (c.loop-i.i - 1) all) (take c.loop-i.i all) m left left first more (not_free w c.args.goal.now log m used) refl (i.tried limit)
            | inr spare ↦ thin_spare w n c.args.goal.now gs log (take (c.loop-i.i - 1) all) (take c.loop-i.i all) m left first more spare (i.tried limit)
          ];
      high = i.high;
    }

pub returns-clause-tried : goal.returns-clause-tried
returns-clause-tried g c = λ limit short.
    let w = g.P.Problem.space c.args.problem.now in
    let old = reverse c.args.cells.now.items in
    let log = c.args.log.now in
    let all = c.in_ok-all.all.items in
    let goal = c.args.goal.now in
    let gs = goals_at old c.args.next in
    let n = limit - suc (length log) in
    let left = tries_of w limit (reverse c.loop-i.cells.items) log (reverse c.loop-i.pending.items) in
    let before = tries_of w limit old log (reverse c.args.pending.now.items) in
    let at_end : c.loop-i.i ≡ 0 = omega arith in
    let t : Thins left (by w n goal gs log all ++ before) = rw at_end at c.loop-i.invariant.tried limit in
    let more = tries-more _ _ w.takes w limit (goal ∷ gs) goal gs log short refl in
    let listed : None ∷ (by w n goal gs log all ++ before) ≡ tries w (limit - length log) (goal ∷ gs) log ++ before = ap (λ ms. None ∷ (by w n goal gs log ms ++ before)) c.in_ok-all.ensures ∙ ap (λ l. l ++ before) (sym more) in
    thin_both (None ∷ left) (None ∷ (by w n goal gs log all ++ before)) (tries w (limit - length log) (goal ∷ gs) log ++ before) (thin_front left (by w n goal gs log all ++ before) t) (thin_same (None ∷ (by w n goal gs log all ++ before)) (tries w (limit - length log) (goal ∷ gs) log ++ before) listed)
