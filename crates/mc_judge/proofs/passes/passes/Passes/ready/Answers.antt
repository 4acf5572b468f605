use Rattle.std.proofs.Common.{◌≡◌, ◌∙◌, ℕ, List, ap, sym, subst}
use Rattle.mc_check_line.specs.Judging.{path}
use Rattle.mc_kernel.specs.Branches.{Head, states_at}
use Rattle.mc_judge.specs.Passes.Lines.{IsUnready}
use Rattle.mc_judge.proofs.PassesLemmas.Ready.{changer_from, is_ready, unready_two}
use Rattle.mc_judge.proofs.passes.passes.Passes.ready.Goals as goal

pub returns-then-is_false-clause-refused : goal.returns-then-is_false-clause-refused
returns-then-is_false-clause-refused c = λ n e.
    let p = c.args.self.now in
    let b = path c.in-Some.branch.now in
    let first = changer_from p b (sym c.in-Some.ensures) in
    let two : 2 ≡ n = cc e in
    subst (λ (i : ℕ). IsUnready p i) two
    (unready_two p b first c.is_held.ensures.branches c.is_false.result c.if-is_false.true c.is_false.ensures.told)

pub returns-clause-found : goal.returns-clause-found
returns-clause-found c =
    let p = c.args.self.now in
    let b = path c.in-Some.branch.now in
    let first = changer_from p b (sym c.in-Some.ensures) in
    is_ready p b first c.is_held.ensures.branches c.is_false.result _ c.if-is_false.false c.is_false.ensures.told c.is_held.ensures.heads
    (c.in_ok-lefts.ensures ∙ ap (λ (hs : List Head). states_at b.point hs) c.heads.ensures)
