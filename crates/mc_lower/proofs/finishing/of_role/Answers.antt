use Rattle.std.proofs.Common.{◌≡◌, ◌<◌, ◌≤◌, ◌+◌, Some, sym, ap, subst, ◌∙◌, true, false, length, Vec, Global, arith}
use Rattle.std.proofs.lemmas.Option.{slice_get-get_or}
use Rattle.mc_base.specs.declared.ids.PointId.{PointId}
use Rattle.mc_lower.specs.Finished.{AreThose}
use Rattle.mc_lower.specs.Worlds.{role_of}
use Rattle.mc_lower.proofs.Choosing.{Chooses, chosen, chosen_none, chosen_more, chosen_same}
use Rattle.mc_lower.proofs.finishing.of_role.Goals as goal
use Rattle.mc_lower.proofs.finishing.of_role.Goals.{then-has_role+in_ok-push, else-has_role}

pub loop-number-init : goal.loop-number-init
loop-number-init c = chosen_none _ _ _ c.new-list.ensures.items

pub loop-number-preserved : goal.loop-number-preserved
loop-number-preserved c =
    let n = c.loop-number.number in
    let points = c.args.points.now in
    let role = role_of c.args.role in
    let below = c.loop-number-test.true in
    let inside : n < length points = omega arith in
    let d = c.index-points-number.result in
    let there = slice_get-get_or points n d inside ∙ ap (λ y. Some y) (sym c.index-points-number.is) in
    elim c.if-has_role.branch [
      | then-has_role+in_ok-push w ↦ subst (λ (m : Vec PointId Global). Chooses points role (n + 1) m.items) (sym w.list-is)
          (chosen_more points role n c.loop-number.list.items _ d there (c.has_role.ensures.0 w.if-has_role.true) w.in_ok-push.ensures.items c.loop-number.invariant)
      | else-has_role w ↦ subst (λ (m : Vec PointId Global). Chooses points role (n + 1) m.items) (sym w.list-is)
          (chosen_same points role n c.loop-number.list.items d there
          (λ is_meant. let never : false ≡ true = sym w.if-has_role.false ∙ c.has_role.ensures.1 is_meant in cc) c.loop-number.invariant)
    ]

pub returns : goal.returns
returns c =
    let points = c.args.points.now in
    let above = c.loop-number-test.false in
    let end = c.loop-number.auto.number-end in
    let past : length points ≤ c.loop-number.number = omega arith in
    subst (λ ps. AreThose points (role_of c.args.role) ps) (sym c.of.ensures) (chosen points (role_of c.args.role) c.loop-number.number c.loop-number.list.items past c.loop-number.invariant)
