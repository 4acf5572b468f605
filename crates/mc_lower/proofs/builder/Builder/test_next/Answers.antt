use Rattle.std.proofs.Common.{sym, subst, ◌∷◌, length}
use Rattle.mc_lower.specs.declared.builder.Label.{Label}
use Rattle.mc_lower.specs.Valued.{Testing}
use Rattle.mc_lower.proofs.builder.Builder.test_next.Goals as goal

pub returns-clause-leads : goal.returns-clause-leads
returns-clause-leads c = λ w n k agrees rest.
    let old = c.args.self.now in
    let next = c.args.next in
    let e = c.in_ok-enter_condition.ensures.leads w n k agrees rest in (
      e.0,
      subst (λ (f : Label). Testing w c.args.occurrence (record { from = f; condition = next.condition; ways = next.ways } ∷ c.args.work.now) (length old.lines.points.items) (length old.variables.list.items) n k)
          (sym c.requires.from) e.1,
    )
