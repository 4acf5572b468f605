use Rattle.std.proofs.Common.{sym, subst, length}
use Rattle.std.specs.Prelude.{option_map}
use Rattle.mc_semantics.specs.Resolved.Views.{condition_of}
use Rattle.mc_lower.specs.Valued.{TestsPerhapsOn}
use Rattle.mc_lower.specs.Worlds.{stage_of}
use Rattle.mc_lower.proofs.Testing.{perhaps_some, perhaps_none}
use Rattle.mc_lower.proofs.builder.Builder.test_perhaps.Goals as goal

pub returns-in_ok-test_or-in-Some-clause-leads : goal.returns-in_ok-test_or-in-Some-clause-leads
returns-in_ok-test_or-in-Some-clause-leads c = λ w agrees.
    let tested = c.in_ok-test_or-in-Some.ensures.leads w agrees in
    let s = stage_of w c.args.self.now in
    let u = stage_of w c.test_or.new.self in (
      tested.0,
      subst (λ o. TestsPerhapsOn w.graph (w.out c.args.occurrence) (option_map (λ d. condition_of d.now) o) (w.at c.args.no.0) s u) (sym c.in-Some.is)
          (perhaps_some w.graph (w.out c.args.occurrence) _ (w.at c.args.no.0) s u tested.1),
    )

pub returns-in-None-clause-leads : goal.returns-in-None-clause-leads
returns-in-None-clause-leads c = λ w agrees.
    let s = stage_of w c.args.self.now in
    let b = c.args.self.now in (
      agrees,
      subst (λ o. TestsPerhapsOn w.graph (w.out c.args.occurrence) (option_map (λ d. condition_of d.now) o) (w.at c.args.no.0) s s) (sym c.in-None.is)
          (perhaps_none w.graph (w.out c.args.occurrence) (w.at c.args.no.0) (w.at b.lines.goal.0) (length b.lines.points.items) (length b.variables.list.items)),
    )
