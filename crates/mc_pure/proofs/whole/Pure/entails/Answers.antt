use Rattle.std.proofs.Common.{inr}
use Rattle.mc_pure.specs.Known.{pure_of}
use Rattle.mc_pure.proofs.Growing.{closed_true, closed_false, answer}
use Rattle.mc_pure.proofs.Deciding.{consistent}
use Rattle.mc_pure.proofs.whole.Pure.entails.Goals as goal

pub returns-then-self : goal.returns-then-self
returns-then-self c =
    let k = closed_true (pure_of c.self.inside.known) c.self.inside.rows.items c.self.inside.wrong c.self.invariant.1 c.if-self.true in
    rw (← c.self.view_is) ((λ _. inr k), (λ _. c.if-self.true))

pub returns-else-self : goal.returns-else-self
returns-else-self c =
    let k = closed_false (pure_of c.self.inside.known) c.self.inside.rows.items c.self.inside.wrong c.self.invariant.1 c.if-self.false in
    rw (← c.self.view_is) (answer (pure_of c.self.inside.known) c.args.atom.now c.entails.result (λ f. consistent (pure_of c.self.inside.known) c.self.inside.rows.items k.0 k.1 f) c.entails.ensures.yes c.entails.ensures.no)
