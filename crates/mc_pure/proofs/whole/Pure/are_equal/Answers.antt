use Rattle.std.proofs.Common.{◌-ℤ◌, inr}
use Rattle.mc_base.specs.declared.plain.Atom.TheVariants.{Eq}
use Rattle.mc_pure.specs.Known.{pure_of}
use Rattle.mc_pure.proofs.Growing.{closed_true, closed_false, answer}
use Rattle.mc_pure.proofs.Deciding.{consistent}
use Rattle.mc_pure.proofs.whole.Pure.are_equal.Goals as goal

pub returns-then-self : goal.returns-then-self
returns-then-self c =
    let k = closed_true (pure_of c.self.inside.known) c.self.inside.rows.items c.self.inside.wrong c.self.invariant.1 c.if-self.true in
    rw (← c.self.view_is) ((λ _. inr k), (λ _. c.if-self.true))

pub returns-else-self : goal.returns-else-self
returns-else-self c =
    let p = pure_of c.self.inside.known in
    let k = closed_false p c.self.inside.rows.items c.self.inside.wrong c.self.invariant.1 c.if-self.false in
    rw (← c.self.view_is) (answer p (Eq c.args.left.now.node c.args.right.now.node (c.args.right.now.add -ℤ c.args.left.now.add)) c.entails_eq.result (λ f. consistent p c.self.inside.rows.items k.0 k.1 f) (rw c.distance-by.ensures.is at c.entails_eq.ensures.yes) (rw c.distance-by.ensures.is at c.entails_eq.ensures.no))
