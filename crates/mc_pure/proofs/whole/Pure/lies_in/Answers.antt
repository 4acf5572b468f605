use Rattle.std.proofs.Common.{◌≡◌, ◌-ℤ◌, inr, rules}
use mir.Syntax.{w64}
use mir.Val.{to_z, of_z}
use Rattle.mc_base.specs.declared.plain.Atom.TheVariants.{In}
use Rattle.mc_pure.specs.Known.{pure_of}
use Rattle.mc_pure.proofs.Growing.{closed_true, closed_false, answer}
use Rattle.mc_pure.proofs.Deciding.{consistent}
use Rattle.mc_pure.proofs.whole.Pure.lies_in.Goals as goal

pub returns-then-self : goal.returns-then-self
returns-then-self c =
    let k = closed_true (pure_of c.self.inside.known) c.self.inside.rows.items c.self.inside.wrong c.self.invariant.1 c.if-self.true in
    rw (← c.self.view_is) ((λ _. inr k), (λ _. c.if-self.true))

pub returns-else-self : goal.returns-else-self
returns-else-self c =
    let p = pure_of c.self.inside.known in
    let k = closed_false p c.self.inside.rows.items c.self.inside.wrong c.self.invariant.1 c.if-self.false in
    let a : to_z w64 (of_z w64 c.args.lo) ≡ c.args.lo = search rules in
    let b : to_z w64 (of_z w64 c.args.hi) ≡ c.args.hi = search rules in
    let d : to_z w64 (of_z w64 c.args.term.now.add) ≡ c.args.term.now.add = search rules in
    rw (← c.self.view_is) (answer p (In c.args.term.now.node (c.args.lo -ℤ c.args.term.now.add) (c.args.hi -ℤ c.args.term.now.add)) c.entails_in.result (λ f. consistent p c.self.inside.rows.items k.0 k.1 f) (rw (c.span_less-span.ensures.lo, c.span_less-span.ensures.hi, a, b, d) at c.entails_in.ensures.yes) (rw (c.span_less-span.ensures.lo, c.span_less-span.ensures.hi, a, b, d) at c.entails_in.ensures.no))
