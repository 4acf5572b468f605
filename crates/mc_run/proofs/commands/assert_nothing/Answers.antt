use Rattle.std.proofs.Common.{◌∙◌, sym, refl, inl, inr}
use Rattle.mc_run.proofs.Assuming.{nothing_there, something_there}
use Rattle.mc_run.proofs.commands.assert_nothing.Goals as goal

pub returns-then-len-eq0 : goal.returns-then-len-eq0
returns-then-len-eq0 c = λ program choices. inl (nothing_there c.args.machine.now.heap (sym c.len.ensures.count ∙ c.if-len-eq0.true), refl)

pub returns-else-len-eq0 : goal.returns-else-len-eq0
returns-else-len-eq0 c = λ program choices. inr (something_there c.args.machine.now.heap (λ e. c.if-len-eq0.false (c.len.ensures.count ∙ e)), refl)
