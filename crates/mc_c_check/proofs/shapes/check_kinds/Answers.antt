use Rattle.std.proofs.Common.{ap, drop, sym, ◌∙◌}
use Rattle.mc_c_types.specs.First.{told_of}
use Rattle.mc_c_types.specs.Held.{variables_held}
use Rattle.mc_c_check.proofs.Commands.{no_more_given}
use Rattle.mc_c_check.proofs.shapes.check_kinds.Goals as goal

pub returns : goal.returns
returns c =
    let none = no_more_given (variables_held c.args.sight.scope.now) (drop c.loop-i.i c.args.kinds.now) c.args.arguments.now c.loop-i.i c.loop-i-test.false in
    sym (ap (told_of c.loop-i.told.fault) none) ∙ c.loop-i.invariant
