use Rattle.std.proofs.Common.{◌≡◌, ◌<◌, sym, subst, arith}
use Rattle.mc_exact.proofs.LeastNodes.{IsAfter, begins_after, passes_after, found_at, ends_at}
use Rattle.mc_exact.proofs.picks.least.Goals as goal

pub loop-number-init : goal.loop-number-init
loop-number-init c = λ know t. begins_after know c.args.node

pub loop-number-preserved : goal.loop-number-preserved
loop-number-preserved c = λ know t. passes_after know c.args.node c.loop-number.number (c.loop-number.invariant know t) (sym (c.if-are_equal.ensures.told know t))

pub returns-then-are_equal : goal.returns-then-are_equal
returns-then-are_equal c =
    let less : c.loop-number.number < c.args.node.0 = omega arith in
    λ know t. found_at know c.args.node c.loop-number.number (c.loop-number.invariant know t) less (sym (c.if-are_equal.ensures.told know t))

pub returns : goal.returns
returns c =
    let last : c.loop-number.number ≡ c.args.node.0 = omega arith in
    λ know t. ends_at know c.args.node (subst (IsAfter know c.args.node) last (c.loop-number.invariant know t))
