use Rattle.std.proofs.Common.{◌≡◌, ◌++◌, length}
use Rattle.mc_c_syntax.specs.Visible.Lasts.{names_held}
use Rattle.mc_c_syntax.proofs.visible.stack.NameStack.push_all.Given as goal

abbrev pub invariant-loop-name : goal.invariant-loop-name
invariant-loop-name l = l.self ++ names_held l.names ≡ l.fn.self ++ names_held l.fn.names

abbrev pub decreases-loop-name : goal.decreases-loop-name
decreases-loop-name l = length l.names
