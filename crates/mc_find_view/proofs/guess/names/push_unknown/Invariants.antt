use Rattle.std.proofs.Common.{◌≡◌, ◌++◌, None, replicate}
use Rattle.mc_find_view.proofs.guess.names.push_unknown.Given as goal

abbrev pub invariant-loop-name : goal.invariant-loop-name
invariant-loop-name l = l.names.items ≡ l.fn.names.items ++ replicate l._name None
