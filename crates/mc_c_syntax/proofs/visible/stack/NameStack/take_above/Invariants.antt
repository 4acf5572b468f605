use Rattle.std.proofs.Common.{◌≡◌, ◌++◌, drop, length, take}
use Rattle.mc_c_syntax.specs.Visible.Lasts.{names_held}
use Rattle.mc_c_syntax.proofs.visible.stack.NameStack.take_above.Given as goal

abbrev pub invariant-loop-self : goal.invariant-loop-self
invariant-loop-self l = record {
  below : take l.kept l.self ≡ take l.kept l.initial.self;
  above : drop l.kept l.self ++ names_held l.above ≡ drop l.kept l.initial.self;
}

abbrev pub decreases-loop-self : goal.decreases-loop-self
decreases-loop-self l = length l.self
