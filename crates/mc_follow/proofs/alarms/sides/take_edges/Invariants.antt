use Rattle.std.proofs.Common.{◌≡◌, ◌++◌, length, reverse}
use Rattle.mc_follow.proofs.alarms.sides.take_edges.Given as goal

abbrev pub invariant-loop : goal.invariant-loop
invariant-loop l = record {
  count : length l.edges.items ≡ l.counter;
  taken : reverse l.fn.made.items ≡ l.edges.items ++ reverse l.made.items;
}
