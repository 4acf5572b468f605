use Rattle.std.proofs.Common.{◌≡◌, ◌++◌, drop}
use Rattle.std.specs.List.{flat_map}
use Rattle.mc_state_io.proofs.text.joining.push_joined.Given as goal

abbrev pub invariant-loop-text : goal.invariant-loop-text
invariant-loop-text l = l.out.items ++ flat_map (λ u. l.gap ++ u) (drop l.text-index l.others) ≡ l.initial.out.items ++ flat_map (λ u. l.gap ++ u) l.others
