use Rattle.std.proofs.Common.{◌≡◌, ◌++◌, map, take}
use Rattle.mc_resolve.proofs.fields.push_names.Given as goal

abbrev pub invariant-loop-declarator : goal.invariant-loop-declarator
invariant-loop-declarator l = l.names ≡ l.initial.names ++ map (λ d. d.name.text) (take l.declarator-index l.declarators)
