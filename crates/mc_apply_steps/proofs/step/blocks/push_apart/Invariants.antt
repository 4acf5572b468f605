use Rattle.std.proofs.Common.{◌≡◌, ◌++◌, drop, map, pos}
use Rattle.mc_base.specs.declared.plain.Atom.TheVariants.{Ne}
use Rattle.mc_state.specs.Graph.Graph.{block_starts}
use Rattle.mc_apply_steps.proofs.step.blocks.push_apart.Given as goal

abbrev pub invariant-loop-e : goal.invariant-loop-e
invariant-loop-e l =
    l.atoms.items ++ map (λ b. Ne l.at b (pos 0)) (block_starts (drop l.e-index l.edges))
    ≡ l.fn.atoms.items ++ map (λ b. Ne l.at b (pos 0)) (block_starts l.edges)
