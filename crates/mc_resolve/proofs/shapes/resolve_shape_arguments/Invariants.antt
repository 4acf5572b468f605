use Rattle.std.proofs.Common.{◌≡◌, map, take}
use Rattle.mc_semantics.specs.Resolved.Resolving.{resolved_argument}
use Rattle.mc_semantics.specs.Resolved.Views.{argument_of}
use Rattle.mc_resolve.specs.Named.{naming_at, visible_at}
use Rattle.mc_resolve.proofs.shapes.resolve_shape_arguments.Given as goal

abbrev pub invariant-loop-argument : goal.invariant-loop-argument
invariant-loop-argument l = map argument_of l.made.items ≡ map (resolved_argument (naming_at l.names) (visible_at l.names)) (take l.argument-index l.arguments)
