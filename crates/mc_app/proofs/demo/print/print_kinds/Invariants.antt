use Rattle.std.proofs.Common.{◌≡◌, ◌++◌, ◌∷◌, [], drop}
use Rattle.std.specs.Fmt.{decimal}
use Rattle.std.specs.List.{flat_map}
use Rattle.mc_gen.specs.Texts.{number_of}
use Rattle.mc_app.proofs.demo.print.print_kinds.Given as goal

abbrev pub invariant-loop-kind : goal.invariant-loop-kind
invariant-loop-kind l =
    l.out.items ++ flat_map (λ kind. (32 ∷ []) ++ decimal (number_of kind)) (drop l.kind-index l.kinds)
    ≡ l.initial.out.items ++ flat_map (λ kind. (32 ∷ []) ++ decimal (number_of kind)) l.kinds
