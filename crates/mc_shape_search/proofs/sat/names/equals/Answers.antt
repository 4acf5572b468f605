use Rattle.std.proofs.Common.{◌∙◌, ap}
use Rattle.std.specs.Prelude.{◌+ℤ◌}
use Rattle.std.specs.Ordering.{int_eq}
use Rattle.std.proofs.lemmas.Int.{to_z-of_z}
use Rattle.mc_flow.specs.Defs.Values.{base_of}
use Rattle.mc_shape_search.specs.Sat.Names.{IsFar}
use Rattle.mc_shape_search.proofs.SatLemmas.Fixed.{far_differs}
use Rattle.mc_shape_search.proofs.sat.names.equals.Goals as goal

pub returns-in-None : goal.returns-in-None
returns-in-None c =
    let sum = base_of c.args.names.now c.args.base +ℤ c.args.add in
    let far : IsFar sum = simp (to_z-of_z, c.ranges.add) at c.in-None.ensures in
    far_differs c.value-value.result sum c.value-value.type_inv far ∙ ap (λ z. int_eq z sum) c.value-value.ensures
