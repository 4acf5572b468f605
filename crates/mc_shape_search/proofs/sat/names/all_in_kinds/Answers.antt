use Rattle.mc_shape_search.proofs.SatLemmas.Fixed.{other_count}
use Rattle.mc_shape_search.proofs.sat.names.all_in_kinds.Goals as goal

pub returns-then-kinds-names : goal.returns-then-kinds-names
returns-then-kinds-names c = other_count c.args.kinds.now c.args.names.now c.if-kinds-names.true
