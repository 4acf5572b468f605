use Rattle.mc_c_types.specs.Faults.{cast_faults, size_faults, size_meaning, size_place, unless}
use Rattle.mc_c_types.specs.Types.{allocates}
use Rattle.mc_c_types.specs.declared.faults.FaultName.TheVariants.{BadSizeof}
use Rattle.mc_c_types.proofs.Orders.{told_three}
use Rattle.mc_c_types.specs.Held.{tables_held, variables_held}
use Rattle.mc_c_types.proofs.expressions.VisibleNames.check_malloc.Goals as goal

pub returns : goal.returns
returns c =
    rw c.unless.ensures
    (rw c.check_size.ensures
    (rw c.check_cast.ensures
    (rw c.takes_memory.ensures
    (rw c.size_meaning.ensures
    (rw c.size_place.ensures
    (told_three c.args.told.now.fault (cast_faults (tables_held c.args.self.now.tables.now) c.args.wanted c.args.malloc.now.cast) (size_faults (tables_held c.args.self.now.tables.now) (variables_held c.args.self.now.scope.now) c.args.malloc.now.size) (unless (allocates c.args.wanted (size_meaning (tables_held c.args.self.now.tables.now) (variables_held c.args.self.now.scope.now) c.args.malloc.now.size)) BadSizeof (size_place c.args.malloc.now.size))))))))
