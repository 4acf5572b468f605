use Rattle.mc_c_types.specs.Held.{tables_held}
use Rattle.mc_c_check.proofs.Agreements.{lengths_differ, type_of}
use Rattle.mc_c_check.proofs.prototypes.same_parameters.Goals as goal

pub returns-then-left-right : goal.returns-then-left-right
returns-then-left-right c = lengths_differ (type_of (tables_held c.args.tables.now)) c.args.left.now c.args.right.now c.if-left-right.true
