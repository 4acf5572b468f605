use Rattle.mc_def_read.proofs.Sayings.{contents_fails}
use Rattle.mc_def_read.proofs.Folds.{drop_at}
use Rattle.mc_def_read.specs.Fields.{fields_of}
use Rattle.mc_def_read.specs.Scopes.{held_of}
use Rattle.std.proofs.lemmas.Result.{err_from_is_err_and}
use Rattle.mc_def_read.proofs.held.Held.hold_all.Goals as goal

pub returns-in_err-hold : goal.returns-in_err-hold
returns-in_err-hold c = let p = err_from_is_err_and c.from_residual.result c.from_residual.ensures.1 in rw (p.1, p.2) (contents_fails {B = Unit {0}} {C = Unit {0}} (fields_of c.args.names.now) (held_of c.loop-number.self) c.loop-number.number c.index-list-number.result _ _ _ (λ u. held_of c.loop-number.self) (λ u. held_of c.loop-number.self) c.in_err-hold.field-0.0 c.loop-number.invariant (drop_at _ _ _ c.loop-number-test.true c.index-list-number.is) c.in_err-hold.ensures)
