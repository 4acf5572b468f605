use Rattle.std.proofs.Common.{◌∙◌, ap, sym}
use Rattle.std.specs.Prelude.{is_some}
use Rattle.mc_c_check.proofs.Repeats.{next_name}
use Rattle.mc_c_check.proofs.repeated.check_repeated.Goals as goal

pub loop-name-preserved : goal.loop-name-preserved
loop-name-preserved c =
    rw c.in_ok-push.ensures.ok
    (rw c.unless.ensures
    (next_name c.loop-name.told.fault c.args.names.now c.loop-name.before c.loop-name.name-index c.name-item.result c.is_none.result c.loop-name-test.true c.name-item.is (ap is_some (sym c.place.ensures) ∙ c.is_none.ensures) ∙ c.loop-name.invariant))
