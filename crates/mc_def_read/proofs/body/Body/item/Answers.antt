use Rattle.mc_def_read.specs.Scopes.{setting_of}
use Rattle.mc_def_read.proofs.body.Body.item.Goals as goal

pub returns-in-Relates : goal.returns-in-Relates
returns-in-Relates c = rw c.in-Relates.is (c.relate.ensures (setting_of c.args.setting.now) c.args.guarded)

pub returns-in-Bounds : goal.returns-in-Bounds
returns-in-Bounds c = rw c.in-Bounds.is (c.bound.ensures (setting_of c.args.setting.now) c.args.guarded)
