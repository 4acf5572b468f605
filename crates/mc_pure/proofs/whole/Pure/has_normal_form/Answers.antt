use Rattle.mc_pure.specs.Rows.{view}
use Rattle.mc_pure.specs.Known.{pure_of}
use Rattle.mc_pure.proofs.Growing.{closed_by_not}
use Rattle.mc_pure.proofs.Deciding.{normal}
use Rattle.mc_pure.proofs.Placed.{own_least}
use Rattle.mc_pure.proofs.whole.Pure.has_normal_form.Goals as goal

pub returns : goal.returns
returns c =
    let p = pure_of c.self.inside.known in
    let k = closed_by_not p c.self.inside.rows.items c.self.inside.wrong c.self.invariant.1 (rw (← c.self.view_is) at c.requires) in
    rw (← c.self.view_is) (record { nf = view c.self.inside.rows.items; normal = normal p c.self.inside.rows.items k.0 k.1; least = λ a n. own_least p c.self.inside.rows.items k.0 k.1 a n })
