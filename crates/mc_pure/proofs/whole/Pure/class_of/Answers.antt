use Rattle.mc_pure.specs.Known.{pure_of}
use Rattle.mc_pure.proofs.Growing.{closed_by_not}
use Rattle.mc_pure.proofs.Placed.{place_equal, place_least}
use Rattle.mc_pure.proofs.whole.Pure.class_of.Goals as goal

pub row_of-requires-clause-sound : goal.row_of-requires-clause-sound
row_of-requires-clause-sound c =
    let p = pure_of c.self.inside.known in
    let k = closed_by_not p c.self.inside.rows.items c.self.inside.wrong c.self.invariant.1 (rw (← c.self.view_is) at c.requires.not_false) in
    rw c.as_slice.ensures.value k.0

pub returns-clause-least : goal.returns-clause-least
returns-clause-least c =
    let p = pure_of c.self.inside.known in
    let n = rw (← c.self.view_is) at c.requires.there in
    let k = closed_by_not p c.self.inside.rows.items c.self.inside.wrong c.self.invariant.1 (rw (← c.self.view_is) at c.requires.not_false) in
    rw (← c.self.view_is, c.place_of.ensures.least) (place_least p c.self.inside.rows.items k.0 k.1 c.args.node n c.row_of.result (rw c.as_slice.ensures.value at c.row_of.ensures.is))

pub returns-clause-equal : goal.returns-clause-equal
returns-clause-equal c =
    let p = pure_of c.self.inside.known in
    let n = rw (← c.self.view_is) at c.requires.there in
    let k = closed_by_not p c.self.inside.rows.items c.self.inside.wrong c.self.invariant.1 (rw (← c.self.view_is) at c.requires.not_false) in
    rw (← c.self.view_is, c.place_of.ensures.least, c.place_of.ensures.offset) (place_equal p c.self.inside.rows.items k.0 k.1 c.args.node n c.row_of.result (rw c.as_slice.ensures.value at c.row_of.ensures.is))
