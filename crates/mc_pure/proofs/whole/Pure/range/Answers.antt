use Rattle.mc_pure.specs.Known.{pure_of}
use Rattle.mc_pure.proofs.Growing.{closed_by_not, range_of, range_ends}
use Rattle.mc_pure.proofs.whole.Pure.range.Goals as goal

pub row_of-requires-clause-sound : goal.row_of-requires-clause-sound
row_of-requires-clause-sound c =
    let p = pure_of c.self.inside.known in
    let n = rw (← c.self.view_is) at c.requires.there in
    let k = closed_by_not p c.self.inside.rows.items c.self.inside.wrong c.self.invariant.1 (rw (← c.self.view_is) at c.requires.not_false) in
    rw c.as_slice.ensures.value k.0

pub own_range-requires-clause-lo : goal.own_range-requires-clause-lo
own_range-requires-clause-lo c =
    let p = pure_of c.self.inside.known in
    let n = rw (← c.self.view_is) at c.requires.there in
    let k = closed_by_not p c.self.inside.rows.items c.self.inside.wrong c.self.invariant.1 (rw (← c.self.view_is) at c.requires.not_false) in
    (range_ends p c.self.inside.rows.items c.args.node c.row_of.result k.0 n (rw c.as_slice.ensures.value at c.row_of.ensures.is)).0

pub own_range-requires-clause-hi : goal.own_range-requires-clause-hi
own_range-requires-clause-hi c =
    let p = pure_of c.self.inside.known in
    let n = rw (← c.self.view_is) at c.requires.there in
    let k = closed_by_not p c.self.inside.rows.items c.self.inside.wrong c.self.invariant.1 (rw (← c.self.view_is) at c.requires.not_false) in
    (range_ends p c.self.inside.rows.items c.args.node c.row_of.result k.0 n (rw c.as_slice.ensures.value at c.row_of.ensures.is)).1

pub returns : goal.returns
returns c =
    let p = pure_of c.self.inside.known in
    let n = rw (← c.self.view_is) at c.requires.there in
    let k = closed_by_not p c.self.inside.rows.items c.self.inside.wrong c.self.invariant.1 (rw (← c.self.view_is) at c.requires.not_false) in
    rw (← c.self.view_is, c.own_range.ensures.lo, c.own_range.ensures.hi) (range_of p c.self.inside.rows.items c.args.node c.row_of.result k.0 k.1 n (rw c.as_slice.ensures.value at c.row_of.ensures.is))
