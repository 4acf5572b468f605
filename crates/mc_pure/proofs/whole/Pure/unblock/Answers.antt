use Rattle.std.proofs.Common.{arith}
use Rattle.mc_pure.specs.Known.{IsFit}
use Rattle.mc_pure.specs.Pure.{Pure as Facts}
use Rattle.mc_pure.specs.Firsts.{without_first}
use Rattle.mc_pure.proofs.Starting.{start_sound, start_kinds}
use Rattle.mc_pure.proofs.Removing.{from_more}
use Rattle.mc_pure.proofs.Growing.{less_fit, whole}
use Rattle.mc_pure.proofs.whole.Pure.unblock.Goals as goal

pub finish-self-inside-requires-clause-sound : goal.finish-self-inside-requires-clause-sound
finish-self-inside-requires-clause-sound c =
    let s = c.self.inside.known.starts.items in
    let left = without_first s c.args.at in
    let q : Facts = record { kinds = c.self.inside.known.nodes; written = c.self.inside.known.written; starts = left } in
    let fit : IsFit q = less_fit c.self.inside.known.nodes c.self.inside.known.written s left (λ i a e. from_more s c.args.at i a e) c.self.invariant.0 in
    rw (c.remove_first.ensures, c.as_mut_slice.ensures.value, c.in_ok-rows.ensures.rows) (start_sound q fit c.start.ensures.rise)

pub finish-self-inside-requires-clause-kinds : goal.finish-self-inside-requires-clause-kinds
finish-self-inside-requires-clause-kinds c =
    let s = c.self.inside.known.starts.items in
    let left = without_first s c.args.at in
    let q : Facts = record { kinds = c.self.inside.known.nodes; written = c.self.inside.known.written; starts = left } in
    let fit : IsFit q = less_fit c.self.inside.known.nodes c.self.inside.known.written s left (λ i a e. from_more s c.args.at i a e) c.self.invariant.0 in
    rw (c.remove_first.ensures, c.as_mut_slice.ensures.value, c.in_ok-rows.ensures.rows) (start_kinds q fit c.start.ensures.rise)

pub invariant_of-self : goal.invariant_of-self
invariant_of-self c =
    let s = c.self.inside.known.starts.items in
    let left = without_first s c.args.at in
    let q : Facts = record { kinds = c.self.inside.known.nodes; written = c.self.inside.known.written; starts = left } in
    let fit : IsFit q = less_fit c.self.inside.known.nodes c.self.inside.known.written s left (λ i a e. from_more s c.args.at i a e) c.self.invariant.0 in
    let e = whole c.in_ok-rows.rows.len c.finish-self-inside.new.rows c.in_ok-rows.rows.items (omega (arith, c.finish-self-inside.auto.rows, c.as_mut_slice.ensures.len)) in
    rw (e, c.remove_first.ensures) (fit, rw c.remove_first.ensures at c.finish-self-inside.ensures)
