use Rattle.std.proofs.Common.{arith}
use Rattle.mc_pure.specs.Known.{pure_of}
use Rattle.mc_pure.proofs.Growing.{closed_true, closed_false, closed_as, atom_base, atom_sound, atom_rest, atom_false, atom_fit, whole}
use Rattle.mc_pure.proofs.whole.Pure.assume.Goals as goal

pub include-self-inside-requires-clause-sound : goal.include-self-inside-requires-clause-sound
include-self-inside-requires-clause-sound c =
    let k = closed_false (pure_of c.self.inside.known) c.self.inside.rows.items c.self.inside.wrong c.self.invariant.1 c.if-not-self.true in
    rw (c.in_ok-push.ensures.ok, c.as_mut_slice.ensures.value) (atom_sound c.self.inside.known.nodes c.self.inside.known.written c.self.inside.known.starts.items c.args.atom.now c.self.inside.rows.items (rw (← c.self.view_is) at c.requires) k.0)

pub include-self-inside-requires-clause-base : goal.include-self-inside-requires-clause-base
include-self-inside-requires-clause-base c = rw c.in_ok-push.ensures.ok (atom_base c.self.inside.known.nodes c.self.inside.known.written c.self.inside.known.starts.items c.args.atom.now)

pub include-self-inside-requires-clause-rest : goal.include-self-inside-requires-clause-rest
include-self-inside-requires-clause-rest c =
    let k = closed_false (pure_of c.self.inside.known) c.self.inside.rows.items c.self.inside.wrong c.self.invariant.1 c.if-not-self.true in
    rw (c.in_ok-push.ensures.ok, c.as_mut_slice.ensures.value) (atom_rest c.self.inside.known.nodes c.self.inside.known.written c.self.inside.known.starts.items c.args.atom.now c.self.inside.rows.items k.1)

pub invariant_of-self-then-not-self : goal.invariant_of-self-then-not-self
invariant_of-self-then-not-self c =
    let e = whole c.self.inside.rows.len c.include-self-inside.new.rows c.self.inside.rows.items (omega (arith, c.include-self-inside.auto.rows, c.as_mut_slice.ensures.len)) in
    rw (e, c.in_ok-push.ensures.ok) (atom_fit c.self.inside.known.nodes c.self.inside.known.written c.self.inside.known.starts.items c.args.atom.now (rw (← c.self.view_is) at c.requires) c.self.invariant.0, rw c.in_ok-push.ensures.ok at c.include-self-inside.ensures)

pub invariant_of-self-else-not-self : goal.invariant_of-self-else-not-self
invariant_of-self-else-not-self c =
    let k = closed_true (pure_of c.self.inside.known) c.self.inside.rows.items c.self.inside.wrong c.self.invariant.1 c.if-not-self.false in
    rw c.in_ok-push.ensures.ok (atom_fit c.self.inside.known.nodes c.self.inside.known.written c.self.inside.known.starts.items c.args.atom.now (rw (← c.self.view_is) at c.requires) c.self.invariant.0, closed_as _ c.self.inside.rows.items c.self.inside.wrong c.if-not-self.false (atom_false c.self.inside.known.nodes c.self.inside.known.written c.self.inside.known.starts.items c.args.atom.now k))
