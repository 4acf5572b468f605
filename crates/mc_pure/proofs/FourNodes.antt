-- What is known of four nodes.
use Rattle.std.proofs.Common.{◌≡◌, ◌≢◌, ℕ, zero, suc, pos, Option, Some, None, slice_get, refl, subst, inl, arith}
use Rattle.std.proofs.lemmas.Int.{ints}
use Rattle.mc_base.specs.declared.ids.NodeId.{NodeId}
use Rattle.mc_base.specs.declared.plain.Kind.{Kind}
use Rattle.mc_base.specs.declared.plain.Atom.{Atom}
use Rattle.mc_base.specs.declared.plain.Atom.TheVariants.{Eq, Ne, In}
use Rattle.mc_base.specs.Atoms.{IsTrueAtom}
use Rattle.mc_pure.specs.Pure as known_base
use Rattle.mc_pure.specs.Pure.{Base, written, kind, block, apart, kind_atom, address_atom}
use Rattle.mc_pure.specs.Derived.{Follows, IsFalse, base, shifted}
use Rattle.mc_pure.specs.Examples.{node, known, values, at_one, at_null, between}
use Rattle.mc_pure.specs.Laws.{IsTrue}
use Rattle.mc_pure.proofs.True.{blocks_at_one_node, block_at_null, empty_range}

-- the kind's range holds of what is listed
KindHolds : Option (NodeId × Kind) → Type 0
KindHolds None = Unit {0}
KindHolds (Some k) = IsTrueAtom values (kind_atom k.0 k.1)

kind_at : (n : NodeId) (k : Kind) (listed : Option (NodeId × Kind)) → listed ≡ Some (n, k) → KindHolds listed → IsTrueAtom values (kind_atom n k)
unfolding KindHolds
kind_at n k listed e t = subst KindHolds e t

kinds_true : (place : ℕ) (n : NodeId) (k : Kind) → slice_get known.kinds place ≡ Some (n, k) → IsTrueAtom values (kind_atom n k)
unfolding KindHolds
kinds_true zero n k e = kind_at n k (slice_get known.kinds 0) e (omega (arith, ints), omega (arith, ints))
kinds_true (suc zero) n k e = kind_at n k (slice_get known.kinds 1) e (omega (arith, ints), omega (arith, ints))
kinds_true (suc (suc zero)) n k e = kind_at n k (slice_get known.kinds 2) e (omega (arith, ints), omega (arith, ints))
kinds_true (suc (suc (suc zero))) n k e = kind_at n k (slice_get known.kinds 3) e (omega (arith, ints), omega (arith, ints))
kinds_true (suc (suc (suc (suc place)))) n k e = absurd (cc e)

written_true : (place : ℕ) (f : Atom) → slice_get known.written place ≡ Some f → IsTrueAtom values f
written_true zero f e = let is : Eq (node 4) (node 3) (pos 1) ≡ f = cc in subst (IsTrueAtom values) is refl
written_true (suc zero) f e = let is : In (node 3) (pos 5) (pos 7) ≡ f = cc in subst (IsTrueAtom values) is (omega (arith, ints), omega (arith, ints))
written_true (suc (suc place)) f e = absurd (cc e)

blocks_true : (place : ℕ) (a : NodeId) → slice_get known.starts place ≡ Some a → IsTrueAtom values (address_atom a)
blocks_true zero a e = let is : node 1 ≡ a = cc in subst (λ q. IsTrueAtom values (address_atom q)) is (omega (arith, ints), omega (arith, ints))
blocks_true (suc zero) a e = let is : node 2 ≡ a = cc in subst (λ q. IsTrueAtom values (address_atom q)) is (omega (arith, ints), omega (arith, ints))
blocks_true (suc (suc place)) a e = absurd (cc e)

apart_true : (i j : ℕ) (a b : NodeId) → i ≢ j → slice_get known.starts i ≡ Some a → slice_get known.starts j ≡ Some b → IsTrueAtom values (Ne a b (pos 0))
apart_true zero zero a b ne e f = absurd (ne refl)
apart_true zero (suc zero) a b ne e f =
    let x : node 1 ≡ a = cc in
    let y : node 2 ≡ b = cc in
    subst (λ q. IsTrueAtom values (Ne q b (pos 0))) x (subst (λ q. IsTrueAtom values (Ne (node 1) q (pos 0))) y (λ z. omega (arith, ints)))
apart_true (suc zero) zero a b ne e f =
    let x : node 2 ≡ a = cc in
    let y : node 1 ≡ b = cc in
    subst (λ q. IsTrueAtom values (Ne q b (pos 0))) x (subst (λ q. IsTrueAtom values (Ne (node 2) q (pos 0))) y (λ z. omega (arith, ints)))
apart_true (suc zero) (suc zero) a b ne e f = absurd (ne refl)
apart_true zero (suc (suc j)) a b ne e f = absurd (cc f)
apart_true (suc zero) (suc (suc j)) a b ne e f = absurd (cc f)
apart_true (suc (suc i)) j a b ne e f = absurd (cc e)

pub values_are_true : IsTrue values known
values_are_true f (written place e) = written_true place f e
values_are_true _ known_base.zero = (omega (arith, ints), omega (arith, ints))
values_are_true _ (kind {n} {k} place e) = kinds_true place n k e
values_are_true _ (block {a} place e) = blocks_true place a e
values_are_true _ (apart {a} {b} i j ne x y) = apart_true i j a b ne x y

pub shifted_range : Follows known (In (node 4) (pos 6) (pos 8))
shifted_range = shifted (base (written 0 refl)) (base (written 1 refl))

pub starts_apart : Follows known (Ne (node 1) (node 2) (pos 0))
starts_apart = base (apart 0 1 (λ e. omega arith) refl refl)

pub one_node : IsFalse at_one
one_node = blocks_at_one_node at_one 1 0 (node 2) (node 1) (λ e. omega arith) refl refl (inl (base (written 0 refl)))

pub null_start : IsFalse at_null
null_start = block_at_null at_null 0 (node 1) refl (inl (base (written 0 refl)))

pub no_number : IsFalse between
no_number = empty_range between 0 (node 3) (pos 5) (pos 4) refl (omega (arith, ints))

pub follows_at_one : (f : Atom) → Base known f → Follows at_one f
follows_at_one f (written place e) = base (written (suc place) e)
follows_at_one _ known_base.zero = base known_base.zero
follows_at_one _ (kind place e) = base (kind place e)
follows_at_one _ (block place e) = base (block place e)
follows_at_one _ (apart i j ne x y) = base (apart i j ne x y)
