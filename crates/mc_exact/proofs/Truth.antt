-- What is true in a state is true of what is known there.
use Rattle.std.proofs.Common.{◌≡◌, ◌≢◌, ℕ, zero, suc, ℤ, pos, ◌+ℤ◌, Some, List, [], ◌∷◌, slice_get, refl, sym, ap, ◌∙◌, subst, arith}
use Rattle.std.proofs.lemmas.Int.{ints}
use Rattle.mc_base.specs.declared.ids.NodeId.{NodeId}
use Rattle.mc_base.specs.declared.plain.Kind.{Kind}
use Rattle.mc_base.specs.declared.plain.Kind.TheVariants.{Int, Ptr}
use Rattle.mc_base.specs.Atoms.{IsTrueAtom}
use Rattle.mc_base.specs.Kinds.{InKind}
use Rattle.mc_base.specs.Nodes.{Valuation}
use Rattle.mc_pure.specs.Pure as known
use Rattle.mc_pure.specs.Pure.{kind_atom}
use Rattle.mc_pure.specs.Laws.{IsTrue}
use Rattle.mc_state.specs.Graph.Graph.{block_starts}
use Rattle.mc_state.specs.State.{State, pure_of}
use Rattle.mc_state.proofs.Lists.{all_at}
use Rattle.mc_exact.proofs.Exactly.{IsTrueIn, IsAddressed, AreApart}

pub apart_at : (v : Valuation) (as' : List NodeId) (i j : ℕ) (a b : NodeId) → AreApart v as' → i ≢ j → slice_get as' i ≡ Some a → slice_get as' j ≡ Some b → v a.0 ≢ v b.0
apart_at v [] i j a b apart ne x y = cc
apart_at v (n ∷ ns) zero zero a b apart ne x y = absurd (ne refl)
apart_at v (n ∷ ns) zero (suc j) a b apart ne x y = let same : n ≡ a = cc in subst (λ (z : NodeId). v z.0 ≢ v b.0) same (all_at (λ (b : NodeId). v n.0 ≢ v b.0) ns j b y apart.0)
apart_at v (n ∷ ns) (suc i) zero a b apart ne x y = let same : n ≡ b = cc in λ e. all_at (λ (b : NodeId). v n.0 ≢ v b.0) ns i a x apart.0 (ap (λ (z : NodeId). v z.0) same ∙ sym e)
apart_at v (n ∷ ns) (suc i) (suc j) a b apart ne x y = apart_at v ns i j a b apart.1 (λ e. ne (ap suc e)) x y

pub plus_none : (x y : ℤ) → x ≡ y +ℤ pos 0 → x ≡ y
plus_none x y e = omega (arith, ints)

kind_true : (v : Valuation) (n : NodeId) (k : Kind) → InKind k (v n.0) → IsTrueAtom v (kind_atom n k)
kind_true v n Int h = h
kind_true v n Ptr h = h

pub true_of : (v : Valuation) (s : State) → IsTrueIn v s → IsTrue v (pure_of s)
true_of v s i f (known.written place e) = all_at (IsTrueAtom v) s.atoms place f e i.atoms
true_of v s i _ known.zero = let z = i.null in (omega (arith, ints, z), omega (arith, ints, z))
true_of v s i _ (known.kind {n} {k} place e) = kind_true v n k (all_at (λ k. InKind k.1 (v k.0.0)) s.kinds place (n, k) e i.kinds)
true_of v s i _ (known.block {a} place e) = all_at (IsAddressed v) (block_starts s.graph.edges) place a e i.starts
true_of v s i _ (known.apart {a} {b} j k ne x y) = λ e. apart_at v (block_starts s.graph.edges) j k a b i.apart ne x y (plus_none (v a.0) (v b.0) e)
