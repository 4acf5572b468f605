-- What a test that tells says of a state whose atoms are true by some numbers.
use Rattle.std.proofs.Common.{◌≡◌, ◌≤◌, zero, pos, true, false, not, List, ◌∷◌, length, arith}
use Rattle.std.proofs.lemmas.Int.{ints}
use Rattle.std.specs.Prelude.{ℤ, get_or}
use Rattle.std.specs.List.{AllByRecursion}
use Rattle.mc_base.specs.declared.ids.NodeId.{NodeId}
use Rattle.mc_base.specs.declared.plain.Atom.{Atom}
use Rattle.mc_base.specs.declared.plain.Kind.{Kind}
use Rattle.mc_base.specs.declared.plain.Kind.TheVariants.{Int, Ptr}
use Rattle.mc_base.specs.Atoms.{IsTrueAtom}
use Rattle.mc_base.specs.Kinds.{InKind}
use Rattle.mc_base.specs.Nodes.{Valuation}
use Rattle.mc_pure.specs.Laws.{IsTrue, DerivedIsTrue, TrueIsNotFalse}
use Rattle.mc_pure.specs.Pure as known
use Rattle.mc_pure.specs.Pure.{Pure, kind_atom, address_atom}
use Rattle.mc_state.specs.Known.{Test, Tells, is_false}
use Rattle.mc_state.proofs.Lists.{all_at}
use Rattle.mc_state.proofs.Tests.{is_sound}
use Rattle.mc_state.specs.State.{State, pure_of}
use Rattle.mc_rules_logic.proofs.FoldLemmas.Refusing.{not_true, place_below}

-- the nodes from 1 on have these values
abbrev pub valued : List ℤ → Valuation
valued values n = get_or (pos 0 ∷ values) n (pos 0)

kind_true : (v : Valuation) (n : NodeId) (kind : Kind) → InKind kind (v n.0) → IsTrueAtom v (kind_atom n kind)
kind_true v n Int h = h
kind_true v n Ptr h = h

-- of kinds, atoms and one block at most
pub numbers_fit : (v : Valuation) (p : Pure) → v 0 ≡ pos 0 → AllByRecursion (λ k. InKind k.1 (v k.0.0)) p.kinds → AllByRecursion (IsTrueAtom v) p.written
    → AllByRecursion (λ a. IsTrueAtom v (address_atom a)) p.starts → length p.starts ≤ 1 → IsTrue v p
numbers_fit v p start kinds atoms starts few f (known.written place e) = all_at (IsTrueAtom v) p.written place f e atoms
numbers_fit v p start kinds atoms starts few _ known.zero = (omega (arith, ints, start), omega (arith, ints, start))
numbers_fit v p start kinds atoms starts few _ (known.kind {n} {k} place e) =
    kind_true v n k (all_at (λ (x : NodeId × Kind). InKind x.1 (v x.0.0)) p.kinds place (n, k) e kinds)
numbers_fit v p start kinds atoms starts few _ (known.block {a} place e) = all_at (λ (x : NodeId). IsTrueAtom v (address_atom x)) p.starts place a e starts
numbers_fit v p start kinds atoms starts few _ (known.apart {a} {b} i j ne x y) =
    let first = place_below p.starts i a x in
    let second = place_below p.starts j b y in
    absurd (ne (omega arith))

module _ (truth : DerivedIsTrue) (sound : TrueIsNotFalse) (s : State) (v : Valuation) (fits : IsTrue v (pure_of s)) (know : Test) (tells : Tells know s) where
  pub passes : not (is_false know) ≡ true
  passes = is_sound know s tells (λ wrong. sound (pure_of s) v fits wrong)

  pub unknown : (f : Atom) → (IsTrueAtom v f → ⊥) → know f ≡ false
  unknown f n = not_true (know f) (λ e. n (truth (pure_of s) v fits f ((tells f).0 e)))
