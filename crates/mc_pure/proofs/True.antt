-- What is entailed is true, and nothing false follows.
use Rattle.std.proofs.Common.{pos, inl, inr, arith}
use Rattle.std.proofs.lemmas.Int.{ints, clamps}
use Rattle.mc_base.specs.declared.ids.NodeId.{NodeId}
use Rattle.mc_base.specs.declared.plain.Atom.{Atom}
use Rattle.mc_base.specs.declared.plain.Atom.TheVariants.{Eq, Ne}
use Rattle.mc_base.specs.Atoms.{IsTrueAtom}
use Rattle.mc_base.specs.Nodes.{Valuation}
use Rattle.mc_pure.specs.Pure as known
use Rattle.mc_pure.specs.Pure.{Pure, IsNode, Base}
use Rattle.mc_pure.specs.Derived.{Follows, IsFalse, base, itself, turned, chained, shifted, met, widened, fixed, differs, differs_along, raised, lowered, disjoint, empty, apart, more}
use Rattle.mc_pure.specs.Laws.{IsTrue, DerivedIsTrue, TrueIsNotFalse, FollowsFromMore, FalseFromMore, BlocksAtOneNode, BlockAtNull, EmptyRange}

module _ (p : Pure) (v : Valuation) (true_base : IsTrue v p) where
  holds : {f : Atom} → Follows p f → IsTrueAtom v f
  holds {f} (base b) = true_base f b
  holds (itself n) = omega (arith, ints)
  holds (turned d) = let e = holds d in omega (arith, ints)
  holds (chained d e) = let x = holds d in let y = holds e in omega (arith, ints)
  holds (shifted d e) = let x = holds d in let y = holds e in (omega (arith, ints), omega (arith, ints))
  holds (met d e) = let x = holds d in let y = holds e in (omega (arith, ints, clamps), omega (arith, ints, clamps))
  holds (widened d q r) = let x = holds d in (omega (arith, ints), omega (arith, ints))
  holds (fixed d e) = let x = holds d in let y = holds e in omega (arith, ints)
  holds (differs d) = let x = holds d in λ e. x (omega (arith, ints))
  holds (differs_along d e) = let x = holds d in let y = holds e in λ z. x (omega (arith, ints))
  holds (raised d e f) = let x = holds d in let y = holds e in let z = holds f in (omega (arith, ints), z.1)
  holds (lowered d e f) = let x = holds d in let y = holds e in let z = holds f in (z.0, omega (arith, ints))
  holds (disjoint d e q) = let x = holds d in let y = holds e in λ z. elim q [ inl r ↦ omega (arith, ints) | inr r ↦ omega (arith, ints) ]

  not_false : IsFalse p → ⊥
  not_false (empty q d) = let x = holds d in omega (arith, ints)
  not_false (apart d) = holds d (omega (arith, ints))
  not_false (more q d) = let x = holds d in q (omega (arith, ints))

pub derived_true : DerivedIsTrue
derived_true p v true_base f d = elim d [ inl x ↦ holds p v true_base x | inr x ↦ absurd (not_false p v true_base x) ]

pub true_not_false : TrueIsNotFalse
true_not_false p v true_base = not_false p v true_base

module _ (p q : Pure) (nodes : (n : NodeId) → IsNode p.kinds n → IsNode q.kinds n) (bases : (f : Atom) → Base p f → Follows q f) where
  grows : {f : Atom} → Follows p f → Follows q f
  grows {f} (base b) = bases f b
  grows (itself {a} n) = itself (nodes a n)
  grows (turned d) = turned (grows d)
  grows (chained d e) = chained (grows d) (grows e)
  grows (shifted d e) = shifted (grows d) (grows e)
  grows (met d e) = met (grows d) (grows e)
  grows (widened d x y) = widened (grows d) x y
  grows (fixed d e) = fixed (grows d) (grows e)
  grows (differs d) = differs (grows d)
  grows (differs_along d e) = differs_along (grows d) (grows e)
  grows (raised d e f) = raised (grows d) (grows e) (grows f)
  grows (lowered d e f) = lowered (grows d) (grows e) (grows f)
  grows (disjoint d e x) = disjoint (grows d) (grows e) x

  stays_false : IsFalse p → IsFalse q
  stays_false (empty x d) = empty x (grows d)
  stays_false (apart d) = apart (grows d)
  stays_false (more x d) = more x (grows d)

pub follows_from_more : FollowsFromMore
follows_from_more p q nodes bases f d = grows p q nodes bases d

pub false_from_more : FalseFromMore
false_from_more p q nodes bases d = stays_false p q nodes bases d

-- ---- contradictions
same_ne : (p : Pure) (a b : NodeId) → Follows p (Ne a b (pos 0)) → Follows p (Eq b a (pos 0)) → IsFalse p
same_ne p a b ne eq = apart (differs_along ne eq)

pub blocks_at_one_node : BlocksAtOneNode
blocks_at_one_node p i j a b differ x y equal = elim equal [
  | inl e ↦ same_ne p a b (base (known.apart i j differ x y)) (turned e)
  | inr f ↦ f
]

pub block_at_null : BlockAtNull
block_at_null p i a x equal = elim equal [
  | inl e ↦ (let zero = shifted e (base known.zero) in empty {a = a} {lo = pos 1} {hi = pos 0} (omega (arith, ints)) (met (base (known.block i x)) zero))
  | inr f ↦ f
]

pub empty_range : EmptyRange
empty_range p place n lo hi x less = empty less (base (known.written place x))
