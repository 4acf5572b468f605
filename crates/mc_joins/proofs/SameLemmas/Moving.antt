-- What follows, follows of the images of nodes too.
use Rattle.std.proofs.Common.{◌≡◌, ℕ}
use Rattle.mc_base.specs.declared.ids.NodeId.{NodeId}
use Rattle.mc_base.specs.declared.plain.Atom.{Atom}
use Rattle.mc_base.specs.Atoms.{moved_atom}
use Rattle.mc_base.specs.Nodes.{moved}
use Rattle.mc_pure.specs.Pure.{Pure, IsNode, Base}
use Rattle.mc_pure.specs.Derived.{Follows, IsFalse, base, itself, turned, chained, shifted, met, widened, fixed, differs, differs_along, raised, lowered, disjoint, empty, apart, more}
use Rattle.mc_joins.specs.Same.Laws.{FollowsRenamed, FalseRenamed}

module _ (p q : Pure) (f : ℕ → ℕ) (nodes : (n : NodeId) → IsNode p.kinds n → IsNode q.kinds (moved f n)) (bases : (a : Atom) → Base p a → Follows q (moved_atom f a)) where
  goes : {a : Atom} → Follows p a → Follows q (moved_atom f a)
  goes {a} (base b) = bases a b
  goes (itself {a} n) = itself (nodes a n)
  goes (turned d) = turned (goes d)
  goes (chained d e) = chained (goes d) (goes e)
  goes (shifted d e) = shifted (goes d) (goes e)
  goes (met d e) = met (goes d) (goes e)
  goes (widened d x y) = widened (goes d) x y
  goes (fixed d e) = fixed (goes d) (goes e)
  goes (differs d) = differs (goes d)
  goes (differs_along d e) = differs_along (goes d) (goes e)
  goes (raised d e g) = raised (goes d) (goes e) (goes g)
  goes (lowered d e g) = lowered (goes d) (goes e) (goes g)
  goes (disjoint d e x) = disjoint (goes d) (goes e) x

  stays_false : IsFalse p → IsFalse q
  stays_false (empty x d) = empty x (goes d)
  stays_false (apart d) = apart (goes d)
  stays_false (more x d) = more x (goes d)

pub follows_renamed : FollowsRenamed
follows_renamed p q f nodes bases a d = goes p q f nodes bases d

pub false_renamed : FalseRenamed
false_renamed p q f nodes bases d = stays_false p q f nodes bases d
