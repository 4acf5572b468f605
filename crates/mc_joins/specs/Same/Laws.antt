-- What holds of renamed states.
use Rattle.std.specs.Prelude.{◌≡◌, ◌↔◌, ℕ, List, ℤ, Option}
use Rattle.mc_base.specs.declared.plain.Atom.{Atom}
use Rattle.mc_base.specs.declared.ids.NodeId.{NodeId}
use Rattle.mc_base.specs.Atoms.{moved_atom}
use Rattle.mc_base.specs.Nodes.{moved}
use Rattle.mc_flow.specs.Heap.Heap.{Region}
use Rattle.mc_flow.specs.declared.defs.rules.Def.{Def}
use Rattle.mc_pure.specs.Pure.{Pure, Base, IsNode}
use Rattle.mc_pure.specs.Derived.{Follows, IsFalse}
use Rattle.mc_state.specs.State.{State}
use Rattle.mc_state.specs.Facts.{AreSame}
use Rattle.mc_state.specs.Fits.{IsBounded}
use Rattle.mc_state.specs.Stands.{Stands}
use Rattle.mc_joins.specs.Same.Same.{AreSameUnder, anew}

-- where nodes go to nodes, and what is known follows there, renamed, so does what follows
abbrev pub FollowsRenamed : Type 0
FollowsRenamed =
    (p q : Pure) (f : ℕ → ℕ) → ((n : NodeId) → IsNode p.kinds n → IsNode q.kinds (moved f n))
    → ((a : Atom) → Base p a → Follows q (moved_atom f a))
    → (a : Atom) → Follows p a → Follows q (moved_atom f a)

-- and what is false stays false
abbrev pub FalseRenamed : Type 0
FalseRenamed =
    (p q : Pure) (f : ℕ → ℕ) → ((n : NodeId) → IsNode p.kinds n → IsNode q.kinds (moved f n))
    → ((a : Atom) → Base p a → Follows q (moved_atom f a))
    → IsFalse p → IsFalse q

-- a state is the same as itself
abbrev pub SameAsItself : Type 0
SameAsItself = (s t : State) → AreSame s t → AreSameUnder (λ n. n) (λ n. n) s t

-- sameness may be turned round
abbrev pub SameIsTurned : Type 0
SameIsTurned = (f back : ℕ → ℕ) (s t : State) → IsBounded s → AreSameUnder f back s t → AreSameUnder back f t s

-- and passed on
abbrev pub SameIsPassedOn : Type 0
SameIsPassedOn =
    (f back g forth : ℕ → ℕ) (s t u : State)
    → AreSameUnder f back s t → AreSameUnder g forth t u → AreSameUnder (λ n. g (f n)) (λ n. back (forth n)) s u

-- a state that is numbered anew has its numbers in their bounds
abbrev pub AnewIsBounded : Type 0
AnewIsBounded = (s : State) → IsBounded s → IsBounded (anew s)

-- and whatever stands for the state stands for it
abbrev pub AnewStands : Type 0
AnewStands = (defs : List Def) (values : List (Option ℤ)) (region : Region) (s : State) → IsBounded s
    → Stands defs values region s → Stands defs values region (anew s)
