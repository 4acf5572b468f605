-- Joins of two variables with their atoms.
use Rattle.std.specs.Prelude.{ℤ, pos, List, [], ◌∷◌, Some}
use Rattle.mc_base.specs.declared.plain.Atom.{Atom}
use Rattle.mc_base.specs.declared.plain.Atom.TheVariants.{Eq, Ne, In}
use Rattle.mc_base.specs.declared.plain.Kind.{Kind}
use Rattle.mc_base.specs.declared.plain.Kind.TheVariants.{Int, Ptr}
use Rattle.mc_pure.specs.Derived.{HasRange}
use Rattle.mc_pure.specs.Examples.{node}
use Rattle.mc_pure.specs.Pure.{Kinds}
use Rattle.mc_state.specs.Facts.{Derives}
use Rattle.mc_state.specs.State.{State, pure_of}
use Rattle.mc_joins.specs.Examples.{state_of}
use Rattle.mc_joins.specs.Parts.{Basis}
use Rattle.mc_joins.specs.Whole.{Joins}

-- nodes 1 and 2 of a kind
abbrev pub two_kinds : Kind → Kinds
two_kinds kind = (node 1, kind) ∷ (node 2, kind) ∷ []

-- both variables are known, and these atoms
abbrev pub two_known : Kind → List Atom → State
two_known kind atoms = state_of (Some (node 1) ∷ Some (node 2) ∷ []) (two_kinds kind) [] atoms

-- the same, where the first variable is node 2 and the second node 1
abbrev pub two_turned : Kind → List Atom → State
two_turned kind atoms = state_of (Some (node 2) ∷ Some (node 1) ∷ []) (two_kinds kind) [] atoms

-- the first counter lies between 0 and a number, and the second is one more
abbrev pub tied : ℤ → List Atom
tied high = In (node 1) (pos 0) high ∷ Eq (node 2) (node 1) (pos 1) ∷ []

-- in the third pass the ranges of both are widened to the next threshold, 10; the second is one more, so the first lies between
-- 0 and 9, and no range is narrower
abbrev pub TiedCountersJoin : Type 0
TiedCountersJoin =
    (w : Basis)
    → (t : State) × Joins w 3 (pos 0 ∷ pos 10 ∷ []) (two_known Int (tied (pos 1))) (two_known Int (tied (pos 2))) [] t
    × Derives t (Eq (node 2) (node 1) (pos 1)) × HasRange (pure_of t) (node 1) (pos 0) (pos 9)
    × HasRange (pure_of t) (node 2) (pos 1) (pos 10)

-- a disequality of two variables whose nodes are numbered the other way round than those of what the join gives
abbrev pub TurnedJoins : Type 0
TurnedJoins =
    (w : Basis)
    → (t : State) × Joins w 1 [] (two_turned Int (Ne (node 2) (node 1) (pos 5) ∷ []))
    (two_turned Int (Ne (node 2) (node 1) (pos 5) ∷ [])) [] t
    × Derives t (Ne (node 1) (node 2) (pos 5))

-- two pointers that are 5 apart and differ: the first is not itself and 5
abbrev pub pointers : List Atom
pointers = Eq (node 2) (node 1) (pos 5) ∷ Ne (node 2) (node 1) (pos 0) ∷ []

-- so it stays where two such states are joined, though the canonical list of neither has it
abbrev pub OneClassJoins : Type 0
OneClassJoins =
    (w : Basis)
    → (t : State) × Joins w 2 [] (two_known Ptr pointers) (two_known Ptr pointers) [] t
    × Derives t (Eq (node 2) (node 1) (pos 5)) × Derives t (Ne (node 1) (node 1) (pos 5))
