-- Whole joins, and what they give.
use Rattle.std.specs.Prelude.{◌≡◌, ◌↔◌, ◌==◌, ◌&&◌, ◌++◌, ℕ, suc, ℤ, Bool, true, List, [], ◌∷◌, Option, Some, None, length}
use Rattle.std.specs.Prelude.{option_map, option_to_list}
use Rattle.std.specs.Option.{option_or}
use Rattle.mc_base.specs.declared.plain.Atom.{Atom}
use Rattle.mc_base.specs.declared.plain.Kind.{Kind}
use Rattle.mc_state.specs.Graph.Graph.{numbered}
use Rattle.mc_pure_ops.specs.Join.Joint.{Pairs, IsJoin}
use Rattle.mc_pure.specs.Pure.{Kinds, Pure, kind_of}
use Rattle.mc_pure.specs.Derived.{Follows}
use Rattle.mc_pure.specs.Known.{IsFit}
use Rattle.mc_pure.specs.Whole.{IsWholeList}
use Rattle.mc_state.specs.declared.line.JoinStep.{JoinStep}
use Rattle.mc_state.specs.State.{State, pure_of}
use Rattle.mc_rules_logic.specs.Fold.Changed.{alone}
use Rattle.mc_joins.specs.Joinings.{Joining, Pair, begun, next_pair}
use Rattle.mc_joins.specs.Parts.{Basis}
use Rattle.mc_joins.specs.Steps.{known_for, after_steps, is_stuck}

-- the kind of a pair: that of a node of it other than 0
abbrev pub kind_of_pair : Joining → Pair → Option Kind
kind_of_pair j p = option_or (kind_of j.left.state.kinds p.0) (kind_of j.right.state.kinds p.1)

-- the kinds of pairs whose places are from a number on
abbrev pub kinds_from : Joining → ℕ → Pairs → Kinds
kinds_from j n [] = []
kinds_from j n (p ∷ ps) = option_to_list (option_map (λ kind. (record { 0 = n }, kind)) (kind_of_pair j p)) ++ kinds_from j (suc n) ps

-- those of all pairs but the first
abbrev pub kinds_of_pairs : Joining → Pairs → Kinds
kinds_of_pairs j [] = []
kinds_of_pairs j (p ∷ ps) = kinds_from j 1 ps

-- no edge of either side is left out
abbrev pub all_used : Joining → Bool
all_used j = length j.left.unused == 0 && length j.right.unused == 0

-- what a join gives, with these atoms: a variable that one side does not know is unknown, edges have the numbers of
-- their steps, and it is whole where both states are and no edge is left out
abbrev pub result_of : State → State → Joining → List Atom → State
result_of left right j atoms =
    record {
      env = known_for j.pairs left.env right.env;
      kinds = kinds_of_pairs j j.pairs;
      graph = record { edges = numbered 0 j.edges; next = length j.edges };
      atoms = atoms;
      next = length j.pairs;
      whole = left.whole && right.whole && all_used j;
    }

-- these atoms over the nodes of a state, alone
abbrev pub over_nodes : State → List Atom → Pure
over_nodes t atoms = record { kinds = t.kinds; written = atoms; starts = [] }

-- the atoms of a join, which may be written: they entail what its joint atoms do, judged on the two states as they were before
-- any fold, with the nodes that were named; and they are the canonical list of that, with the disequalities inside one class
pub record AreJointAtoms (round : ℕ) (thresholds : List ℤ) (j : Joining) (t : State) : Type 0 where
  pub joint : List Atom
  pub join : IsJoin (pure_of j.left.state) (pure_of j.right.state) j.pairs round thresholds (over_nodes t joint)
  pub fit : IsFit (alone t)
  pub same : (f : Atom) → Follows (alone t) f ↔ Follows (over_nodes t joint) f
  pub listed : IsWholeList (alone t) t.atoms

-- the steps are a whole join of two states, and this is what it gives in a pass
pub record Joins (w : Basis) (round : ℕ) (thresholds : List ℤ) (left right : State) (steps : List JoinStep) (t : State) : Type 0 where
  pub last : Joining
  pub reached : after_steps w (begun left right) steps ≡ Some last
  pub done : next_pair last ≡ None
  pub gives : t ≡ result_of left right last t.atoms
  pub atoms : AreJointAtoms round thresholds last t

-- the steps are a legal prefix of a join of two states, and no step applies at the next pair
pub record GetsStuck (w : Basis) (left right : State) (steps : List JoinStep) : Type 0 where
  pub last : Joining
  pub reached : after_steps w (begun left right) steps ≡ Some last
  pub stuck : is_stuck w last ≡ true
