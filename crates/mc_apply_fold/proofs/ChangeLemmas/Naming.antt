-- Edges that ids name, and tests that tell the same.
use Rattle.std.proofs.Common.{◌≡◌, ◌↔◌, Bool, true, false, None, Some, List, [], ◌∷◌, ◌++◌, refl}
use Rattle.std.specs.Prelude.{◌==◌, if◌then◌else◌}
use Rattle.std.specs.List.{AllByRecursion}
use Rattle.mc_base.specs.declared.ids.EdgeId.{EdgeId}
use Rattle.mc_state.specs.declared.graph.edge.Edge.{Edge}
use Rattle.mc_state.specs.Graph.Graph.{Edges, edge_with}
use Rattle.mc_state.specs.Named.{other_edge}

-- another edge is the one with its id
pub other_there : (es : Edges) (first second : EdgeId) (e : Edge) → other_edge es first second ≡ Some e → edge_with es second ≡ Some e
other_there es first second e is = at (second.0 == first.0) is
  where
    at : (same : Bool) → (if same then None else edge_with es second) ≡ Some e → edge_with es second ≡ Some e
    at true there = absurd (cc there)
    at false there = there

-- what holds of two lists together holds of each
pub both_parts : {A : Type 0} (P : A → Type 0) (xs ys : List A) → AllByRecursion P (xs ++ ys) → AllByRecursion P xs × AllByRecursion P ys
both_parts P [] ys all = (tt, all)
both_parts P (x ∷ xs) ys all = let rest = both_parts P xs ys all.1 in ((all.0, rest.0), rest.1)

-- two tests of one fact are one
pub one_test : (P : Type 0) (a b : Bool) → (a ≡ true) ↔ P → (b ≡ true) ↔ P → a ≡ b
one_test P true true p q = refl
one_test P true false p q = absurd (cc (q.1 (p.0 refl)))
one_test P false true p q = absurd (cc (p.1 (q.0 refl)))
one_test P false false p q = refl
