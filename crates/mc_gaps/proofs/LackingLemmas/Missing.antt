-- Operands that are known, and the shapes that they lack.
use Rattle.std.proofs.Common.{◌≡◌, ◌∙◌, List, [], ◌∷◌, Bool, true, false, Option, Some, None, map, pos, refl, sym, subst, ap}
use Rattle.std.specs.Prelude.{◌&&◌, ◌↔◌, is_some, if◌then◌else◌}
use Rattle.std.specs.Ordering.{int_eq}
use Rattle.mc_base.specs.declared.ids.NodeId.{NodeId}
use Rattle.mc_base.specs.declared.ids.PredId.{PredId}
use Rattle.mc_flow.specs.declared.defs.rules.Def.{Def}
use Rattle.mc_flow.specs.declared.instr.Operand.{Operand}
use Rattle.mc_flow.specs.declared.instr.Operand.TheVariants.{Var, Const}
use Rattle.mc_state.specs.Graph.Graph.{Edges}
use Rattle.mc_state.specs.Covers.{Cover}
use Rattle.mc_state.specs.State.{State, var_node, with_number}
use Rattle.mc_state.specs.Terms.{plain}
use Rattle.mc_rules_steps.specs.Judges.{operand_nodes}
use Rattle.mc_rules_steps.specs.Operands.{AreNodesOf, operand_node, with_operand, with_operands}
use Rattle.mc_rules_steps.specs.Unmet.{AreKnown, LacksShape}
use Rattle.mc_rules_steps.proofs.JudgedMoves.{nodes_from, nodes_to}
use Rattle.mc_apply_steps.specs.Instructions.Arguments.{all_known}
use Rattle.mc_apply_steps.proofs.InstructionsLemmas.Knowing.{both_parts, some_of}
use Rattle.mc_gaps.specs.Lacking.Lacking.{HasNoCover}

-- ---- what is known

pub known_from : (s : State) (os : List Operand) → all_known s os ≡ true → AreKnown s os
known_from s [] e = tt
known_from s (Var y ∷ os) e = let b = both_parts (is_some (var_node s y)) (all_known s os) e in (some_of (var_node s y) b.0, known_from s os b.1)
known_from s (Const c ∷ os) e = known_from s os e

pub known_to : (s : State) (os : List Operand) → AreKnown s os → all_known s os ≡ true
known_to s [] known = refl
known_to s (Var y ∷ os) known = ap (λ (n : Option NodeId). is_some n && all_known s os) known.0.1 ∙ known_to s os known.1
known_to s (Const c ∷ os) known = known_to s os known

-- ---- edges stay

graph_stays : (s : State) (o : Operand) → (with_operand s o).graph ≡ s.graph
graph_stays s (Var x) = refl
graph_stays s (Const c) = at (int_eq c (pos 0))
  where
    at : (b : Bool) → (if◌then◌else◌ {A = State} b s (with_number s c)).graph ≡ s.graph
    at true = refl
    at false = refl

graphs_stay : (s : State) (os : List Operand) → (with_operands s os).graph ≡ s.graph
graphs_stay s [] = refl
graphs_stay s (o ∷ os) = graphs_stay (with_operand s o) os ∙ graph_stays s o

edges_stay : (s : State) (os : List Operand) → (with_operands s os).graph.edges ≡ s.graph.edges
edges_stay s os = ap (λ g. g.edges) (graphs_stay s os)

-- ---- shapes

module _ (defs : List Def) (s : State) (pred : PredId) (o : Operand) (os : List Operand) where
  -- operands that are not known ask for nothing
  pub unknown : all_known s (o ∷ os) ≡ false → (m : NodeId) → (None ≡ Some m) ↔ (AreKnown s (o ∷ os) × LacksShape defs s pred o os pred m)
  unknown lacks m = (λ e. absurd (cc e), λ h. absurd (let yes = known_to s (o ∷ os) h.0 in cc))

  module _ (n : NodeId) (args : List NodeId) (is : operand_node s o ≡ Some n) (are : operand_nodes (with_operand s o) os ≡ Some args) where
    same_edges : (with_operands (with_operand s o) os).graph.edges ≡ s.graph.edges
    same_edges = edges_stay s (o ∷ os)

    lacks_from : HasNoCover defs (with_operands (with_operand s o) os) pred n args → LacksShape defs s pred o os pred n
    lacks_from none = (refl, is, others)
      where
        others : (own : List NodeId) → AreNodesOf (with_operand s o) os own → (left : Edges) → Cover defs (with_operands (with_operand s o) os) pred (plain n) (map plain own) s.graph.edges left → ⊥
        others own have' left cover =
            let there = nodes_to os (with_operand s o) own have' in
            let same : own ≡ args = cc (there, are) in
            none left
            (subst (λ (ns : List NodeId). Cover defs (with_operands (with_operand s o) os) pred (plain n) (map plain ns) (with_operands (with_operand s o) os).graph.edges left) same
            (subst (λ (es : Edges). Cover defs (with_operands (with_operand s o) os) pred (plain n) (map plain own) es left) (sym same_edges) cover))

    lacks_to : (m : NodeId) → LacksShape defs s pred o os pred m → (n ≡ m) × HasNoCover defs (with_operands (with_operand s o) os) pred n args
    lacks_to m l = (same, none)
      where
        same : n ≡ m
        same = let own = l.1 in cc (own, is)

        none : (left : Edges) → Cover defs (with_operands (with_operand s o) os) pred (plain n) (map plain args) (with_operands (with_operand s o) os).graph.edges left → ⊥
        none left cover =
            l.2 args (nodes_from os (with_operand s o) args are) left
            (subst (λ (k : NodeId). Cover defs (with_operands (with_operand s o) os) pred (plain k) (map plain args) s.graph.edges left) same
            (subst (λ (es : Edges). Cover defs (with_operands (with_operand s o) os) pred (plain n) (map plain args) es left) same_edges cover))

    pub found_is : (none : Bool) → (none ≡ true) ↔ HasNoCover defs (with_operands (with_operand s o) os) pred n args → all_known s (o ∷ os) ≡ true
        → (m : NodeId) → ((if none then Some n else None) ≡ Some m) ↔ (AreKnown s (o ∷ os) × LacksShape defs s pred o os pred m)
    found_is true h known m =
        (λ e. let same : n ≡ m = cc e in (known_from s (o ∷ os) known, subst (λ (k : NodeId). LacksShape defs s pred o os pred k) same (lacks_from (h.0 refl))), λ l. ap (λ (k : NodeId). Some k) (lacks_to m l.1).0)
    found_is false h known m = (λ e. absurd (cc e), λ l. let yes : false ≡ true = h.1 (lacks_to m l.1).1 in absurd (cc yes))
