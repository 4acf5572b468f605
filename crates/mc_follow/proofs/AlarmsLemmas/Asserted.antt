-- What an instruction asserts has a cover, where it is not unmet.
use Rattle.std.proofs.Common.{◌≡◌, ◌++◌, ◌∙◌, true, false, List, [], ◌∷◌, map, Option, Some, None, refl, sym, ap, subst, slice_index_or}
use Rattle.std.specs.List.{AllByRecursion}
use Rattle.std.specs.Ordering.{int_eq}
use Rattle.std.specs.Prelude.{if◌then◌else◌, pos}
use Rattle.mc_base.specs.declared.ids.NodeId.{NodeId}
use Rattle.mc_cover.specs.First.{Choice, first_cover}
use Rattle.mc_flow.specs.declared.defs.rules.Def.{Def}
use Rattle.mc_flow.specs.declared.graph.Flow.{Flow}
use Rattle.mc_flow.specs.declared.instr.Operand.{Operand}
use Rattle.mc_flow.specs.declared.instr.Operand.TheVariants.{Var, Const}
use Rattle.mc_flow.specs.declared.instr.Instr.TheVariants.{AssertShape}
use Rattle.mc_flow.specs.Valid.{IsValid}
use Rattle.mc_state.specs.Graph.Graph.{Edges, Graph}
use Rattle.mc_state.specs.Known.{Test, Tells}
use Rattle.mc_state.specs.declared.goal.Goal.{Goal}
use Rattle.mc_state.specs.Covers.{Cover}
use Rattle.mc_state.specs.Fits.{IsWellMade}
use Rattle.mc_state.specs.State.{State, with_number}
use Rattle.mc_state.specs.Terms.{plain}
use Rattle.mc_rules_steps.specs.declared.gap.Gap.{Gap}
use Rattle.mc_rules_steps.specs.declared.gap.Gap.TheVariants.{NoShape}
use Rattle.mc_rules_steps.specs.JudgedLaws.{IsMadeFor}
use Rattle.mc_state.specs.declared.line.InstrRule.TheVariants.{S16}
use Rattle.mc_rules_steps.specs.Next.{Next}
use Rattle.mc_rules_steps.specs.Operands.{with_operand, with_operands, AreNodesOf}
use Rattle.mc_rules_steps.specs.Steps.{S16Is, moved_to}
use Rattle.mc_rules_steps.specs.Unmet.{AreKnown, IsUnmet}
use Rattle.mc_kernel.specs.Branches.{Path, Setting, path_of}
use Rattle.mc_kernel.specs.Instances.{ByStep}
use Rattle.mc_kernel.specs.Reading.Documents.{IsMade}
use Rattle.mc_follow.specs.Alarms.Laws.{AssertionsAreCovered}
use Rattle.mc_follow.specs.Alarms.Walks.{AreCovered, IsCovered}
use Rattle.mc_follow.proofs.AlarmsLemmas.Plain.{ArePlain}

-- ---- operands

-- with the node of an operand the variables and the edges stay
vars_stay : (s : State) (o : Operand) → (with_operand s o).env ≡ s.env
vars_stay s (Var x) = refl
vars_stay s (Const c) = elim (int_eq c (pos 0)) as (λ z. (if z then s else with_number s c).env ≡ s.env) [ true ↦ refl | false ↦ refl ]

graph_stays : (s : State) (o : Operand) → (with_operand s o).graph ≡ s.graph
graph_stays s (Var x) = refl
graph_stays s (Const c) = elim (int_eq c (pos 0)) as (λ z. (if z then s else with_number s c).graph ≡ s.graph) [ true ↦ refl | false ↦ refl ]

graph_still : (os : List Operand) (s : State) → (with_operands s os).graph ≡ s.graph
graph_still [] s = refl
graph_still (o ∷ os) s = graph_still os (with_operand s o) ∙ graph_stays s o

-- operands whose nodes are there are known
are_known : (os : List Operand) (ns : List NodeId) (s t : State) → t.env ≡ s.env → AreNodesOf t os ns → AreKnown s os
are_known [] ns s t same nodes = tt
are_known (o ∷ os) [] s t same nodes = absurd nodes
are_known (Var x ∷ os) (n ∷ ns) s t same nodes =
    ((n, ap (λ (env : List (Option NodeId)). slice_index_or env x.0 None) (sym same) ∙ nodes.0), are_known os ns s t same nodes.1)
are_known (Const c ∷ os) (n ∷ ns) s t same nodes = are_known os ns s (with_operand t (Const c)) (vars_stay t (Const c) ∙ same) nodes.1

-- they have one list of nodes
nodes_are_one : (os : List Operand) (s : State) (ns ms : List NodeId) → AreNodesOf s os ns → AreNodesOf s os ms → ns ≡ ms
nodes_are_one [] s [] [] a b = refl
nodes_are_one [] s [] (m ∷ ms) a b = absurd b
nodes_are_one [] s (n ∷ ns) ms a b = absurd a
nodes_are_one (o ∷ os) s [] ms a b = absurd a
nodes_are_one (o ∷ os) s (n ∷ ns) [] a b = absurd b
nodes_are_one (o ∷ os) s (n ∷ ns) (m ∷ ms) a b =
    both n m ns ms (some_same n m (sym a.0 ∙ b.0)) (nodes_are_one os (with_operand s o) ns ms a.1 b.1)
  where
    some_same : (n m : NodeId) → Some n ≡ Some m → n ≡ m
    some_same n m e = cc e

    both : (n m : NodeId) (ns ms : List NodeId) → n ≡ m → ns ≡ ms → ◌≡◌ {A = List NodeId} (n ∷ ns) (m ∷ ms)
    both n m ns ms e f = cc (e, f)

-- ---- covers

-- what covers a goal in a state
abbrev HasCover : List Def → State → Goal → Type 0
HasCover defs s goal = (left : Edges) × Cover defs s goal.pred (plain goal.at) (map plain goal.args) s.graph.edges left

module _ (laws : AssertionsAreCovered) (flow : Flow) (defs : List Def) (valid : IsValid flow defs) (b : Path) (made : IsMade flow defs b)
    (know : State → Test) (tells : (s : State) → IsWellMade defs flow.vars flow.structs.list s → Tells (know s) s)
    (met : (gap : Gap) → IsUnmet flow defs b.point b.state gap → ⊥) where
  module _ (steps : List Next) (i : S16Is flow b.point b.state steps) where
    abbrev t : State
    t = with_operands (with_operand b.state i.o) i.os

    -- the side branch's state is well made, and its goal fits
    side_made : IsMadeFor flow defs (record { point = b.point; goal = Some i.goal; state = t })
    side_made = subst (IsMadeFor flow defs) i.side_is
        (subst (AllByRecursion (IsMadeFor flow defs)) i.gives (laws.made flow defs b.point b.state steps valid made (S16, i))).0

    abbrev first : Option Choice
    first = first_cover (know t) defs i.pred (plain i.n) (map plain i.args) t.graph.edges

    -- without a cover the instruction is unmet
    no_cover : ((left : Edges) → Cover defs t i.pred (plain i.n) (map plain i.args) t.graph.edges left → ⊥) → ⊥
    no_cover none = met (NoShape i.pred i.n) (record {
      consistent = i.consistent;
      code = AssertShape i.pred i.o i.os i.q;
      at = i.at;
      lacks = (
        are_known (i.o ∷ i.os) (i.n ∷ i.args) b.state b.state refl (i.known, i.args_known),
        (
          refl,
          i.known,
          λ args nodes left c. none left
              (subst (λ (es : Edges). Cover defs t i.pred (plain i.n) (map plain i.args) es left) (sym same_edges)
              (subst (λ (ns : List NodeId). Cover defs t i.pred (plain i.n) (map plain ns) b.state.graph.edges left)
              (nodes_are_one i.os (with_operand b.state i.o) args i.args nodes i.args_known) c)),
        ),
      );
    })
      where
        same_edges : t.graph.edges ≡ b.state.graph.edges
        same_edges = ap (λ (g : Graph). g.edges) (graph_still i.os (with_operand b.state i.o) ∙ graph_stays b.state i.o)

    covers : (o : Option Choice) → first ≡ o → (left : Edges) × Cover defs t i.pred (plain i.n) (map plain i.args) t.graph.edges left
    covers (Some c) e = (c.left, laws.found (know t) defs t i.pred (plain i.n) (map plain i.args) t.graph.edges c (flow.structs.list, valid.definitions) (tells t side_made.0) e)
    covers None e =
        let missed = laws.missed (know t) defs t i.pred (plain i.n) (map plain i.args) t.graph.edges t.graph.next (flow.structs.list, valid.definitions) (tells t side_made.0) side_made.0.bounded.ids in
        absurd (no_cover (missed.0 e))

    side_covered : IsCovered defs t i.goal
    side_covered = record {
      at = side_made.1.0;
      args = side_made.1.1;
      cover = λ consistent. subst (HasCover defs t) (sym i.goal_is) (covers first refl);
    }

    -- and nothing else that comes of it is a side branch
    steps_covered : AreCovered defs (map path_of steps)
    steps_covered = subst (λ (ns : List Next). AreCovered defs (map path_of ns)) (sym i.gives)
        (subst (λ (n : Next). AreCovered defs (map path_of (n ∷ moved_to i.q b.state ∷ []))) (sym i.side_is)
        (own, (none, tt)))
      where
        own : (goal : Goal) → Some i.goal ≡ Some goal → IsCovered defs t goal
        own goal is = subst (IsCovered defs t) (same i.goal goal is) side_covered
          where
            same : (one two : Goal) → Some one ≡ Some two → one ≡ two
            same one two e = cc e

        none : (goal : Goal) → None ≡ Some goal → IsCovered defs b.state goal
        none goal is = absurd (cc is)

  pub asserted_covered : (g : Setting) (next : List Path) → ByStep S16 flow g b next → AreCovered defs next
  asserted_covered g next i = subst (AreCovered defs) (sym i.1.2) (steps_covered i.1.0 i.1.1)

-- ---- branches

pub plain_covered : (defs : List Def) (bs : List Path) → ArePlain bs → AreCovered defs bs
plain_covered defs [] plain = tt
plain_covered defs (b ∷ bs) plain = (λ goal is. (let clash : None ≡ Some goal = sym plain.0 ∙ is in absurd (cc clash)), plain_covered defs bs plain.1)

pub both_covered : (defs : List Def) (bs cs : List Path) → AreCovered defs bs → AreCovered defs cs → AreCovered defs (bs ++ cs)
both_covered defs [] cs one two = two
both_covered defs (b ∷ bs) cs one two = (one.0, both_covered defs bs cs one.1 two)
