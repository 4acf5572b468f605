-- A term that lies in the range of a kind gets a node; and a segment that goes on to an Ind closes.
use Rattle.std.proofs.Common.{◌≡◌, inl, inr, ℤ, pos, ◌-ℤ◌, true, List, [], ◌∷◌, map, Some, refl, arith}
use Rattle.std.proofs.lemmas.Int.{ints}
use Rattle.mc_base.specs.declared.ids.EdgeId.{EdgeId}
use Rattle.mc_base.specs.declared.ids.NodeId.{NodeId}
use Rattle.mc_base.specs.declared.ids.PredId.{PredId}
use Rattle.mc_base.specs.declared.plain.Atom.TheVariants.{Eq, In}
use Rattle.mc_base.specs.declared.plain.Kind.{Kind}
use Rattle.mc_state.specs.declared.graph.edge.Edge.TheVariants.{Ind, Seg}
use Rattle.mc_state.specs.Graph.Graph.{edge_with}
use Rattle.mc_pure.specs.Pure.{HasKind, low_of, high_of}
use Rattle.mc_state.specs.Named.{Looked, are_distinct, others}
use Rattle.mc_state.proofs.Named.{picks_from}
use Rattle.mc_state.specs.declared.terms.Term.{Term}
use Rattle.mc_state.specs.Facts.{IsFalse, AreEqual, AreAllEqual}
use Rattle.mc_state.specs.State.{State}
use Rattle.mc_state.specs.Terms.{plain, TermLiesIn}
use Rattle.mc_rules_logic.specs.Fold.Changed.{NamesSpare}
use Rattle.mc_rules_logic.specs.Fold.Folded.{folded, ClosesSeg}
use Rattle.mc_rules_logic.specs.Fold.Goals.{MeetsGoal}
use Rattle.mc_state.specs.declared.goal.Goal.{Goal}
use Rattle.mc_follow.specs.Ending.Ending.{Written, AreSameTerms, AreAllSameTerms, IsMadeBy, IsLater}
use Rattle.mc_follow.proofs.EndingLemmas.Written.{derives, eq_as, spare}

-- a term of a kind gets a node
pub names : (before s : State) → (IsFalse before → ⊥) → IsLater before s → (IsFalse s → ⊥) → (kind : Kind) (t : Term) → HasKind before.kinds kind t.node → TermLiesIn before kind t
    → NamesSpare t.node t.add kind s (spare s t.node t.add kind ∷ [])
names before s sound later consistent kind t has lies = record {
  consistent = consistent;
  there = (kind, later.kinds kind t.node has);
  lies = elim lies [
    | inl h ↦ derives s (In t.node (low_of kind -ℤ t.add) (high_of kind -ℤ t.add)) (later.known _ h)
    | inr wrong ↦ absurd (sound wrong)
  ];
  one_kind = later.kinds kind t.node has;
  gives = refl;
}

-- ---- nodes that are equal

plain_meets : (s : State) (a b : NodeId) → AreSameTerms s (plain a) (plain b) → AreEqual s a b
plain_meets s a b h =
    let zero_is : pos 0 -ℤ pos 0 ≡ pos 0 = omega (arith, ints) in
    derives s (Eq a b (pos 0)) (eq_as s a b (pos 0 -ℤ pos 0) (pos 0) zero_is h)

all_plain_meet : (s : State) (as' bs : List NodeId) → AreAllSameTerms s (map plain as') (map plain bs) → AreAllEqual s as' bs
all_plain_meet s [] [] h = tt
all_plain_meet s [] (b ∷ bs) h = absurd h
all_plain_meet s (a ∷ as') [] h = absurd h
all_plain_meet s (a ∷ as') (b ∷ bs) h = (plain_meets s a b h.0, all_plain_meet s as' bs h.1)

-- ---- segments

pub closes : (s : State) (seg rest : EdgeId) (pred : PredId) (at : NodeId) (args : List NodeId) (stop : NodeId) (ends : List NodeId)
    → (IsFalse s → ⊥) → edge_with s.graph.edges seg ≡ Some (Seg at args pred stop ends) → IsMadeBy s pred (plain stop) (map plain ends) rest → are_distinct (seg ∷ rest ∷ []) ≡ true
    → ClosesSeg seg rest s (folded s (others s.graph.edges (seg ∷ rest ∷ [])) (Ind at pred args) ∷ [])
closes s seg rest pred at args stop ends consistent there made distinct = record {
  consistent = consistent;
  at = at;
  args = args;
  pred = pred;
  stop = stop;
  ends = ends;
  from = made.node;
  from_args = made.nodes;
  left = others s.graph.edges (seg ∷ rest ∷ []);
  picks = picks_from s.graph.edges (seg ∷ rest ∷ []) (Seg at args pred stop ends ∷ Ind made.node pred made.nodes ∷ []) distinct (there, (made.there, tt));
  meet = plain_meets s stop made.node made.same_at;
  args_meet = all_plain_meet s ends made.nodes made.same_args;
  gives = refl;
}

-- ---- goals

pub meets : (s : State) (goal : Goal) (edge : EdgeId) → (IsFalse s → ⊥) → IsMadeBy s goal.pred (plain goal.at) (map plain goal.args) edge → MeetsGoal goal edge s
meets s goal edge consistent made = record {
  consistent = consistent;
  at = made.node;
  args = made.nodes;
  there = made.there;
  meets = plain_meets s goal.at made.node made.same_at;
  args_meet = all_plain_meet s goal.args made.nodes made.same_args;
}
