-- The goals of side branches under other valuations.
use Rattle.std.proofs.Common.{◌≡◌, ◌<◌, ◌≤◌, ℕ, suc, List, [], ◌∷◌, map, Bool, true, false, Option, Some, None, refl, sym, ap, ap₂, ◌∙◌, subst, inl, inr, arith, eqb-true, ℤ}
use Rattle.std.specs.Prelude.{◌==◌, if◌then◌else◌, option_map}
use Rattle.std.specs.List.{AllByRecursion}
use Rattle.mc_base.specs.declared.ids.NodeId.{NodeId}
use Rattle.mc_base.specs.declared.ids.PredId.{PredId}
use Rattle.mc_base.specs.declared.plain.Kind.{Kind}
use Rattle.mc_base.specs.Nodes.{Valuation, at_node, moved}
use Rattle.mc_flow.specs.Heap.Heap.{Region}
use Rattle.mc_flow.specs.declared.defs.rules.Def.{Def}
use Rattle.mc_flow.specs.Defs.Meaning.{Sat}
use Rattle.mc_pure.specs.Pure.{Kinds, IsNode, kind_of}
use Rattle.mc_state.specs.declared.goal.Goal.{Goal}
use Rattle.mc_state.specs.State.{State}
use Rattle.mc_state.specs.Facts.{instead}
use Rattle.mc_state.specs.Fits.{IsBounded, NodesAscend}
use Rattle.mc_state.specs.Stands.{AgreeBelow}
use Rattle.mc_state.specs.Rules.{GoalHolds, GoalIsThere}
use Rattle.mc_kernel.specs.Branches.{merged_goal}
use Rattle.mc_state.proofs.Lists.{all_map}

-- the numbers of these nodes lie below one
abbrev pub AreBelow : ℕ → List NodeId → Type 0
AreBelow n nodes = AllByRecursion (λ m. m.0 < n) nodes

-- so do those of a goal
abbrev pub GoalBelow : ℕ → Option Goal → Type 0
GoalBelow n None = Unit {0}
GoalBelow n (Some goal) = AreBelow n (goal.at ∷ goal.args)

pub goal_below_more : (n m : ℕ) (goal : Option Goal) → n ≤ m → GoalBelow n goal → GoalBelow m goal
goal_below_more n m None le below = tt
goal_below_more n m (Some goal) le below = all_map (λ (k : NodeId). k.0 < n) (λ (k : NodeId). k.0 < m) (λ k lt. omega arith) (goal.at ∷ goal.args) below

-- ---- nodes that are there have their numbers below the next one

kind_below : (low high : ℕ) (kinds : Kinds) (n : NodeId) (kind : Kind) → NodesAscend low kinds high → kind_of kinds n ≡ Some kind → n.0 < high
kind_below low high [] n kind ascend e = cc
kind_below low high (k ∷ kinds) n kind ascend e = at (kind_below (suc k.0.0) high kinds n kind ascend.2) (k.0.0 == n.0) refl e
  where
    at : (kind_of kinds n ≡ Some kind → n.0 < high) → (here : Bool) → (k.0.0 == n.0) ≡ here → (if here then Some k.1 else kind_of kinds n) ≡ Some kind → n.0 < high
    at more true is e = let same : k.0.0 ≡ n.0 = eqb-true k.0.0 n.0 is in let below = ascend.1 in omega arith
    at more false is e = more e

pub node_below : (s : State) (n : NodeId) → IsBounded s → IsNode s.kinds n → n.0 < s.next
node_below s n bounded there = elim there.1 [
  | inl is ↦ subst (λ (m : NodeId). m.0 < s.next) (sym is) bounded.positive
  | inr kind ↦ kind_below 1 s.next s.kinds n there.0 bounded.kinds kind
]

pub goal_there_below : (s : State) (goal : Option Goal) → IsBounded s → GoalIsThere goal s → GoalBelow s.next goal
goal_there_below s None bounded there = tt
goal_there_below s (Some goal) bounded there = all_map (IsNode s.kinds) (λ (m : NodeId). m.0 < s.next) (λ m is. node_below s m bounded is) (goal.at ∷ goal.args) there

-- ---- valuations that agree on a goal's nodes

values_agree : (n : ℕ) (v w : Valuation) (nodes : List NodeId) → AgreeBelow n v w → AreBelow n nodes → map (at_node w) nodes ≡ map (at_node v) nodes
values_agree n v w [] agree below = refl
values_agree n v w (m ∷ nodes) agree below = ap₂ (λ (z : ℤ) (zs : List ℤ). z ∷ zs) (agree m.0 below.0) (values_agree n v w nodes agree below.1)

same_sat : (defs : List Def) (pred : PredId) (x y : ℤ) (xs ys : List ℤ) (part : Region) → x ≡ y → xs ≡ ys → Sat defs pred x xs part → Sat defs pred y ys part
same_sat defs pred x y xs ys part e f m = rw (← e, ← f) m

pub goal_agrees : (defs : List Def) (v w : Valuation) (n : ℕ) (region : Region) (goal : Goal) → AgreeBelow n v w → GoalBelow n (Some goal) → GoalHolds defs w region goal → GoalHolds defs v region goal
goal_agrees defs v w n region goal agree below g =
    (g.0, g.1, g.2, same_sat defs goal.pred (w goal.at.0) (v goal.at.0) (map (at_node w) goal.args) (map (at_node v) goal.args) g.0 (agree goal.at.0 below.0) (values_agree n v w goal.args agree below.1) g.3)

-- ---- one node in place of another

instead_same : (v : Valuation) (keep gone m : ℕ) → v gone ≡ v keep → v (instead keep gone m) ≡ v m
instead_same v keep gone m e = at (m == gone) refl
  where
    at : (here : Bool) → (m == gone) ≡ here → v (if here then keep else m) ≡ v m
    at true is = sym e ∙ ap v (sym (eqb-true m gone is))
    at false is = refl

instead_below : (n keep gone m : ℕ) → keep < n → m < n → instead keep gone m < n
instead_below n keep gone m k lt = at (m == gone)
  where
    at : (here : Bool) → (if here then keep else m) < n
    at true = k
    at false = lt

instead_all : (v : Valuation) (keep gone : ℕ) (nodes : List NodeId) → v gone ≡ v keep → map (at_node v) (map (moved (instead keep gone)) nodes) ≡ map (at_node v) nodes
instead_all v keep gone [] e = refl
instead_all v keep gone (m ∷ nodes) e = ap₂ (λ (z : ℤ) (zs : List ℤ). z ∷ zs) (instead_same v keep gone m.0 e) (instead_all v keep gone nodes e)

instead_all_below : (n keep gone : ℕ) (nodes : List NodeId) → keep < n → AreBelow n nodes → AreBelow n (map (moved (instead keep gone)) nodes)
instead_all_below n keep gone [] k below = tt
instead_all_below n keep gone (m ∷ nodes) k below = (instead_below n keep gone m.0 k below.0, instead_all_below n keep gone nodes k below.1)

pub merged_below : (n : ℕ) (keep gone : NodeId) (goal : Option Goal) → keep.0 < n → GoalBelow n goal → GoalBelow n (option_map (merged_goal keep gone) goal)
merged_below n keep gone None k below = tt
merged_below n keep gone (Some goal) k below = instead_all_below n keep.0 gone.0 (goal.at ∷ goal.args) k below

-- where both nodes have one value, the renamed goal is the goal
pub merged_holds : (defs : List Def) (v : Valuation) (region : Region) (keep gone : NodeId) (goal : Goal) → v gone.0 ≡ v keep.0 → GoalHolds defs v region (merged_goal keep gone goal) → GoalHolds defs v region goal
merged_holds defs v region keep gone goal e g = (
  g.0,
  g.1,
  g.2,
  same_sat defs goal.pred (v (instead keep.0 gone.0 goal.at.0)) (v goal.at.0) (map (at_node v) (map (moved (instead keep.0 gone.0)) goal.args)) (map (at_node v) goal.args) g.0
      (instead_same v keep.0 gone.0 goal.at.0 e) (instead_all v keep.0 gone.0 goal.args e) g.3,
)
