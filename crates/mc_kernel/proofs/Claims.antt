-- What is claimed of branches.
use Rattle.std.proofs.Common.{◌≡◌, ◌<◌, ℕ, zero, suc, Bool, true, false, Option, Some, None, List, [], ◌∷◌, map, slice_get, refl, sym, ◌∙◌, subst, eqb-true}
use Rattle.std.specs.Prelude.{◌==◌, if◌then◌else◌, option_map}
use Rattle.std.specs.List.{AllByRecursion}
use Rattle.mc_base.specs.declared.ids.NodeId.{NodeId}
use Rattle.mc_base.specs.declared.ids.PointId.{PointId}
use Rattle.mc_base.specs.Nodes.{Valuation}
use Rattle.mc_flow.specs.Heap.Heap.{region_of}
use Rattle.mc_flow.specs.declared.defs.rules.Def.{Def}
use Rattle.mc_flow.specs.declared.graph.Flow.{Flow}
use Rattle.mc_flow.specs.Steps.{Config}
use Rattle.mc_state.specs.declared.goal.Goal.{Goal}
use Rattle.mc_state.specs.State.{State}
use Rattle.mc_state.specs.Fits.{IsBounded}
use Rattle.mc_state.specs.Stands.{StandsBy, AgreeBelow}
use Rattle.mc_state.specs.Rules.{GoalHolds}
use Rattle.mc_rules_steps.specs.Laws.{IsAt}
use Rattle.mc_kernel.specs.Branches.{Path, Head, begins, path_to, states_at, merged_goal}
use Rattle.mc_kernel.proofs.Visits.{SafeUpTo, shorter}
use Rattle.mc_kernel.proofs.Goals.{GoalBelow, goal_agrees, merged_below, merged_holds}

-- the numbers of a branch are in their bounds
abbrev pub IsFine : Path → Type 0
IsFine b = IsBounded b.state × GoalBelow b.state.next b.goal

module _ (flow : Flow) (defs : List Def) (P : Config → Type 0) where
  -- of a side branch its goal is claimed, and else that runs are safe, one step more where no instruction's line stands on it
  abbrev pub Claim : Option Goal → Bool → ℕ → Config → Valuation → Type 0
  Claim (Some goal) moved n c v = GoalHolds defs v (region_of c.heap) goal
  Claim None true n c v = SafeUpTo flow defs P n c
  Claim None false n c v = SafeUpTo flow defs P (suc n) c

  abbrev pub Holds : ℕ → Path → Type 0
  Holds n b = (v : Valuation) (c : Config) → IsAt defs v c b.point b.state → Claim b.goal b.moved n c v

  -- a configuration that is safe meets the claim of a branch that is no side branch
  pub claim_plain : (goal : Option Goal) (moved : Bool) (n : ℕ) (c : Config) (v : Valuation) → goal ≡ None → SafeUpTo flow defs P (suc n) c → Claim goal moved n c v
  claim_plain (Some g) moved n c v plain safe = cc
  claim_plain None true n c v plain safe = shorter flow defs P n c safe
  claim_plain None false n c v plain safe = safe

  pub claim_moved : (goal : Option Goal) (moved : Bool) (n : ℕ) (c : Config) (v : Valuation) → goal ≡ None → moved ≡ true → SafeUpTo flow defs P n c → Claim goal moved n c v
  claim_moved (Some g) moved n c v plain was safe = cc
  claim_moved None true n c v plain was safe = safe
  claim_moved None false n c v plain was safe = cc

  pub claim_side : (goal : Option Goal) (moved : Bool) (n : ℕ) (c : Config) (v : Valuation) (g : Goal) → goal ≡ Some g → GoalHolds defs v (region_of c.heap) g → Claim goal moved n c v
  claim_side (Some h) moved n c v g is holds = let same : g ≡ h = cc in subst (λ (x : Goal). GoalHolds defs v (region_of c.heap) x) same holds
  claim_side None moved n c v g is holds = cc

  -- a valuation that agrees on the nodes of the goal serves as well
  pub claim_agrees : (goal : Option Goal) (moved : Bool) (n next : ℕ) (c : Config) (v w : Valuation) → GoalBelow next goal → AgreeBelow next v w → Claim goal moved n c w → Claim goal moved n c v
  claim_agrees (Some g) moved n next c v w below agree claim = goal_agrees defs v w next (region_of c.heap) g agree below claim
  claim_agrees None true n next c v w below agree claim = claim
  claim_agrees None false n next c v w below agree claim = claim

  pub claim_merged : (goal : Option Goal) (moved : Bool) (n next : ℕ) (keep gone : NodeId) (c : Config) (v w : Valuation) → keep.0 < next → GoalBelow next goal → AgreeBelow next v w → v gone.0 ≡ v keep.0
      → Claim (option_map (merged_goal keep gone) goal) moved n c w → Claim goal moved n c v
  claim_merged (Some g) moved n next keep gone c v w k below agree same claim =
      merged_holds defs v (region_of c.heap) keep gone g same (goal_agrees defs v w next (region_of c.heap) (merged_goal keep gone g) agree (merged_below next keep gone (Some g) k below) claim)
  claim_merged None true n next keep gone c v w k below agree same claim = claim
  claim_merged None false n next keep gone c v w k below agree same claim = claim

  -- what is claimed of an instruction's successor
  pub step_plain : (goal : Option Goal) (p : PointId) (s : State) (n : ℕ) (d : Config) (w : Valuation) → goal ≡ None → Holds n (path_to p s goal) → IsAt defs w d p s → SafeUpTo flow defs P n d
  step_plain None p s n d w plain holds at = holds w d at
  step_plain (Some g) p s n d w plain holds at = cc

  pub step_side : (goal : Option Goal) (p : PointId) (s : State) (n : ℕ) (c : Config) (w : Valuation) (g : Goal) → goal ≡ Some g → Holds n (path_to p s goal) → IsAt defs w c p s → GoalHolds defs w (region_of c.heap) g
  step_side None p s n c w g side holds at = cc
  step_side (Some h) p s n c w g side holds at = let same : h ≡ g = cc in subst (λ (x : Goal). GoalHolds defs w (region_of c.heap) x) same (holds w c at)

  -- what is claimed of the branches that begin at heads is claimed of the states at a point
  pub heads_hold : (n : ℕ) (p : PointId) (heads : List Head) → AllByRecursion (Holds n) (map (λ (h : Head). begins h.0 h.1) heads)
      → (j : ℕ) (s : State) → slice_get (states_at p heads) j ≡ Some s → Holds n (begins p s)
  heads_hold n p [] all j s e = cc
  heads_hold n p (h ∷ heads) all j s e = at (λ k more. heads_hold n p heads all.1 k s more) (h.0.0 == p.0) refl j e
    where
      at : ((k : ℕ) → slice_get (states_at p heads) k ≡ Some s → Holds n (begins p s)) → (here : Bool) → (h.0.0 == p.0) ≡ here
          → (j : ℕ) → slice_get (if here then h.1 ∷ states_at p heads else states_at p heads) j ≡ Some s → Holds n (begins p s)
      at later true is zero e =
          let same : h.0.0 ≡ p.0 = eqb-true h.0.0 p.0 is in
          let state : h.1 ≡ s = cc in
          λ v c there. all.0 v c (record {
            point = there.point ∙ sym same;
            addresses = there.addresses;
            stands = subst (λ (x : State). StandsBy defs v c.vars (region_of c.heap) x) (sym state) there.stands;
          })
      at later true is (suc j) e = later j e
      at later false is j e = later j e
