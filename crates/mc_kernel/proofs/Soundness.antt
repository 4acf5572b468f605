-- What a line's rule means for the claims of branches.
use Rattle.std.proofs.Common.{◌≡◌, ◌<◌, ℕ, suc, ◌≤◌, Bool, true, Option, Some, None, List, map, slice_get, sym, ap, ◌∙◌, subst, arith}
use Rattle.std.specs.Prelude.{option_map}
use Rattle.std.specs.List.{AllByRecursion}
use Rattle.std.proofs.lemmas.Option.{slice_get-map}
use Rattle.mc_base.specs.declared.ids.NodeId.{NodeId}
use Rattle.mc_base.specs.declared.ids.PointId.{PointId}
use Rattle.mc_base.specs.Nodes.{Valuation}
use Rattle.mc_flow.specs.Runs.{Final, next, last, fault}
use Rattle.mc_flow.specs.Heap.Heap.{region_of}
use Rattle.mc_flow.specs.declared.defs.rules.Def.{Def}
use Rattle.mc_flow.specs.declared.graph.Flow.{Flow}
use Rattle.mc_flow.specs.Steps.{Config, Result}
use Rattle.mc_flow.specs.Valid.{IsValid}
use Rattle.mc_state.specs.declared.goal.Goal.{Goal}
use Rattle.mc_state.specs.State.{State}
use Rattle.mc_state.specs.Fits.{IsBounded}
use Rattle.mc_state.specs.Rules.{IsSound, GoalHolds, GoalIsThere}
use Rattle.mc_rules_logic.specs.Fold.Changed.{MergesNodes}
use Rattle.mc_rules_steps.specs.Next.{Next}
use Rattle.mc_rules_steps.specs.Laws.{IsStep, IsAt, LeadsOn, SidesHold}
use Rattle.mc_kernel.specs.Branches.{Path, Setting, IsPlain, path_to, path_of, merged_goal, states_at}
use Rattle.mc_kernel.proofs.Lists.{all_of_map}
use Rattle.mc_kernel.proofs.Visits.{SafeUpTo, StepsSafely, safe_next, safe_here}
use Rattle.mc_kernel.proofs.Goals.{goal_below_more, goal_there_below, merged_below, node_below}
use Rattle.mc_kernel.proofs.Claims.{IsFine, Claim, Holds, claim_plain, claim_moved, claim_side, claim_agrees, claim_merged, step_plain, step_side}
use Rattle.mc_kernel.proofs.Calculus.{CalculusLaws}
use Rattle.mc_state.proofs.Lists.{all_at, all_both, all_map}

-- a branch that keeps its place, with another state, and with what a line makes of its goal
abbrev pub kept : Path → Bool → Option Goal → State → Path
kept b closing goal s = record { point = b.point; state = s; goal = goal; moved = b.moved; closing = closing }

module _ (flow : Flow) (defs : List Def) (g : Setting) (P : Config → Type 0) where
  -- what a line's rule means
  pub data Means (b : Path) (succs : List Path) : Type 0 where
    -- what stands for the branch stands for a successor, whose claim is enough
    Logic : ((v : Valuation) (c : Config) → IsAt defs v c b.point b.state
        → (place : ℕ) × (p : Path) × (w : Valuation) × (slice_get succs place ≡ Some p) × IsAt defs w c p.point p.state
        × ((n : ℕ) → Claim flow defs P p.goal p.moved n c w → Claim flow defs P b.goal b.moved n c v)) → Means b succs
    -- an instruction
    Moves : IsPlain b → (steps : List Next) → IsStep flow b.point b.state steps → succs ≡ map path_of steps → Means b succs
    -- a jump to a head
    Jump : IsPlain b → b.moved ≡ true → (j : ℕ) (t : State) → slice_get (states_at b.point g.heads) j ≡ Some t
        → ((v : Valuation) (c : Config) → IsAt defs v c b.point b.state → (w : Valuation) × IsAt defs w c b.point t) → Means b succs
    -- the goal of a side branch is met
    Met : (goal : Goal) → b.goal ≡ Some goal → ((v : Valuation) (c : Config) → IsAt defs v c b.point b.state → GoalHolds defs v (region_of c.heap) goal) → Means b succs
    -- what stands for the branch is of the kind that runs may come to
    Stuck : IsPlain b → ((v : Valuation) (c : Config) → IsAt defs v c b.point b.state → P c) → Means b succs

  -- and the numbers of successors are in their bounds
  pub record Sound (b : Path) (succs : List Path) : Type 0 where
    pub fine : AllByRecursion IsFine succs
    pub means : Means b succs

  module _ (laws : CalculusLaws) (valid : IsValid flow defs) where
    -- ---- instructions
    fine_to : (p : PointId) (s : State) (goal : Option Goal) → IsBounded s → GoalIsThere goal s → IsFine (path_to p s goal)
    fine_to p s None bounded there = (bounded, tt)
    fine_to p s (Some goal) bounded there = (bounded, goal_there_below s (Some goal) bounded there)

    pub by_step : (b : Path) (succs : List Path) → IsFine b → IsPlain b → (steps : List Next) → IsStep flow b.point b.state steps → succs ≡ map path_of steps → Sound b succs
    by_step b succs fine plain steps step gives = record {
      fine = subst (AllByRecursion IsFine) (sym gives) (all_of_map IsFine path_of steps
          (all_map (λ (n : Next). IsBounded n.state × GoalIsThere n.goal n.state) (λ (n : Next). IsFine (path_of n)) (λ n is. fine_to n.point n.state n.goal is.0 is.1) steps
          (laws.bounded flow defs b.point b.state steps fine.0 step)));
      means = Moves plain steps step gives;
    }

    -- ---- logic
    pub by_logic : (b : Path) (closing : Bool) (states : List State) (succs : List Path) → IsFine b → succs ≡ map (kept b closing b.goal) states
        → IsSound defs b.state states → AllByRecursion IsBounded states → AllByRecursion (λ (t : State). b.state.next ≤ t.next) states → Sound b succs
    by_logic b closing states succs fine gives sound bounded grows = record {
      fine = subst (AllByRecursion IsFine) (sym gives) (all_of_map IsFine (kept b closing b.goal) states
          (all_both IsBounded (λ (t : State). b.state.next ≤ t.next) (λ (t : State). IsFine (kept b closing b.goal t))
          (λ t is le. (is, goal_below_more b.state.next t.next b.goal le fine.1)) states bounded grows));
      means = Logic (λ v c at.
          let u = sound v c.vars (region_of c.heap) at.addresses at.stands in
          let there : slice_get succs u.0 ≡ Some (kept b closing b.goal u.1) =
          ap (λ (ps : List Path). slice_get ps u.0) gives ∙ slice_get-map (kept b closing b.goal) states u.0 ∙ ap (option_map (kept b closing b.goal)) u.3 in
          let stands : IsAt defs u.2 c b.point u.1 = record { point = at.point; addresses = at.addresses; stands = u.5 } in
          (u.0, kept b closing b.goal u.1, u.2, there, stands, λ n claim. claim_agrees flow defs P b.goal b.moved n b.state.next c v u.2 fine.1 u.4 claim));
    }

    pub by_merging : (b : Path) (keep gone : NodeId) (states : List State) (succs : List Path) → IsFine b → MergesNodes keep gone b.state states
        → succs ≡ map (kept b b.closing (option_map (merged_goal keep gone) b.goal)) states → Sound b succs
    by_merging b keep gone states succs fine merges gives =
        let f : State → Path = kept b b.closing (option_map (merged_goal keep gone) b.goal) in
        let law = laws.merge defs keep gone b.state states fine.0 merges in
        let below : keep.0 < b.state.next = node_below b.state keep fine.0 merges.can.keep_is in
        let goal_below = merged_below b.state.next keep gone b.goal below fine.1 in
        let same : AllByRecursion (λ (t : State). b.state.next ≤ t.next) states = subst (AllByRecursion (λ (t : State). b.state.next ≤ t.next)) (sym merges.gives) (omega arith, tt) in
        record {
          fine = subst (AllByRecursion IsFine) (sym gives) (all_of_map IsFine f states
              (all_both IsBounded (λ (t : State). b.state.next ≤ t.next) (λ (t : State). IsFine (f t))
              (λ t is le. (is, goal_below_more b.state.next t.next (option_map (merged_goal keep gone) b.goal) le goal_below)) states law.0.1 same));
          means = Logic (λ v c at.
              let u = law.0.0 v c.vars (region_of c.heap) at.addresses at.stands in
              let equal = law.1 v c.vars (region_of c.heap) at.addresses at.stands in
              let there : slice_get succs u.0 ≡ Some (f u.1) = ap (λ (ps : List Path). slice_get ps u.0) gives ∙ slice_get-map f states u.0 ∙ ap (option_map f) u.3 in
              let stands : IsAt defs u.2 c b.point u.1 = record { point = at.point; addresses = at.addresses; stands = u.5 } in
              (u.0, f u.1, u.2, there, stands, λ n claim. claim_merged flow defs P b.goal b.moved n b.state.next keep gone c v u.2 below fine.1 u.4 equal claim));
        }

    -- ---- what a line's rule means shows the claim of its branch
    abbrev pub HeadsSafe : ℕ → Type 0
    HeadsSafe n = (p : PointId) (j : ℕ) (t : State) → slice_get (states_at p g.heads) j ≡ Some t → (w : Valuation) (c : Config) → IsAt defs w c p t → SafeUpTo flow defs P n c

    leads_safely : (n : ℕ) (steps : List Next) (succs : List Path) → succs ≡ map path_of steps → AllByRecursion (Holds flow defs P n) succs → (r : Result) → LeadsOn defs steps r → StepsSafely flow defs P n r
    leads_safely n steps succs gives all (next d rest) l =
        let there : slice_get succs l.0 ≡ Some (path_of l.1) = ap (λ (ps : List Path). slice_get ps l.0) gives ∙ slice_get-map path_of steps l.0 ∙ ap (option_map path_of) l.3 in
        step_plain flow defs P l.1.goal l.1.point l.1.state n d l.2 l.4 (all_at (Holds flow defs P n) succs l.0 (path_of l.1) there all) l.5
    leads_safely n steps succs gives all (last Final.ended) l = tt
    leads_safely n steps succs gives all (last Final.stopped) l = tt
    leads_safely n steps succs gives all (last (fault kind place)) l = l

    sides_hold : (n : ℕ) (steps : List Next) (succs : List Path) → succs ≡ map path_of steps → AllByRecursion (Holds flow defs P n) succs → (c : Config) → SidesHold defs c steps
    sides_hold n steps succs gives all c place m goal w is side at =
        let there : slice_get succs place ≡ Some (path_of m) = ap (λ (ps : List Path). slice_get ps place) gives ∙ slice_get-map path_of steps place ∙ ap (option_map path_of) is in
        step_side flow defs P m.goal m.point m.state n c w goal side (all_at (Holds flow defs P n) succs place (path_of m) there all) at

    pub holds_by : (n : ℕ) → HeadsSafe n → (b : Path) (succs : List Path) → IsFine b → Means b succs → AllByRecursion (Holds flow defs P n) succs → Holds flow defs P n b
    holds_by n heads b succs fine (Logic law) all v c at =
        let u = law v c at in u.5 n (all_at (Holds flow defs P n) succs u.0 u.1 u.3 all u.2 c u.4)
    holds_by n heads b succs fine (Moves plain steps step gives) all v c at =
        claim_plain flow defs P b.goal b.moved n c v plain (safe_next flow defs P n c (λ choices r goes.
        leads_safely n steps succs gives all r (laws.steps flow defs b.point b.state steps v c choices r valid fine.0 step at (sides_hold n steps succs gives all c) goes)))
    holds_by n heads b succs fine (Jump plain was j t there law) all v c at =
        let u = law v c at in claim_moved flow defs P b.goal b.moved n c v plain was (heads b.point j t there u.0 c u.1)
    holds_by n heads b succs fine (Met goal side law) all v c at = claim_side flow defs P b.goal b.moved n c v goal side (law v c at)
    holds_by n heads b succs fine (Stuck plain law) all v c at = claim_plain flow defs P b.goal b.moved n c v plain (safe_here flow defs P (suc n) c (law v c at))
