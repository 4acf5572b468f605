-- What comes of branches stays inside the flow graph, and open.
use Rattle.std.proofs.Common.{◌≡◌, ◌<◌, List, [], ◌∷◌, length, map, Bool, true, false, Option, Some, None, option_map, slice_get, refl, sym, subst, arith}
use Rattle.std.specs.List.{AllByRecursion}
use Rattle.std.specs.Prelude.{All}
use Rattle.mc_base.specs.declared.ids.PointId.{PointId}
use Rattle.mc_state.specs.declared.line.InstrRule.{InstrRule}
use Rattle.mc_state.specs.declared.line.InstrRule.TheVariants.{S1, S2, S3, S4, S5, S6, S7, S8, S9, S10, S11, S12, S13, S14, S15, S16, S17, S18}
use Rattle.mc_lines.specs.declared.cert.line.Line.{Line}
use Rattle.mc_lines.specs.declared.cert.line.Line.TheVariants.{Header, Cut, Head, Pass, End, Step, L1, L2, L3, L4, L5, L6, L7, L8, L9, L10}
use Rattle.mc_lines.specs.declared.cert.line.Line.TheVariants.{L11, L12, L13, L14, L15, C1, C2, C3}
use Rattle.mc_flow.specs.declared.defs.rules.Def.{Def}
use Rattle.mc_flow.specs.declared.graph.Flow.{Flow}
use Rattle.mc_flow.specs.declared.graph.Point.{Point}
use Rattle.mc_flow.specs.declared.instr.Instr.{Instr}
use Rattle.mc_flow.specs.Valid.{GoesOn, IsValid, targets}
use Rattle.mc_state.specs.declared.goal.Goal.{Goal}
use Rattle.mc_state.specs.declared.line.Form.{Form}
use Rattle.mc_state.specs.declared.line.Form.TheVariants.{Certificate, Chain}
use Rattle.mc_state.specs.State.{State}
use Rattle.mc_rules_steps.specs.Next.{Next}
use Rattle.mc_rules_steps.specs.Operands.{code_at}
use Rattle.mc_rules_steps.specs.Steps.{StepIs}
use Rattle.mc_kernel.specs.Branches.{IsPlain, Path, Setting, closes_by, path_of, path_to, with_state}
use Rattle.mc_kernel.specs.Instances.{ByStep, IsInstance}
use Rattle.mc_kernel.specs.Progress.Progress.{IsInside, LinesStayInside, LinesStayOpen, advances}

-- what holds of each image
all_images : {X Y : Type 0} (P : Y → Type 0) (f : X → Y) → ((x : X) → P (f x)) → (xs : List X) → AllByRecursion P (map f xs)
all_images P f each [] = tt
all_images P f each (x ∷ xs) = (each x, all_images P f each xs)

-- branches that come of states
module _ (P : Path → Type 0) where
  of_states : {X : Type 0} (f : X → Path) → ((x : X) → P (f x)) → (xs : List X) (next : List Path) → next ≡ map f xs → AllByRecursion P next
  of_states f each xs next gives = subst (AllByRecursion P) (sym gives) (all_images P f each xs)

  of_nothing : (next : List Path) → next ≡ [] → AllByRecursion P next
  of_nothing next gives = subst (AllByRecursion P) (sym gives) tt

-- ---- points

module _ (flow : Flow) (defs : List Def) (valid : IsValid flow defs) where
  -- a successor's point is one of the flow graph
  abbrev IsThere : Next → Type 0
  IsThere n = n.point.0 < length flow.points

  -- the points after an instruction are there
  goes_at : (p : PointId) (code : Instr) → code_at flow p ≡ Some code → All (GoesOn flow p.0) (targets code)
  goes_at p code e = at (slice_get flow.points p.0) refl e
    where
      at : (o : Option Point) → slice_get flow.points p.0 ≡ o → option_map (λ (point : Point). point.code) o ≡ Some code → All (GoesOn flow p.0) (targets code)
      at None there e = absurd (cc e)
      at (Some point) there e = subst (λ (z : Instr). All (GoesOn flow p.0) (targets z)) (same e) (valid.points p.0 point there).follows
        where
          same : Some point.code ≡ Some code → point.code ≡ code
          same e = cc

  -- one point after it, and the first and the second of two
  to_one : (p q : PointId) (code : Instr) → code_at flow p ≡ Some code → targets code ≡ q ∷ [] → q.0 < length flow.points
  to_one p q code at only = (subst (All (GoesOn flow p.0)) only (goes_at p code at) 0 q (omega arith)).0

  to_first : (p q r : PointId) (code : Instr) → code_at flow p ≡ Some code → targets code ≡ q ∷ r ∷ [] → q.0 < length flow.points
  to_first p q r code at two = (subst (All (GoesOn flow p.0)) two (goes_at p code at) 0 q (omega arith)).0

  to_second : (p q r : PointId) (code : Instr) → code_at flow p ≡ Some code → targets code ≡ q ∷ r ∷ [] → r.0 < length flow.points
  to_second p q r code at two = (subst (All (GoesOn flow p.0)) two (goes_at p code at) 1 r (omega arith)).0

  -- successors that are given
  abbrev AreThere : List Next → Type 0
  AreThere next = AllByRecursion IsThere next

  given : (next steps : List Next) → next ≡ steps → AreThere steps → AreThere next
  given next steps gives a = subst AreThere (sym gives) a

  module _ (p : PointId) (s : State) (next : List Next) (inside : p.0 < length flow.points) where
    steps_there : (rule : InstrRule) → StepIs rule flow p s next → AreThere next
    steps_there S1 i = given next _ i.gives (to_one p i.q _ i.at refl, tt)
    steps_there S2 i = given next _ i.gives (to_one p i.q _ i.at refl, tt)
    steps_there S3 i = given next _ i.gives (to_one p i.q _ i.at refl, tt)
    steps_there S4 i = given next _ i.gives (to_one p i.q _ i.at refl, tt)
    steps_there S5 i = given next _ i.computes.gives (to_one p i.q _ i.at refl, tt)
    steps_there S6 i = given next _ i.computes.gives (to_one p i.q _ i.at refl, tt)
    steps_there S7 i = given next _ i.computes.gives (to_one p i.q _ i.at refl, tt)
    steps_there S8 i = given next _ i.gives (to_one p i.q _ i.at refl, tt)
    steps_there S9 i = given next _ i.gives (to_one p i.q _ i.at refl, tt)
    steps_there S10 i = let there = to_one p i.q _ i.at refl in given next _ i.gives (there, (there, tt))
    steps_there S11 i = given next _ i.gives (to_one p i.q _ i.at refl, tt)
    steps_there S12 i = given next _ i.gives (to_one p i.q _ i.at refl, tt)
    steps_there S13 i = given next _ i.gives (to_first p i.t i.f _ i.at refl, (to_second p i.t i.f _ i.at refl, tt))
    steps_there S14 i = given next _ i.gives (to_first p i.t i.f _ i.at refl, (to_second p i.t i.f _ i.at refl, tt))
    steps_there S15 i = given next _ i.gives (to_one p i.q _ i.at refl, tt)
    steps_there S16 i = given next _ i.gives (subst IsThere (sym i.side_is) inside, (to_one p i.q _ i.at refl, tt))
    steps_there S17 i = given next _ i.gives tt
    steps_there S18 i = given next _ i.gives (to_one p i.q _ i.at refl, tt)

  path_inside : (p : PointId) (s : State) (goal : Option Goal) → p.0 < length flow.points → IsInside flow (path_to p s goal)
  path_inside p s None inside = inside
  path_inside p s (Some goal) inside = inside

  paths_inside : (steps : List Next) → AreThere steps → AllByRecursion (IsInside flow) (map path_of steps)
  paths_inside [] a = tt
  paths_inside (n ∷ steps) a = (path_inside n.point n.state n.goal a.0, paths_inside steps a.1)

  by_step : (rule : InstrRule) (g : Setting) (b : Path) (next : List Path) → IsInside flow b → ByStep rule flow g b next → AllByRecursion (IsInside flow) next
  by_step rule g b next inside i =
      let steps = i.1 in
      subst (AllByRecursion (IsInside flow)) (sym steps.2) (paths_inside steps.0 (steps_there b.point b.state steps.0 inside rule steps.1))

  -- branches at the same point
  at_point : {X : Type 0} (f : X → Path) (b : Path) → IsInside flow b → ((x : X) → (f x).point ≡ b.point) → (xs : List X) (next : List Path) → next ≡ map f xs → AllByRecursion (IsInside flow) next
  at_point f b inside same xs next gives = of_states (IsInside flow) f (λ x. subst (λ (z : PointId). z.0 < length flow.points) (sym (same x)) inside) xs next gives

  module _ (g : Setting) (b : Path) (next : List Path) (inside : IsInside flow b) where
    pub line_inside : (l : Line) → IsInstance flow defs g l b next → AllByRecursion (IsInside flow) next
    line_inside (Step rule) i = by_step rule g b next inside i
    line_inside (L1 edge) i = at_point (with_state b) b inside (λ s. refl) i.1.0 next i.1.2
    line_inside (L2 edge) i = at_point (with_state b) b inside (λ s. refl) i.1.0 next i.1.2
    line_inside (L15 edge) i = at_point (with_state b) b inside (λ s. refl) i.1.0 next i.1.2
    line_inside (L3 fold) i = at_point _ b inside (λ s. refl) i.0 next i.2
    line_inside (L4 fold) i = at_point _ b inside (λ s. refl) i.0 next i.2
    line_inside (L5 first second) i = at_point _ b inside (λ s. refl) i.0 next i.2
    line_inside (L6 first second) i = at_point _ b inside (λ s. refl) i.0 next i.2
    line_inside (L7 pred at args stop ends) i = at_point _ b inside (λ s. refl) i.0 next i.2
    line_inside (L8 node add kind) i = at_point _ b inside (λ s. refl) i.0 next i.2
    line_inside (L9 keep gone) i = at_point _ b inside (λ s. refl) i.0 next i.2
    line_inside (L10 edge) i = at_point (with_state b) b inside (λ s. refl) i.0 next i.2
    line_inside (L11 node) i = at_point (with_state b) b inside (λ s. refl) i.1.0 next i.1.2
    line_inside L12 i = of_nothing (IsInside flow) next i.2
    line_inside (L13 j images edges) i = of_nothing (IsInside flow) next i.gives
    line_inside (L14 edge) i = of_nothing (IsInside flow) next i.gives
    line_inside C1 i = of_nothing (IsInside flow) next i.gives
    line_inside (Header version form) i = absurd i
    line_inside (Cut p) i = absurd i
    line_inside (Head p raw) i = absurd i
    line_inside Pass i = absurd i
    line_inside End i = absurd i
    line_inside (C2 tries) i = absurd i
    line_inside (C3 j steps) i = absurd i

pub lines_stay_inside : LinesStayInside
lines_stay_inside flow defs g l b next valid inside i = line_inside flow defs valid g b next inside l i

-- ---- closing

abbrev IsOpen : Path → Type 0
IsOpen n = n.closing ≡ false

path_open : (p : PointId) (s : State) (goal : Option Goal) → IsOpen (path_to p s goal)
path_open p s None = refl
path_open p s (Some goal) = refl

step_open : (rule : InstrRule) (flow : Flow) (g : Setting) (b : Path) (next : List Path) → ByStep rule flow g b next → AllByRecursion IsOpen next
step_open rule flow g b next i = of_states IsOpen path_of (λ n. path_open n.point n.state n.goal) i.1.0 next i.1.2

-- a fold of a side branch closes nothing
fold_open : (form : Form) (goal : Option Goal) (closing : Bool) → closing ≡ false → (goal ≡ None → ⊥) → closes_by form goal closing ≡ false
fold_open Certificate goal closing open_still side = open_still
fold_open Chain None closing open_still side = absurd (side refl)
fold_open Chain (Some goal) closing open_still side = open_still

module _ (flow : Flow) (defs : List Def) (g : Setting) (b : Path) (next : List Path) (open_still : b.closing ≡ false) where
  -- branches that close as a fold says
  module _ (never : b.goal ≡ None → false ≡ true) where
    folded : closes_by g.form b.goal b.closing ≡ false
    folded = fold_open g.form b.goal b.closing open_still (λ e. let two = never e in cc two)

    abbrev fold : State → Path
    fold s = record { point = b.point; state = s; goal = b.goal; moved = b.moved; closing = closes_by g.form b.goal b.closing }

    folding_open : (states : List State) → next ≡ map fold states → AllByRecursion IsOpen next
    folding_open states gives = of_states IsOpen fold (λ s. folded) states next gives

  pub line_open : (l : Line) → (IsPlain b → advances l ≡ true) → IsInstance flow defs g l b next → AllByRecursion IsOpen next
  line_open (Step rule) such i = step_open rule flow g b next i
  line_open (L1 edge) such i = of_states IsOpen (with_state b) (λ s. open_still) i.1.0 next i.1.2
  line_open (L2 edge) such i = of_states IsOpen (with_state b) (λ s. open_still) i.1.0 next i.1.2
  line_open (L15 edge) such i = of_states IsOpen (with_state b) (λ s. open_still) i.1.0 next i.1.2
  line_open (L3 fold) such i = folding_open such i.0 i.2
  line_open (L4 fold) such i = folding_open such i.0 i.2
  line_open (L5 first second) such i = folding_open such i.0 i.2
  line_open (L6 first second) such i = folding_open such i.0 i.2
  line_open (L7 pred at args stop ends) such i = folding_open such i.0 i.2
  line_open (L8 node add kind) such i = folding_open such i.0 i.2
  line_open (L9 keep gone) such i = of_states IsOpen _ (λ s. open_still) i.0 next i.2
  line_open (L10 edge) such i = of_states IsOpen (with_state b) (λ s. open_still) i.0 next i.2
  line_open (L11 node) such i = of_states IsOpen (with_state b) (λ s. open_still) i.1.0 next i.1.2
  line_open L12 such i = of_nothing IsOpen next i.2
  line_open (L13 j images edges) such i = of_nothing IsOpen next i.gives
  line_open (L14 edge) such i = of_nothing IsOpen next i.gives
  line_open C1 such i = of_nothing IsOpen next i.gives
  line_open (Header version form) such i = absurd i
  line_open (Cut p) such i = absurd i
  line_open (Head p raw) such i = absurd i
  line_open Pass such i = absurd i
  line_open End such i = absurd i
  line_open (C2 tries) such i = absurd i
  line_open (C3 j steps) such i = absurd i

pub lines_stay_open : LinesStayOpen
lines_stay_open flow defs g l b next open_still such i = line_open flow defs g b next open_still l such i
