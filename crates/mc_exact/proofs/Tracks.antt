-- Branches of programs that ask for malloc alone stay exact.
use Rattle.std.proofs.Common.{◌≡◌, ℕ, zero, suc, pos, Bool, true, false, Option, Some, None, List, [], ◌∷◌, ◌++◌, map, option_map, replicate, slice_get, slice_set, if◌then◌else◌, refl, sym, ap, ◌∙◌, subst}
use Rattle.std.specs.Prelude.{◌==◌}
use Rattle.std.specs.Ordering.{int_eq}
use Rattle.std.specs.List.{AllByRecursion}
use Rattle.mc_base.specs.declared.ids.EdgeId.{EdgeId}
use Rattle.mc_base.specs.declared.ids.NodeId.{NodeId}
use Rattle.mc_base.specs.declared.ids.PointId.{PointId}
use Rattle.mc_base.specs.declared.ids.VarId.{VarId}
use Rattle.mc_base.specs.Nodes.{null}
use Rattle.mc_base.specs.declared.ids.PredId.{PredId}
use Rattle.mc_flow.specs.declared.defs.rules.Def.{Def}
use Rattle.mc_flow.specs.declared.graph.Flow.{Flow}
use Rattle.mc_flow.specs.declared.graph.Point.{Point}
use Rattle.mc_flow.specs.declared.instr.Instr.{Instr}
use Rattle.mc_flow.specs.declared.instr.Instr.TheVariants as instr
use Rattle.mc_flow.specs.declared.instr.Operand.{Operand}
use Rattle.mc_flow.specs.declared.instr.Operand.TheVariants.{Var, Const}
use Rattle.mc_flow.specs.Steps.{field_count}
use Rattle.mc_state.specs.declared.graph.edge.Edge.{Edge}
use Rattle.mc_state.specs.declared.graph.edge.Edge.TheVariants as edge
use Rattle.mc_state.specs.Graph.Graph.{Edges, edge_with}
use Rattle.mc_state.specs.declared.line.InstrRule.{InstrRule}
use Rattle.mc_state.specs.declared.line.InstrRule.TheVariants as step
use Rattle.mc_state.specs.State.{State, with_var, without_vars, next_node, with_number, with_block}
use Rattle.mc_state.proofs.Lists.{all_append}
use Rattle.mc_rules_steps.proofs.Lists.{all_at}
use Rattle.mc_rules_steps.specs.Next.{Next}
use Rattle.mc_rules_steps.specs.Operands.{code_at, with_operand}
use Rattle.mc_rules_steps.specs.Steps.{moved_to, StepIs, S10Is}
use Rattle.mc_rules_steps.specs.Unmet.{IsGap, IsUnmet}
use Rattle.mc_rules_steps.specs.declared.gap.Gap.{Gap}
use Rattle.mc_rules_steps.specs.declared.gap.Gap.TheVariants.{NoShape}
use Rattle.mc_lines.specs.declared.cert.line.Line.{Line}
use Rattle.mc_lines.specs.declared.cert.line.Line.TheVariants as line
use Rattle.mc_kernel.specs.Branches.{Path, Setting, path_of, path_to}
use Rattle.mc_kernel.specs.Instances.{IsInstance, ByStep}
use Rattle.mc_kernel.specs.Progress.Progress.{advances}
use Rattle.mc_exact.specs.Exact as rule
use Rattle.mc_exact.specs.Exact.{Picks, IsExactBranch, entry, failed, made, IsSilent, silent}
use Rattle.mc_exact.proofs.Exactly.{IsBlock}
use Rattle.mc_exact.proofs.Stored.{one_item}
use Rattle.mc_exact.proofs.Instructions.{first_is, blocks_left, blocks_replaced}
use Rattle.mc_exact.specs.Real.{AlarmsAreReal}
use Rattle.mc_exact.specs.Marks.{keeps_exact}
use Rattle.mc_exact.specs.Tracks.{picked, tracked, IsExactTrack, IsClosed, AsksMallocAlone, LinesKeepExact, StuckLacks, StuckIsReal}

-- ---- all edges of an exact branch are blocks

abbrev Blocks : State → Type 0
Blocks s = AllByRecursion (λ e. IsBlock e.1) s.graph.edges

operand_blocks : (s : State) (o : Operand) → Blocks s → Blocks (with_operand s o)
operand_blocks s (Var x) b = b
operand_blocks s (Const k) b = by (int_eq k (pos 0))
  where
    by : (c : Bool) → Blocks (if c then s else with_number s k)
    by true = b
    by false = b

without_blocks : (s : State) (xs : List VarId) → Blocks s → Blocks (without_vars s xs)
without_blocks s [] b = b
without_blocks s (x ∷ xs) b = without_blocks (with_var s x None) xs b

-- a successor that is no side branch and has blocks alone
abbrev IsFine : Next → Type 0
IsFine n = (n.goal ≡ None) × Blocks n.state

one : (n : Next) (q : PointId) (t : State) (ns : List Next) (place : ℕ) → slice_get ns place ≡ Some n → ns ≡ moved_to q t ∷ [] → Blocks t → IsFine n
one n q t ns place e gives b = subst IsFine (first_is n (moved_to q t) ns place e gives) (refl, b)

two : (n : Next) (q r : PointId) (t u : State) (ns : List Next) (place : ℕ) → slice_get ns place ≡ Some n → ns ≡ moved_to q t ∷ moved_to r u ∷ [] → Blocks t → Blocks u → IsFine n
two n q r t u ns place e gives b c = by place (subst (λ (l : List Next). slice_get l place ≡ Some n) gives e)
  where
    by : (place : ℕ) → slice_get (moved_to q t ∷ moved_to r u ∷ []) place ≡ Some n → IsFine n
    by zero h = subst IsFine (one_item (moved_to q t) n h) (refl, b)
    by (suc zero) h = subst IsFine (one_item (moved_to r u) n h) (refl, c)
    by (suc (suc k)) h = cc

module _ (flow : Flow) where
  operands_blocks : (s t : State) (o o' : Operand) → t ≡ with_operand (with_operand s o) o' → Blocks s → Blocks t
  operands_blocks s t o o' is b = subst Blocks (sym is) (operand_blocks (with_operand s o) o' (operand_blocks s o b))

  silent_fine : (p : PointId) (s : State) (ns : List Next) (n : Next) (place : ℕ) → Blocks s → IsSilent flow p s ns → slice_get ns place ≡ Some n → IsFine n
  silent_fine p s ns n place b (rule.S1 i) e = one n i.q s ns place e i.gives b
  silent_fine p s ns n place b (rule.S2 i) e = one n i.q (with_var (with_operand s i.from) i.x (Some i.n)) ns place e i.gives (operand_blocks s i.from b)
  silent_fine p s ns n place b (rule.S3 i) e = one n i.q (without_vars s i.xs) ns place e i.gives (without_blocks s i.xs b)
  silent_fine p s ns n place b (rule.S5 i) e = one n i.q _ ns place e i.computes.gives (operands_blocks s i.computes.before i.o i.o' i.computes.operands b)
  silent_fine p s ns n place b (rule.S6 i) e = one n i.q _ ns place e i.computes.gives (operands_blocks s i.computes.before i.o i.o' i.computes.operands b)
  silent_fine p s ns n place b (rule.S7 i) e = one n i.q _ ns place e i.computes.gives (operands_blocks s i.computes.before i.o i.o' i.computes.operands b)
  silent_fine p s ns n place b (rule.S8 i) e = one n i.q (with_var s i.x (Some i.m)) ns place e i.gives b
  silent_fine p s ns n place b (rule.S9 i) e =
      one n i.q _ ns place e i.gives (blocks_replaced i.before.graph.edges i.block.id i.block.at i.shape (slice_set i.block.fields i.f (Some i.m)) (subst Blocks (sym i.operand) (operand_blocks s i.from b)))
  silent_fine p s ns n place b (rule.S11 i) e = one n i.q (with_operand s i.from) ns place e i.gives (operand_blocks s i.from b)
  silent_fine p s ns n place b (rule.S12 i) e = one n i.q _ ns place e i.gives (blocks_left i.before.graph.edges i.block.id (subst Blocks (sym i.operand) (operand_blocks s i.from b)))
  silent_fine p s ns n place b (rule.S13 i) e = (let c = operands_blocks s i.before i.o i.o' i.operands b in two n i.t i.f _ _ ns place e i.gives c c)
  silent_fine p s ns n place b (rule.S14 i) e = (let c = operands_blocks s i.before i.o i.o' i.operands b in two n i.t i.f _ _ ns place e i.gives c c)
  silent_fine p s ns n place b (rule.S18 i) e = one n i.q s ns place e i.gives b

  malloc_fine : (p : PointId) (s : State) (ns : List Next) (n : Next) (place : ℕ) → Blocks s → S10Is flow p s ns → slice_get ns place ≡ Some n → IsFine n
  malloc_fine p s ns n place b i e =
      two n i.q i.q _ _ ns place e i.gives b (all_append (λ e. IsBlock e.1) s.graph.edges ((record { 0 = s.graph.next }, edge.Block (next_node s) i.shape (replicate (field_count flow.structs i.shape) None)) ∷ []) b (tt, tt))

  pub branch_blocks : {p : PointId} {s : State} {picks : Picks} → IsExactBranch flow p s picks → Blocks s
  branch_blocks entry = tt
  branch_blocks (silent {p} {s} {picks} {ns} n place b i e) = (silent_fine p s ns n place (branch_blocks b) i e).1
  branch_blocks (failed {p} {s} {picks} {ns} n b i e) = (malloc_fine p s ns n 0 (branch_blocks b) i e).1
  branch_blocks (made {p} {s} {picks} {ns} n b i e) = (malloc_fine p s ns n 1 (branch_blocks b) i e).1

  -- ---- lines

  -- the instruction at a point is such as the flow graph has
  pub asks_at : AsksMallocAlone flow → (p : PointId) (code : Instr) → code_at flow p ≡ Some code → IsClosed code
  asks_at asks p code e = by (slice_get flow.points p.0) refl e
    where
      by : (o : Option Point) → slice_get flow.points p.0 ≡ o → option_map (λ (point : Point). point.code) o ≡ Some code → IsClosed code
      by None there h = cc
      by (Some point) there h = subst IsClosed (one_item point.code code h) (all_at (λ (x : Point). IsClosed x.code) flow.points p.0 point there asks)

  pub no_edge : (es : Edges) (id : EdgeId) (x : Edge) → AllByRecursion (λ e. IsBlock e.1) es → edge_with es id ≡ Some x → IsBlock x
  no_edge [] id x all e = cc
  no_edge (y ∷ es) id x all e = by (λ h. no_edge es id x all.1 h) (y.0.0 == id.0) e
    where
      by : (edge_with es id ≡ Some x → IsBlock x) → (b : Bool) → (if b then Some y.1 else edge_with es id) ≡ Some x → IsBlock x
      by later true h = subst IsBlock (one_item y.1 x h) all.0
      by later false h = later h

  path_is : (n : Next) (picks : Picks) → n.goal ≡ None → IsExactBranch flow n.point n.state picks → IsExactTrack flow (path_of n, picks)
  path_is n picks none b = subst (λ (g : Option _). IsExactTrack flow (path_to n.point n.state g, picks)) (sym none) (refl, b)

  all_paths : (ns : List Next) (picks : Picks) → ((i : ℕ) (n : Next) → slice_get ns i ≡ Some n → (n.goal ≡ None) × IsExactBranch flow n.point n.state picks) → AllByRecursion (IsExactTrack flow) (map (λ n. (n, picks)) (map path_of ns))
  all_paths [] picks at = tt
  all_paths (n ∷ ns) picks at = (path_is n picks (at 0 n refl).0 (at 0 n refl).1, all_paths ns picks (λ i m e. at (suc i) m e))

  -- a silent rule keeps the picks
  by_silent : (g : Setting) (b : Path) (next' : List Path) (picks : Picks) (r : InstrRule) → ((ns : List Next) → StepIs r flow b.point b.state ns → IsSilent flow b.point b.state ns)
      → IsExactBranch flow b.point b.state picks → ByStep r flow g b next' → AllByRecursion (IsExactTrack flow) (map (λ n. (n, picks)) next')
  by_silent g b next' picks r into branch step' =
      let steps = step'.1.0 in
      let i = into steps step'.1.1 in
      subst (λ (l : List Path). AllByRecursion (IsExactTrack flow) (map (λ n. (n, picks)) l)) (sym step'.1.2)
      (all_paths steps picks (λ place n e. ((silent_fine b.point b.state steps n place (branch_blocks branch) i e).0, silent n place branch i e)))

  -- a malloc adds a pick to each way
  by_malloc : (g : Setting) (b : Path) (next' : List Path) (picks : Picks) → IsExactBranch flow b.point b.state picks → ByStep step.S10 flow g b next' → AllByRecursion (IsExactTrack flow) (picked b.state picks next')
  by_malloc g b next' picks branch step' =
      let steps = step'.1.0 in
      let i = step'.1.1 in
      let a = moved_to i.q (with_var b.state i.x (Some null)) in
      let c = moved_to i.q (with_var (with_block b.state i.shape (field_count flow.structs i.shape)) i.x (Some (next_node b.state))) in
      let steps_are : steps ≡ a ∷ c ∷ [] = i.gives in
      let next_is : next' ≡ path_of a ∷ path_of c ∷ [] = step'.1.2 ∙ ap (map path_of) steps_are in
      subst (λ (l : List Path). AllByRecursion (IsExactTrack flow) (picked b.state picks l)) (sym next_is) (
        path_is a (picks ++ None ∷ []) refl (failed a branch i (ap (λ (l : List Next). slice_get l 0) steps_are)),
        (path_is c (picks ++ Some (next_node b.state) ∷ []) refl (made c branch i (ap (λ (l : List Next). slice_get l 1) steps_are)), tt),
      )

  none_left : (next' : List Path) (picks : Picks) → next' ≡ [] → AllByRecursion (IsExactTrack flow) (map (λ n. (n, picks)) next')
  none_left next' picks e = subst (λ (l : List Path). AllByRecursion (IsExactTrack flow) (map (λ n. (n, picks)) l)) (sym e) tt

  -- what comes of an exact branch by a rule by which it stays so is exact
  pub exact_step : (g : Setting) (r : InstrRule) (b : Path) (next' : List Path) (picks : Picks) → keeps_exact (line.Step r) ≡ true → IsExactBranch flow b.point b.state picks
      → ByStep r flow g b next' → AllByRecursion (IsExactTrack flow) (tracked (line.Step r) b.state picks next')
  exact_step g step.S1 b next' picks e branch i = by_silent g b next' picks step.S1 (λ ns r. rule.S1 r) branch i
  exact_step g step.S2 b next' picks e branch i = by_silent g b next' picks step.S2 (λ ns r. rule.S2 r) branch i
  exact_step g step.S3 b next' picks e branch i = by_silent g b next' picks step.S3 (λ ns r. rule.S3 r) branch i
  exact_step g step.S4 b next' picks e branch i = absurd (cc e)
  exact_step g step.S5 b next' picks e branch i = by_silent g b next' picks step.S5 (λ ns r. rule.S5 r) branch i
  exact_step g step.S6 b next' picks e branch i = by_silent g b next' picks step.S6 (λ ns r. rule.S6 r) branch i
  exact_step g step.S7 b next' picks e branch i = by_silent g b next' picks step.S7 (λ ns r. rule.S7 r) branch i
  exact_step g step.S8 b next' picks e branch i = by_silent g b next' picks step.S8 (λ ns r. rule.S8 r) branch i
  exact_step g step.S9 b next' picks e branch i = by_silent g b next' picks step.S9 (λ ns r. rule.S9 r) branch i
  exact_step g step.S10 b next' picks e branch i = by_malloc g b next' picks branch i
  exact_step g step.S11 b next' picks e branch i = by_silent g b next' picks step.S11 (λ ns r. rule.S11 r) branch i
  exact_step g step.S12 b next' picks e branch i = by_silent g b next' picks step.S12 (λ ns r. rule.S12 r) branch i
  exact_step g step.S13 b next' picks e branch i = by_silent g b next' picks step.S13 (λ ns r. rule.S13 r) branch i
  exact_step g step.S14 b next' picks e branch i = by_silent g b next' picks step.S14 (λ ns r. rule.S14 r) branch i
  exact_step g step.S15 b next' picks e branch i = absurd (cc e)
  exact_step g step.S16 b next' picks e branch i = absurd (cc e)
  exact_step g step.S17 b next' picks e branch i = none_left next' picks (i.1.2 ∙ ap (map path_of) i.1.1.gives)
  exact_step g step.S18 b next' picks e branch i = by_silent g b next' picks step.S18 (λ ns r. rule.S18 r) branch i

  -- where malloc alone is asked for, so is what comes of it by each rule
  pub step_keeps : (g : Setting) (r : InstrRule) (b : Path) (next' : List Path) (picks : Picks) → AsksMallocAlone flow → ByStep r flow g b next' → keeps_exact (line.Step r) ≡ true
  step_keeps g step.S1 b next' picks asks i = refl
  step_keeps g step.S2 b next' picks asks i = refl
  step_keeps g step.S3 b next' picks asks i = refl
  step_keeps g step.S4 b next' picks asks i = absurd (asks_at asks b.point (instr.Input i.1.1.x i.1.1.q) i.1.1.at)
  step_keeps g step.S5 b next' picks asks i = refl
  step_keeps g step.S6 b next' picks asks i = refl
  step_keeps g step.S7 b next' picks asks i = refl
  step_keeps g step.S8 b next' picks asks i = refl
  step_keeps g step.S9 b next' picks asks i = refl
  step_keeps g step.S10 b next' picks asks i = refl
  step_keeps g step.S11 b next' picks asks i = refl
  step_keeps g step.S12 b next' picks asks i = refl
  step_keeps g step.S13 b next' picks asks i = refl
  step_keeps g step.S14 b next' picks asks i = refl
  step_keeps g step.S15 b next' picks asks i = absurd (asks_at asks b.point (instr.AssumeShape i.1.1.pred i.1.1.x i.1.1.os i.1.1.q) i.1.1.at)
  step_keeps g step.S16 b next' picks asks i = absurd (asks_at asks b.point (instr.AssertShape i.1.1.pred i.1.1.o i.1.1.os i.1.1.q) i.1.1.at)
  step_keeps g step.S17 b next' picks asks i = refl
  step_keeps g step.S18 b next' picks asks i = refl

  -- and so is what comes of it by another line that advances it
  line_keeps : (defs : List Def) (g : Setting) (l : Line) (b : Path) (next' : List Path) (picks : Picks) → AsksMallocAlone flow → advances l ≡ true → IsExactBranch flow b.point b.state picks
      → IsInstance flow defs g l b next' → AllByRecursion (IsExactTrack flow) (tracked l b.state picks next')
  line_keeps defs g (line.Step r) b next' picks asks adv branch i = exact_step g r b next' picks (step_keeps g r b next' picks asks i) branch i
  line_keeps defs g (line.L1 id) b next' picks asks adv branch i = absurd (no_edge b.state.graph.edges id _ (branch_blocks branch) i.1.1.there)
  line_keeps defs g (line.L2 id) b next' picks asks adv branch i = absurd (no_edge b.state.graph.edges id _ (branch_blocks branch) i.1.1.there)
  line_keeps defs g (line.L15 id) b next' picks asks adv branch i = absurd (no_edge b.state.graph.edges id _ (branch_blocks branch) i.1.1.there)
  line_keeps defs g line.L12 b next' picks asks adv branch i = none_left next' picks i.2
  line_keeps defs g other b next' picks asks adv branch i = absurd cc

  -- a stuck branch lacks something, and that is no shape
  stuck_lacks_something : (defs : List Def) (g : Setting) (b : Path) (next' : List Path) → AsksMallocAlone flow → IsInstance flow defs g line.C1 b next' → (gap : Gap) × IsUnmet flow defs b.point b.state gap × ((pred : PredId) (n : NodeId) → gap ≡ NoShape pred n → ⊥)
  stuck_lacks_something defs g b next' asks i = (i.gap, i.unmet, λ pred n is. shape pred n i.unmet.code i.unmet.at (subst (λ (z : Gap). IsGap defs i.unmet.code b.state z) is i.unmet.lacks))
    where
      shape : (pred : PredId) (n : NodeId) (code : Instr) → code_at flow b.point ≡ Some code → IsGap defs code b.state (NoShape pred n) → ⊥
      shape pred n (instr.AssertShape own o os q) is h = asks_at asks b.point (instr.AssertShape own o os q) is
      shape pred n other is h = h.1

pub lines_keep_exact : LinesKeepExact
lines_keep_exact flow defs g l b next' picks asks adv exact i = line_keeps flow defs g l b next' picks asks adv exact.1 i

pub stuck_lacks : StuckLacks
stuck_lacks flow defs g b next' asks i = stuck_lacks_something flow defs g b next' asks i

pub stuck_is_real : AlarmsAreReal → StuckIsReal
stuck_is_real real flow defs g b next' picks know valid size asks exact tells i =
    let lacks = stuck_lacks_something flow defs g b next' asks i in
    real flow defs b.point b.state picks know lacks.0 valid size exact.1 tells lacks.1 lacks.2
