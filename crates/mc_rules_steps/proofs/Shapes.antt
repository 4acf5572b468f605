-- Shapes that are assumed and asserted, and the empty heap.
use Rattle.std.proofs.Common.{◌≡◌, ℕ, zero, suc, List, [], ◌∷◌, map, take, Some, slice_get, refl, sym, ap, ◌∙◌, subst, inl, inr, ℤ}
use Rattle.mc_base.specs.declared.ids.NodeId.{NodeId}
use Rattle.mc_base.specs.declared.ids.PointId.{PointId}
use Rattle.mc_base.specs.declared.ids.PredId.{PredId}
use Rattle.mc_base.specs.declared.ids.VarId.{VarId}
use Rattle.mc_base.specs.declared.plain.FaultKind.TheVariants as faults
use Rattle.mc_base.specs.declared.plain.Kind.{Kind}
use Rattle.mc_base.specs.declared.plain.Kind.TheVariants.{Ptr}
use Rattle.mc_base.specs.Kinds.{InKind}
use Rattle.mc_base.specs.Nodes.{Valuation, at_node}
use Rattle.mc_flow.specs.Heap.Adding.{part_of, with_blocks}
use Rattle.mc_flow.specs.Heap.Choices.{Choice}
use Rattle.mc_flow.specs.Heap.Choices as choice
use Rattle.mc_flow.specs.Heap.Heap.{Region, region_of}
use Rattle.mc_flow.specs.Heap.Parts.{IsEmpty}
use Rattle.mc_flow.specs.declared.defs.rules.Def.{Def}
use Rattle.mc_flow.specs.declared.defs.shapes.StructInfo.{StructInfo}
use Rattle.mc_flow.specs.Defs.Conditions.{DefsFit, DefFits, RuleFitsStructs}
use Rattle.mc_flow.specs.Defs.Meaning.{SatAt, HoldsSomewhere}
use Rattle.mc_flow.specs.Defs.Values.{InKinds}
use Rattle.mc_flow.specs.declared.graph.Flow.{Flow}
use Rattle.mc_flow.specs.declared.instr.Instr.TheVariants as instr
use Rattle.mc_flow.specs.Steps.{Config, Result, AddsShape, Assumes, Asserts, Demands, at_point, set_to}
use Rattle.mc_flow.specs.Values.{value_of, values_of}
use Rattle.mc_state.specs.declared.graph.edge.Edge.TheVariants as edge
use Rattle.mc_state.specs.State.{State, next_node, with_nodes, with_edges, with_var}
use Rattle.mc_state.specs.Fits.{AreNodes, IsBounded}
use Rattle.mc_state.specs.Stands.{EdgeMeets}
use Rattle.mc_state.specs.Rules.{GoalHolds}
use Rattle.mc_rules_steps.specs.Next.{Next}
use Rattle.mc_rules_steps.specs.Operands.{with_operand, with_operands}
use Rattle.mc_rules_steps.specs.Steps.{moved_to, S15Is, S16Is, S18Is}
use Rattle.mc_rules_steps.specs.Laws.{IsAt, LeadsOn}
use Rattle.mc_rules_steps.proofs.LowerLaws.{StepLaws}
use Rattle.mc_rules_steps.proofs.Lists.{all_at}
use Rattle.mc_rules_steps.proofs.Moving.{IsSoundAt, step_at, fits_at, leads, set_leads_at}
use Rattle.mc_rules_steps.proofs.Operands.{operand_there, many_there, operand_met, many_met, new_node}
use Rattle.mc_rules_steps.proofs.Parts.{one_part}

-- ---- what a predicate holds of is a pointer

first_pointer : (kinds : List Kind) (count : ℕ) (params : List Kind) (names : List ℤ) (z : ℤ) (others : List ℤ) → take (suc count) kinds ≡ Ptr ∷ params → names ≡ z ∷ others → InKinds kinds names → InKind Ptr z
first_pointer [] count params names z others e is a = cc
first_pointer (k ∷ kinds) count params [] z others e is a = cc
first_pointer (k ∷ kinds) count params (y ∷ ys) z others e is a =
    let kind : k ≡ Ptr = cc in
    let value : y ≡ z = cc in
    subst (InKind Ptr) value (subst (λ j. InKind j y) kind a.0)

pointer_at : (structs : List StructInfo) (defs : List Def) (pred : PredId) (z : ℤ) (args : List ℤ) (region : Region) (height : ℕ) → DefsFit structs defs → SatAt defs height pred z args region → InKind Ptr z
pointer_at structs defs pred z args region zero fit h = absurd h
pointer_at structs defs pred z args region (suc height) fit h =
    let by = h.0 in
    let rules = (all_at (DefFits structs defs) defs pred.0 by.def by.defined fit).rules in
    let rule_fits = all_at (RuleFitsStructs structs defs by.def.params) by.def.rules by.place by.rule by.listed rules in
    first_pointer by.rule.names _ by.def.params by.names z _ rule_fits.fits.names.front by.front by.kinds

module _ (laws : StepLaws) (defs : List Def) where
  assumed_leads : (flow : Flow) (p : PointId) (before : State) (next : List Next) (pred : PredId) (x : VarId) (q : PointId) (args : List NodeId) (w : Valuation) (c : Config) (choices : List Choice) (r : Result)
      → next ≡ moved_to q (with_var (with_edges (with_nodes before (Ptr ∷ [])) (edge.Ind (next_node before) pred args ∷ [])) x (Some (next_node before))) ∷ []
      → DefsFit flow.structs.list defs → IsBounded before → AreNodes before.kinds args → IsAt defs w c p before → AddsShape defs pred (map (at_node w) args) x q c choices r → LeadsOn defs next r
  assumed_leads flow p before next pred x q args w c [] r gives fit bounded there stood step = absurd step
  assumed_leads flow p before next pred x q args w c (choice.input z ∷ choices) r gives fit bounded there stood step = absurd step
  assumed_leads flow p before next pred x q args w c (choice.malloc n ∷ choices) r gives fit bounded there stood step = absurd step
  assumed_leads flow p before next pred x q args w c (choice.shape z blocks ∷ choices) r gives fit bounded there stood step =
      let region = region_of c.heap in
      let part = part_of blocks in
      let holds = step.1 in
      let new = new_node laws defs c.vars region w before Ptr z bounded (pointer_at flow.structs.list defs pred z (map (at_node w) args) part holds.height fit holds.holds) stood.stands in
      let u = new.w in
      let t = with_nodes before (Ptr ∷ []) in
      let n = next_node before in
      let made = edge.Ind n pred args in
      let same : map (at_node u) args ≡ map (at_node w) args = laws.states.agree before w u args bounded new.agrees there in
      let meets : EdgeMeets defs u made part = rw (new.here, same) holds in
      let heap = with_blocks c.heap blocks in
      let after = region_of heap in
      let stands = laws.states.put defs u c.vars after part region t (made ∷ []) (laws.heaps.blocks c.heap blocks step.0) (one_part laws defs (EdgeMeets defs u) made part meets) new.stands in
      let d : Config = record { point = c.point; vars = c.vars; heap = heap } in
      set_leads_at laws defs next 0 x q (with_edges t (made ∷ [])) n u d choices r (step.2 ∙ ap (set_to x q d choices) (sym new.here)) (ap (λ xs. slice_get xs 0) gives)
      (laws.heaps.blocks_keep c.heap blocks step.0 stood.addresses) stands

  pub s15_sound : (flow : Flow) (p : PointId) (s : State) (next : List Next) → S15Is flow p s next → IsSoundAt flow defs p s next
  s15_sound flow p s next i v c choices r valid bounded stood sides step =
      let code = instr.AssumeShape i.pred i.x i.os i.q in
      let st = step_at flow defs p code c choices r i.at stood.point step in
      let fits = fits_at flow defs p code valid i.at in
      let there = many_there laws.bounds i.os s i.args bounded i.known in
      let met = many_met laws defs c.vars (region_of c.heap) flow.vars i.os fits.1.def.params v s i.args fits.1.args i.known bounded stood.stands in
      let w = met.0.w in
      let adds : AddsShape defs i.pred (map (at_node w) i.args) i.x i.q c choices r = subst (λ o. Assumes defs i.pred i.x i.q st.0 c choices o r) met.1 st.1 in
      let gives = subst (λ (t : State). next ≡ moved_to i.q (with_var (with_edges (with_nodes t (Ptr ∷ [])) (edge.Ind (next_node t) i.pred i.args ∷ [])) i.x (Some (next_node t))) ∷ []) i.operands i.gives in
      assumed_leads flow p (with_operands s i.os) next i.pred i.x i.q i.args w c choices r gives valid.definitions there.bounded there.all
      (record { point = stood.point; addresses = stood.addresses; stands = met.0.stands }) adds

  pub s16_sound : (flow : Flow) (p : PointId) (s : State) (next : List Next) → S16Is flow p s next → IsSoundAt flow defs p s next
  s16_sound flow p s next i v c choices r valid bounded stood sides step =
      let region = region_of c.heap in
      let code = instr.AssertShape i.pred i.o i.os i.q in
      let st = step_at flow defs p code c choices r i.at stood.point step in
      let fits = fits_at flow defs p code valid i.at in
      let first = with_operand s i.o in
      let there = operand_there laws.bounds s i.o i.n bounded i.known in
      let one = operand_met laws defs c.vars region v s flow.vars Ptr i.o i.n fits.0 i.known bounded stood.stands in
      let many = many_met laws defs c.vars region flow.vars i.os fits.1.def.params one.0.w first i.args fits.1.args i.args_known there.bounded one.0.stands in
      let w = many.0.w in
      let same : w i.n.0 ≡ one.0.w i.n.0 = many.0.agrees i.n.0 (laws.bounds.below first i.n there.bounded there.all.0) in
      let value : value_of c.vars i.o ≡ Some (w i.n.0) = one.1 ∙ ap Some (sym same) in
      let asserts : Demands (HoldsSomewhere defs i.pred (w i.n.0) (map (at_node w) i.args) region) faults.Shape i.q st.0 c choices r =
      subst (λ o. Asserts defs i.pred i.q st.0 c choices (Some (w i.n.0)) o r) many.1 (subst (λ o. Asserts defs i.pred i.q st.0 c choices o (values_of c.vars i.os) r) value st.1) in
      let side : Next = record { point = p; goal = Some i.goal; state = with_operands first i.os } in
      let listed : slice_get next 0 ≡ Some side = ap (λ xs. slice_get xs 0) i.gives ∙ ap Some i.side_is in
      let shown : GoalHolds defs w region i.goal = sides 0 side i.goal w listed refl (record { point = stood.point; addresses = stood.addresses; stands = many.0.stands }) in
      let holds : HoldsSomewhere defs i.pred (w i.n.0) (map (at_node w) i.args) region = subst (GoalHolds defs w region) i.goal_is shown in
      elim asserts [
        | inl goes ↦ leads defs next 1 i.q s v (at_point i.q c) choices r goes.1 (ap (λ xs. slice_get xs 1) i.gives) refl stood.addresses stood.stands
        | inr fails ↦ absurd (fails.0 holds)
      ]

  pub s18_sound : (flow : Flow) (p : PointId) (s : State) (next : List Next) → S18Is flow p s next → IsSoundAt flow defs p s next
  s18_sound flow p s next i v c choices r valid bounded stood sides step =
      let region = region_of c.heap in
      let st = step_at flow defs p (instr.AssertEmpty i.q) c choices r i.at stood.point step in
      let empty : IsEmpty region = laws.states.whole defs c.vars region s i.whole i.none (v, stood.stands) in
      elim st.1 [
        | inl goes ↦ leads defs next 0 i.q s v (at_point i.q c) choices r goes.1 (ap (λ xs. slice_get xs 0) i.gives) refl stood.addresses stood.stands
        | inr fails ↦ absurd (fails.0 empty)
      ]
