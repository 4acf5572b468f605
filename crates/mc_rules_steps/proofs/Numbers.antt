-- Inputs, sums, differences and products.
use Rattle.std.proofs.Common.{◌≡◌, List, [], ◌∷◌, ◌++◌, Some, refl, sym, ap, ap₂, ◌∙◌, subst, ℤ, ◌+ℤ◌, ◌-ℤ◌, ◌*ℤ◌}
use Rattle.std.specs.List.{AllByRecursion}
use Rattle.mc_base.specs.declared.ids.NodeId.{NodeId}
use Rattle.mc_base.specs.declared.ids.PointId.{PointId}
use Rattle.mc_base.specs.declared.ids.VarId.{VarId}
use Rattle.mc_base.specs.declared.plain.Atom.{Atom}
use Rattle.mc_base.specs.declared.plain.Kind.TheVariants.{Int}
use Rattle.mc_base.specs.declared.text.place.Place.{Place}
use Rattle.mc_base.specs.Atoms.{IsTrueAtom}
use Rattle.mc_base.specs.Nodes.{Valuation}
use Rattle.mc_flow.specs.Heap.Choices.{Choice}
use Rattle.mc_flow.specs.Heap.Choices as choice
use Rattle.mc_flow.specs.Heap.Heap.{region_of}
use Rattle.mc_flow.specs.declared.defs.rules.Def.{Def}
use Rattle.mc_flow.specs.declared.graph.Flow.{Flow}
use Rattle.mc_flow.specs.declared.instr.Operand.{Operand}
use Rattle.mc_flow.specs.declared.instr.Instr.TheVariants as instr
use Rattle.mc_flow.specs.Steps.{Config, Result, Takes, set_to, computed}
use Rattle.mc_flow.specs.Valid.{IsOperand}
use Rattle.mc_flow.specs.Values.{value_of, wrapped}
use Rattle.mc_base.specs.declared.ranges.Range.{Range}
use Rattle.mc_base.specs.Ranges.Range.{Holds}
use Rattle.mc_state.specs.State.{State, next_node, with_nodes, with_var, with_atoms}
use Rattle.mc_state.specs.Fits.{IsBounded}
use Rattle.mc_rules_steps.specs.Next.{Next}
use Rattle.mc_rules_steps.specs.Operands.{with_operand}
use Rattle.mc_rules_steps.specs.Steps.{moved_to, range_atoms, sum_offsets, difference_offsets, no_offsets, Computes, S4Is, S5Is, S6Is, S7Is}
use Rattle.mc_rules_steps.specs.Laws.{IsAt, LeadsOn}
use Rattle.mc_rules_steps.proofs.LowerLaws.{StepLaws}
use Rattle.mc_rules_steps.proofs.Lists.{all_append}
use Rattle.mc_rules_steps.proofs.Moving.{IsSoundAt, step_at, fits_at, leads, first_of_one, set_leads}
use Rattle.mc_rules_steps.proofs.Operands.{two_there, two_met, new_node}
use Rattle.mc_rules_steps.proofs.Tests.{in_range}
use Rattle.mc_rules_steps.proofs.Wrapping.{OffsetsAreTrue, wrapped_int, range_true, sum_offsets_true, difference_offsets_true, no_offsets_true}

module _ (laws : StepLaws) (defs : List Def) where
  input_leads : (p : PointId) (s : State) (next : List Next) (x : VarId) (q : PointId) (v : Valuation) (c : Config) (choices : List Choice) (r : Result)
      → next ≡ moved_to q (with_var (with_nodes s (Int ∷ [])) x (Some (next_node s))) ∷ [] → IsBounded s → IsAt defs v c p s → Takes x q c choices r → LeadsOn defs next r
  input_leads p s next x q v c [] r gives bounded at takes = absurd takes
  input_leads p s next x q v c (choice.input z ∷ choices) r gives bounded at takes =
      let new = new_node laws defs c.vars (region_of c.heap) v s Int z bounded takes.0 at.stands in
      set_leads laws defs next x q (with_nodes s (Int ∷ [])) (next_node s) new.w c choices r (takes.1 ∙ ap (set_to x q c choices) (sym new.here)) gives at.addresses new.stands
  input_leads p s next x q v c (choice.malloc n ∷ choices) r gives bounded at takes = absurd takes
  input_leads p s next x q v c (choice.shape z blocks ∷ choices) r gives bounded at takes = absurd takes

  pub s4_sound : (flow : Flow) (p : PointId) (s : State) (next : List Next) → S4Is flow p s next → IsSoundAt flow defs p s next
  s4_sound flow p s next i v c choices r valid bounded at sides step =
      let st = step_at flow defs p (instr.Input i.x i.q) c choices r i.at at.point step in
      input_leads p s next i.x i.q v c choices r i.gives bounded at st.1

  -- the three operations
  computes_leads : (op : ℤ → ℤ → ℤ) (offsets : NodeId → NodeId → NodeId → Range → Range → List Atom) → OffsetsAreTrue op offsets
      → (flow : Flow) (p : PointId) (s : State) (next : List Next) (x : VarId) (o o' : Operand) (q : PointId) (i : Computes op offsets x o o' q s next)
      (v : Valuation) (place : Place) (c : Config) (choices : List Choice) (r : Result)
      → IsOperand flow.vars Int o → IsOperand flow.vars Int o' → IsBounded s → IsAt defs v c p s → r ≡ computed op x q place c choices (value_of c.vars o) (value_of c.vars o') → LeadsOn defs next r
  computes_leads op offsets are_true flow p s next x o o' q i v place c choices r fits fits' bounded at e =
      let region = region_of c.heap in
      let both = with_operand (with_operand s o) o' in
      let there = two_there laws.bounds s o o' i.a i.b bounded i.left_known i.right_known in
      let met = two_met laws defs c.vars region v s flow.vars Int o o' i.a i.b fits fits' i.left_known i.right_known bounded at.stands in
      let left = in_range laws defs met.0.w c both i.a i.left at.addresses met.0.stands i.left_range in
      let right = in_range laws defs met.0.w c both i.b i.right at.addresses met.0.stands i.right_range in
      let z : ℤ = wrapped (op (met.0.w i.a.0) (met.0.w i.b.0)) in
      let new = new_node laws defs c.vars region met.0.w both Int z there.bounded (wrapped_int (op (met.0.w i.a.0) (met.0.w i.b.0))) met.0.stands in
      let w = new.w in
      let a_same : w i.a.0 ≡ met.0.w i.a.0 = new.agrees i.a.0 (laws.bounds.below both i.a there.bounded there.all.0) in
      let b_same : w i.b.0 ≡ met.0.w i.b.0 = new.agrees i.b.0 (laws.bounds.below both i.b there.bounded there.all.1.0) in
      let n = next_node both in
      let value : w n.0 ≡ wrapped (op (w i.a.0) (w i.b.0)) = new.here ∙ ap wrapped (ap₂ op (sym a_same) (sym b_same)) in
      let l : Holds i.left (w i.a.0) = subst (Holds i.left) (sym a_same) left in
      let h : Holds i.right (w i.b.0) = subst (Holds i.right) (sym b_same) right in
      let ranges = range_atoms op n i.left i.right i.results in
      let atoms = ranges ++ offsets n i.a i.b i.left i.right in
      let hold : AllByRecursion (IsTrueAtom w) atoms =
      all_append (IsTrueAtom w) ranges (offsets n i.a i.b i.left i.right) (range_true op w n i.a i.b i.left i.right i.results i.results_range l h value) (are_true w n i.a i.b i.left i.right l h value) in
      let set = with_var (with_nodes both (Int ∷ [])) x (Some n) in
      let stands = laws.states.set defs w c.vars region (with_nodes both (Int ∷ [])) x n new.stands in
      let goes : r ≡ set_to x q c choices (w n.0) = e ∙ ap₂ (computed op x q place c choices) met.1 met.2 ∙ ap (set_to x q c choices) (sym new.here) in
      let gives = subst
      (λ (t : State). next ≡ moved_to q (with_atoms (with_var (with_nodes t (Int ∷ [])) x (Some (next_node t))) (range_atoms op (next_node t) i.left i.right i.results ++ offsets (next_node t) i.a i.b i.left i.right)) ∷ [])
      i.operands i.gives in
      leads defs next 0 q (with_atoms set atoms) w _ choices r goes (first_of_one next (moved_to q (with_atoms set atoms)) gives) refl at.addresses
      (laws.states.atoms defs w _ region set atoms hold stands)

  pub s5_sound : (flow : Flow) (p : PointId) (s : State) (next : List Next) → S5Is flow p s next → IsSoundAt flow defs p s next
  s5_sound flow p s next i v c choices r valid bounded at sides step =
      let st = step_at flow defs p (instr.Add i.x i.o i.o' i.q) c choices r i.at at.point step in
      let fits = fits_at flow defs p (instr.Add i.x i.o i.o' i.q) valid i.at in
      computes_leads (λ a b. a +ℤ b) sum_offsets sum_offsets_true flow p s next i.x i.o i.o' i.q i.computes v st.0 c choices r fits.1 fits.2 bounded at st.1

  pub s6_sound : (flow : Flow) (p : PointId) (s : State) (next : List Next) → S6Is flow p s next → IsSoundAt flow defs p s next
  s6_sound flow p s next i v c choices r valid bounded at sides step =
      let st = step_at flow defs p (instr.Sub i.x i.o i.o' i.q) c choices r i.at at.point step in
      let fits = fits_at flow defs p (instr.Sub i.x i.o i.o' i.q) valid i.at in
      computes_leads (λ a b. a -ℤ b) difference_offsets difference_offsets_true flow p s next i.x i.o i.o' i.q i.computes v st.0 c choices r fits.1 fits.2 bounded at st.1

  pub s7_sound : (flow : Flow) (p : PointId) (s : State) (next : List Next) → S7Is flow p s next → IsSoundAt flow defs p s next
  s7_sound flow p s next i v c choices r valid bounded at sides step =
      let st = step_at flow defs p (instr.Mul i.x i.o i.o' i.q) c choices r i.at at.point step in
      let fits = fits_at flow defs p (instr.Mul i.x i.o i.o' i.q) valid i.at in
      computes_leads (λ a b. a *ℤ b) no_offsets no_offsets_true flow p s next i.x i.o i.o' i.q i.computes v st.0 c choices r fits.1 fits.2 bounded at st.1
